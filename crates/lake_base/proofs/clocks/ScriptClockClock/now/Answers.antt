use Rattle.std.proofs.Common.{arith}
use Rattle.std.proofs.lemmas.Grind.{common_steps}
use Rattle.lake_base.proofs.ClocksLemmas.{first_moments-length, first_moments-next}
use Rattle.lake_base.proofs.clocks.ScriptClockClock.now.Goals as goal

pub returns-clause-reading : goal.returns-clause-reading
returns-clause-reading c = grind (arith, common_steps, first_moments-next c.self.inside.moments.items c.self.inside.given)

pub returns-clause-kept : goal.returns-clause-kept
returns-clause-kept c = grind (arith, common_steps, first_moments-length c.self.inside.moments.items c.self.inside.given)
