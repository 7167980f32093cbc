use Rattle.std.proofs.Common.{arith}
use Rattle.std.proofs.lemmas.Grind.{common_steps}
use Rattle.lake_values.specs.Sameness.{same_entry}
use Rattle.lake_values.proofs.entry.same_entry.Goals as goal

pub returns-then-eq : goal.returns-then-eq
unfolding same_entry
returns-then-eq c = rw (← c.entry.view_is, ← c.other.view_is) (grind (arith, common_steps))

pub returns-else-eq : goal.returns-else-eq
unfolding same_entry
returns-else-eq c = rw (← c.entry.view_is, ← c.other.view_is) (grind (arith, common_steps))
