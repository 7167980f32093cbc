use Rattle.std.proofs.Common.{ap, ◌∙◌}
use Rattle.keeper.specs.Keepers.{entries_of, pairs_over}
use Rattle.keeper.proofs.SureLemmas.{over_more}
use Rattle.keeper.proofs.sure.settle_pairs.Goals as goal

pub loop-pair-preserved : goal.loop-pair-preserved
loop-pair-preserved c =
    ap (pairs_over (entries_of c.pop.new.self.items)) c.in-Ok.ensures.set
    ∙ over_more c.loop-pair.given.items c.pop.new.self.items c.in-Some.pair c.loop-pair.pairs c.in-Some.ensures.items
    ∙ c.loop-pair.invariant
