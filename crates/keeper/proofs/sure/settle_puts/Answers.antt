use Rattle.std.proofs.Common.{ap, sym, ◌∙◌, reverse}
use Rattle.keeper.specs.Keepers.{pairs_after}
use Rattle.keeper.proofs.SureLemmas.{next_put}
use Rattle.keeper.proofs.sure.settle_puts.Goals as goal

pub loop-put-preserved : goal.loop-put-preserved
loop-put-preserved c =
    ap (pairs_after (reverse c.pop.new.self.items)) c.in-Ok.ensures.made
    ∙ sym (next_put c.loop-put.waiting.items c.pop.new.self.items c.in-Some.put c.loop-put.pairs c.in-Some.ensures.items)
    ∙ c.loop-put.invariant
