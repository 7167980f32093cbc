use Rattle.std.proofs.Common.{ap, ◌∙◌, [], reverse}
use Rattle.std.specs.FinMap.{entries}
use Rattle.keeper.specs.Keepers.{entries_of, pairs_after, pairs_over}
use Rattle.keeper.proofs.SureLemmas.{none_after, over_none, entries_held}
use Rattle.keeper.proofs.sure.SureKeeper.holding.Goals as goal

pub returns : goal.returns
returns c =
    let es = entries_of c.args.pairs.items in
    ap (λ l. entries (pairs_after (reverse l) (pairs_over es c.new.result))) c.new-2.ensures.items
    ∙ ap entries (none_after (pairs_over es c.new.result) ∙ ap (pairs_over es) c.new.ensures ∙ over_none es)
    ∙ entries_held c.args.pairs.items c.requires
