use Rattle.std.proofs.Common.{ap, ◌∙◌}
use Rattle.std.specs.FinMap.{remove}
use Rattle.keeper.proofs.PairsLemmas.{rows_removed}
use Rattle.keeper.proofs.pairs.OrderedPairs.remove.Goals as goal

pub returns : goal.returns
returns c =
    rows_removed c.self.inside.rows.entries c.remove-value.new.self.entries c.args.key c.remove-value.ensures.updates.0
    ∙ ap (λ m. remove m c.args.key) c.self.view_is
