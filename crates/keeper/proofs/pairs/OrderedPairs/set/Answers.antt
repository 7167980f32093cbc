use Rattle.std.proofs.Common.{ap, ◌∙◌}
use Rattle.std.specs.FinMap.{insert}
use Rattle.keeper.proofs.PairsLemmas.{rows_set}
use Rattle.keeper.proofs.pairs.OrderedPairs.set.Goals as goal

pub returns-in-Ok-clause-set : goal.returns-in-Ok-clause-set
returns-in-Ok-clause-set c =
    rows_set c.self.inside.rows.entries c.insert.new.self.entries c.args.key c.args.value c.in-Ok.ensures.updates.0
    ∙ ap (λ m. insert m c.args.key c.args.value) c.self.view_is
