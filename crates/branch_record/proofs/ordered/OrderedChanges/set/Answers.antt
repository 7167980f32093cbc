use Rattle.std.proofs.Common.{ap, ◌∙◌}
use Rattle.std.specs.FinMap.{insert}
use Rattle.branch_record.proofs.ChangesLemmas.{rows_set}
use Rattle.branch_record.proofs.ordered.OrderedChanges.set.Goals as goal

pub returns-in-Ok-clause-set : goal.returns-in-Ok-clause-set
returns-in-Ok-clause-set c =
    rows_set c.self.inside.rows.entries c.insert.new.self.entries c.args.path c.args.change c.in-Ok.ensures.updates.0
    ∙ ap (λ m. insert m c.args.path c.args.change) c.self.view_is
