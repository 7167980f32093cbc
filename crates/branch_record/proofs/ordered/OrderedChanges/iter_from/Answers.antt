use Rattle.std.proofs.Common.{ap, sym, ◌∙◌}
use Rattle.lake_values.specs.Cursor.{entries_from}
use Rattle.branch_record.proofs.ChangesLemmas.{entries_rows}
use Rattle.branch_record.proofs.CursorLemmas.{between_from}
use Rattle.branch_record.proofs.ordered.OrderedChanges.iter_from.Goals as goal

pub returns : goal.returns
returns c =
    let rows = c.self.inside.rows.entries in
    rw (← c.self.view_is)
    (c.range.ensures.between tt ∙ between_from c.args.path.now rows ∙ ap (entries_from c.args.path.now) (sym (entries_rows rows c.range.ensures.ordered)))
