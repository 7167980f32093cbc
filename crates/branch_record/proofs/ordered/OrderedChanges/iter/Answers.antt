use Rattle.std.proofs.Common.{sym, ◌∙◌}
use Rattle.branch_record.proofs.ChangesLemmas.{entries_rows}
use Rattle.branch_record.proofs.CursorLemmas.{between_all}
use Rattle.branch_record.proofs.ordered.OrderedChanges.iter.Goals as goal

pub returns : goal.returns
returns c = rw (← c.self.view_is)
    (c.range.ensures.between tt ∙ between_all c.self.inside.rows.entries ∙ sym (entries_rows c.self.inside.rows.entries c.range.ensures.ordered))
