use Rattle.std.proofs.Common.{sym, ap, ◌∙◌}
use Rattle.std.specs.Bool.{◌==◌}
use Rattle.branch_record.proofs.ChangesLemmas.{len_rows}
use Rattle.branch_record.proofs.ordered.OrderedChanges.is_empty.Goals as goal

pub returns : goal.returns
returns c = rw (← c.self.view_is) (ap (λ n. n == 0) (c.len.ensures.len ∙ sym (len_rows c.self.inside.rows.entries c.len.ensures.ordered)))
