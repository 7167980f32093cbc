use Rattle.std.proofs.Common.{sym, ◌∙◌}
use Rattle.branch_record.proofs.ChangesLemmas.{get_rows}
use Rattle.branch_record.proofs.ordered.OrderedChanges.get.Goals as goal

pub returns : goal.returns
returns c = rw (← c.self.view_is) (c.get.ensures.value ∙ sym (get_rows c.self.inside.rows.entries c.args.path.now))
