use Rattle.std.proofs.Common.{sym, ◌∙◌}
use Rattle.std.specs.FinMap.{from_entries}
use Rattle.lake_values.proofs.ResetLemmas.{reset_object}
use Rattle.branch_record.proofs.ChangesLemmas.{rows_removed}
use Rattle.branch_record.proofs.ordered.drop_path.Goals as goal

pub returns : goal.returns
returns c =
    rows_removed c.args.rows.now.entries c.remove-change.new.self.entries c.args.path.now c.remove-change.ensures.updates.0
    ∙ sym (reset_object c.args.path.now (from_entries c.args.rows.now.entries))
