use Rattle.std.proofs.Common.{ap, sym, ◌∙◌}
use Rattle.std.specs.FinMap.{from_entries}
use Rattle.lake_base.specs.Maps.{byte_order}
use Rattle.lake_values.specs.Reset.{changes_after_reset}
use Rattle.lake_values.proofs.ResetLemmas.{reset_all}
use Rattle.branch_record.proofs.ordered.OrderedChanges.reset.Goals as goal

pub returns-in-All : goal.returns-in-All
returns-in-All c =
    ap (from_entries {R = byte_order}) c.clear.ensures.empty ∙ sym (reset_all c.args.self.now)
    ∙ ap (λ w. changes_after_reset w c.args.self.now) (sym c.in-All.is)
