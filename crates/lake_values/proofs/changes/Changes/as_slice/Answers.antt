use Rattle.std.proofs.Common.{ap, sym, ◌∙◌}
use Rattle.std.specs.FinMap.{entries, entries-from_sorted}
use Rattle.lake_base.specs.Maps.{byte_order}
use Rattle.lake_values.proofs.changes.Changes.as_slice.Goals as goal

pub returns-clause-changes : goal.returns-clause-changes
returns-clause-changes c =
    c.as_slice.ensures.value ∙ sym (entries-from_sorted byte_order c.self.inside.changes.items c.self.invariant.0) ∙ ap entries c.self.view_is
