use Rattle.std.proofs.Common.{ap, sym, ◌∙◌}
use Rattle.std.specs.FinMap.{entries, entries-from_sorted}
use Rattle.lake_base.specs.Maps.{byte_order}
use Rattle.lake_values.proofs.key_map.KeyMap.as_slice.Goals as goal

pub returns-clause-entries : goal.returns-clause-entries
returns-clause-entries c =
    c.as_slice.ensures.value ∙ sym (entries-from_sorted byte_order c.self.inside.entries.items c.self.invariant.0) ∙ ap entries c.self.view_is
