use Rattle.std.proofs.Common.{ap, sym, ◌∙◌}
use Rattle.std.specs.FinMap.{get, find, get-from_sorted}
use Rattle.lake_base.specs.Maps.{byte_order}
use Rattle.lake_values.proofs.changes.Changes.get.Goals as goal

pub returns : goal.returns
returns c =
    c.value_at.ensures ∙ ap (find byte_order c.args.path.now) c.as_slice.ensures.value
    ∙ sym (get-from_sorted byte_order c.self.inside.changes.items c.args.path.now c.self.invariant.0) ∙ ap (λ m. get m c.args.path.now) c.self.view_is
