-- The lines so far, and those of the items that are left.
use Rattle.std.proofs.Common.{◌≡◌, ◌++◌, drop}
use Rattle.std.specs.Option.{option_map}
use Rattle.serde_json.specs.View.{items_view}
use Rattle.lakectl_shown.specs.ShownReplies.{lines_of}
use Rattle.lakectl_shown.proofs.pages.lines_of.Given as goal

abbrev pub invariant-loop-item : goal.invariant-loop-item
invariant-loop-item l =
    option_map (λ rest. l.out.items ++ rest) (lines_of l.fn.lines (items_view (drop l.item-index l.items))) ≡ lines_of l.fn.lines (items_view l.fn.items)
