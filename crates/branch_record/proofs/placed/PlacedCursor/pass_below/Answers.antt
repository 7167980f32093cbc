use Rattle.std.proofs.Common.{◌≡◌, ◌∷◌, false, drop, ap, sym, subst, ◌∙◌}
use Rattle.std.specs.Ordering.{is_lt}
use Rattle.lake_base.specs.Maps.{HasAscendingKeys, byte_order}
use Rattle.lake_values.specs.Cursor.{entries_from}
use Rattle.lake_values.proofs.CursorLemmas.{seek_stays}
use Rattle.branch_record.proofs.CursorLemmas.{Row}
use Rattle.branch_record.proofs.placed.PlacedCursor.pass_below.Goals as goal

pub returns-then-not-is_below : goal.returns-then-not-is_below
returns-then-not-is_below c =
    let least = c.args.least.now in
    let left = c.loop-path.self in
    let row : Row = (c.in-Some.path.now, c.in-Some.field-0-1.now) in
    let whole : left ≡ row ∷ drop 1 left = c.in-Some.ensures.first in
    let sorted : HasAscendingKeys (row ∷ drop 1 left) = subst HasAscendingKeys whole c.first.ensures.ascend in
    let never : is_lt (byte_order row.0 least) ≡ false = cc in
    whole ∙ sym (seek_stays least row (drop 1 left) sorted never) ∙ sym (ap (entries_from least) whole) ∙ c.loop-path.invariant
