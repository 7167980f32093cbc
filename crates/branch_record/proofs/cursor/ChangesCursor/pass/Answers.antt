use Rattle.std.proofs.Common.{◌≡◌, ◌∷◌, drop, true, false, sym, subst, ◌∙◌}
use Rattle.std.specs.Ordering.{is_lt}
use Rattle.lake_base.specs.Maps.{HasAscendingKeys, byte_order}
use Rattle.branch_record.proofs.CursorLemmas.{Row, one_passed}
use Rattle.branch_record.proofs.LayerCursorLemmas.{above_passed, tested}
use Rattle.branch_record.proofs.cursor.ChangesCursor.pass.Goals as goal

pub returns-then-not-is_below : goal.returns-then-not-is_below
returns-then-not-is_below c =
    let path = c.args.path.now in
    let old = c.args.self.now in
    let row : Row = (c.in-Some.first.now, c.in-Some.field-0-1.now) in
    let whole : old ≡ row ∷ drop 1 old = c.in-Some.ensures.first in
    let sorted : HasAscendingKeys (row ∷ drop 1 old) = subst HasAscendingKeys whole c.in-Some.ensures.ascend in
    let at : is_lt (byte_order path row.0) ≡ false =
    tested _ _ path row.0 c.is_below.result false c.as_slice.ensures.bytes c.as_slice-2.ensures.bytes c.is_below.ensures c.if-not-is_below.true in
    one_passed c.next-passed.result old c.next-passed.new.self c.next-passed.ensures
    ∙ sym (above_passed path old row (drop 1 old) false whole sorted c.requires at)

pub returns-else-not-is_below : goal.returns-else-not-is_below
returns-else-not-is_below c =
    let path = c.args.path.now in
    let old = c.args.self.now in
    let row : Row = (c.in-Some.first.now, c.in-Some.field-0-1.now) in
    let whole : old ≡ row ∷ drop 1 old = c.in-Some.ensures.first in
    let sorted : HasAscendingKeys (row ∷ drop 1 old) = subst HasAscendingKeys whole c.in-Some.ensures.ascend in
    let above : is_lt (byte_order path row.0) ≡ true =
    tested _ _ path row.0 c.is_below.result true c.as_slice.ensures.bytes c.as_slice-2.ensures.bytes c.is_below.ensures c.if-not-is_below.false in
    whole ∙ sym (above_passed path old row (drop 1 old) true whole sorted c.requires above)
