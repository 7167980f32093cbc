use Rattle.std.proofs.Common.{◌≡◌, ◌∷◌, false, ap, sym, subst, ◌∙◌}
use Rattle.std.specs.Ordering.{is_lt}
use Rattle.lake_base.specs.Maps.{HasAscendingKeys, byte_order}
use Rattle.lake_values.specs.Cursor.{entries_from}
use Rattle.lake_values.proofs.CursorLemmas.{seek_stays}
use Rattle.range_file.specs.Rows.{RowValue}
use Rattle.key_merge.specs.MergeWalk.{rows_ahead}
use Rattle.key_merge.proofs.rows.Rows.pass_below.Goals as goal

pub returns-else-is_below-clause-from : goal.returns-else-is_below-clause-from
returns-else-is_below-clause-from c =
    let path = c.args.path.now in
    let after = c.self.inside.after in
    let row : RowValue = (c.in-Some.first.now, c.in-Some.field-0-1.now) in
    let whole : c.args.self.now ≡ row ∷ after = sym c.self.view_is ∙ ap (λ first. rows_ahead first after) c.in-Some.is in
    let sorted : HasAscendingKeys (row ∷ after) = subst (λ first. HasAscendingKeys (rows_ahead first after)) c.in-Some.is c.self.invariant in
    let never : is_lt (byte_order row.0 path) ≡ false =
    (λ i. is_lt (byte_order (sym c.as_slice.ensures.bytes i) (sym c.as_slice-2.ensures.bytes i))) ∙ sym c.is_below.ensures ∙ c.if-is_below.false in
    whole ∙ sym (ap (entries_from path) whole ∙ seek_stays path row after sorted never)
