use Rattle.std.proofs.Common.{◌≡◌, ◌∷◌, false, refl, ap, sym, subst, ◌∙◌}
use Rattle.std.specs.Ordering.{is_lt}
use Rattle.lake_base.specs.Maps.{HasAscendingKeys, byte_order}
use Rattle.lake_values.specs.Cursor.{entries_from}
use Rattle.lake_values.proofs.CursorLemmas.{seek_stays}
use Rattle.branch_record.specs.Layers.{rows_ahead}
use Rattle.branch_record.proofs.LayerCursorLemmas.{Row, tested}
use Rattle.branch_record.proofs.ahead.AheadEntryCursor.seek.Goals as goal

pub returns-else-is_below-clause-from : goal.returns-else-is_below-clause-from
returns-else-is_below-clause-from g c =
    let least = c.args.least.now in
    let after = g.C.EntriesLeft.left c.self.inside.after in
    let row : Row = (c.in-Some.first.now, c.in-Some.field-0-1.now) in
    let whole : c.args.self.now ≡ row ∷ after = sym c.self.view_is ∙ ap (λ first. rows_ahead first after) c.in-Some.is in
    let sorted : HasAscendingKeys (row ∷ after) = subst (λ first. HasAscendingKeys (rows_ahead first after)) c.in-Some.is c.self.invariant in
    let never : is_lt (byte_order row.0 least) ≡ false =
    tested _ least row.0 least c.is_below.result false c.as_slice.ensures.bytes refl c.is_below.ensures c.if-is_below.false in
    whole ∙ sym (ap (entries_from least) whole ∙ seek_stays least row after sorted never)
