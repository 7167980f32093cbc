use Rattle.std.proofs.Common.{◌≡◌, ◌∷◌, refl, List, ℕ, true, false, ap, sym, subst, ◌∙◌}
use Rattle.std.specs.Ordering.{is_lt}
use Rattle.lake_base.specs.Maps.{HasAscendingKeys, byte_order}
use Rattle.lake_values.specs.Cursor.{entries_from}
use Rattle.lake_values.specs.declared.entry.Change.{Change}
use Rattle.lake_values.proofs.CursorLemmas.{seek_passes, seek_stays}
use Rattle.branch_record.specs.Layers.{rows_ahead}
use Rattle.branch_record.proofs.LayerCursorLemmas.{ahead_of, tested}
use Rattle.branch_record.proofs.layer.seek_changes.Goals as goal

pub returns-then-is_below : goal.returns-then-is_below
returns-then-is_below g c =
    let least = c.args.least.now in
    let after = g.D.ChangesLeft.left c.args.after.now in
    let row : List ℕ × Change = (c.in-Some.path.now, c.in-Some.field-0-1.now) in
    let low : is_lt (byte_order row.0 least) ≡ true =
    tested _ least row.0 least c.is_below.result true c.as_slice.ensures.bytes refl c.is_below.ensures c.if-is_below.true in
    ahead_of c.next.result (g.D.ChangesLeft.left c.seek.new.self) (g.D.ChangesLeft.left c.next.new.self) c.next.ensures.change
    ∙ c.seek.ensures.from
    ∙ sym (seek_passes least row after low)
    ∙ sym (ap (λ change. entries_from least (rows_ahead change after)) c.in-Some.is)

pub returns-else-is_below : goal.returns-else-is_below
returns-else-is_below g c =
    let least = c.args.least.now in
    let after = g.D.ChangesLeft.left c.args.after.now in
    let row : List ℕ × Change = (c.in-Some.path.now, c.in-Some.field-0-1.now) in
    let whole : rows_ahead c.args.change.now after ≡ row ∷ after = ap (λ change. rows_ahead change after) c.in-Some.is in
    let sorted : HasAscendingKeys (row ∷ after) = subst HasAscendingKeys whole c.requires in
    let never : is_lt (byte_order row.0 least) ≡ false =
    tested _ least row.0 least c.is_below.result false c.as_slice.ensures.bytes refl c.is_below.ensures c.if-is_below.false in
    whole ∙ sym (ap (entries_from least) whole ∙ seek_stays least row after sorted never)
