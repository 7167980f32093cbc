use Rattle.std.proofs.Common.{◌≡◌, true, false, ◌∷◌, ◌++◌, Some, ap, sym, subst, ◌∙◌}
use Rattle.std.specs.Str.{bytes_eq}
use Rattle.lake_base.specs.Maps.{HasAscendingKeys}
use Rattle.lake_values.specs.Cursor.{entries_from}
use Rattle.range_file.specs.Rows.{RowValue}
use Rattle.meta_range.specs.Ranges.{rows_of, rows_above}
use Rattle.meta_range.proofs.CursorLemmas.{above_passed, above_stays, never_low}
use Rattle.meta_range.proofs.cursor.Cursor.pass.Goals as goal

pub returns-then-eq : goal.returns-then-eq
returns-then-eq c =
    let path = c.args.path.now in
    let row = c.in-Some.row.now in
    let rest = c.in-Some.rows.now ++ rows_of c.in-Some.ranges.now in
    let whole : c.args.self.now ≡ row ∷ rest = sym c.self.view_is ∙ c.in-Some.ensures.row in
    let same : bytes_eq row.0 path ≡ true = ap (λ (r : RowValue). bytes_eq r.0 path) (sym c.row.view_is) ∙ sym c.eq.ensures ∙ c.if-eq.true in
    above_passed path row rest (subst HasAscendingKeys c.in-Some.ensures.row c.self.invariant.ascend) same ∙ ap (rows_above (Some path)) (sym whole)

pub returns-else-eq : goal.returns-else-eq
returns-else-eq c =
    let path = c.args.path.now in
    let row = c.in-Some.row.now in
    let rest = c.in-Some.rows.now ++ rows_of c.in-Some.ranges.now in
    let whole : c.args.self.now ≡ row ∷ rest = sym c.self.view_is ∙ c.in-Some.ensures.row in
    let other : bytes_eq row.0 path ≡ false = ap (λ (r : RowValue). bytes_eq r.0 path) (sym c.row.view_is) ∙ sym c.eq.ensures ∙ c.if-eq.false in
    let never = never_low path row rest (subst (λ rows. entries_from path rows ≡ rows) whole c.requires) in
    whole ∙ above_stays path row rest (subst HasAscendingKeys c.in-Some.ensures.row c.self.invariant.ascend) never other
    ∙ ap (rows_above (Some path)) (sym whole)
