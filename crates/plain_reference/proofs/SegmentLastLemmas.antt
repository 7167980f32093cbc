-- The last row of some rows.
use Rattle.std.proofs.Common.{◌≡◌, ℕ, suc, ◌-◌, List, [], ◌∷◌, length, Option, Some, ap, ◌∙◌, arith}
use Rattle.std.specs.List.{slice_get}
use Rattle.lake_values.specs.Entry.{EntryValue}
use Rattle.lake_format.specs.Cutting.{last_path}

-- the path of the last row, where the slice has one
pub last_is : (before : Option (List ℕ)) (rows : List (List ℕ × EntryValue)) (row : List ℕ × EntryValue) → slice_get rows (length rows - 1) ≡ Some row
    → Some row.0 ≡ last_path before rows
last_is before [] row e = cc
last_is before (r ∷ []) row e = cc
last_is before (r ∷ s ∷ rows) row e =
    let next : suc (length (s ∷ rows) - 1) ≡ length (r ∷ s ∷ rows) - 1 = omega arith in
    last_is (Some r.0) (s ∷ rows) row (ap (slice_get (r ∷ s ∷ rows)) next ∙ e)
