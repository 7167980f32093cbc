-- Changes over rows, a row being a path with its entry: what they leave, and how a walk over both goes.
use Rattle.std.specs.Prelude.{ℕ, Bool, true, false, Option, Some, None, List, [], ◌∷◌, ◌++◌, filter}
use Rattle.std.specs.Borrow.{Bor}
use Rattle.std.specs.Ordering.{is_lt}
use Rattle.lake_base.specs.Maps.{byte_order}
use Rattle.lake_values.specs.Entry.{EntryValue}
use Rattle.lake_values.specs.declared.entry.Change.{Change}
use Rattle.lake_values.specs.declared.entry.Change.TheVariants.{Put, Delete}

-- the rows at paths below one
abbrev pub rows_below : {X : Type 0} → List ℕ → List (List ℕ × X) → List (List ℕ × X)
rows_below path rows = filter (λ row. is_lt (byte_order row.0 path)) rows

-- the rows at paths above one
abbrev pub rows_above : {X : Type 0} → List ℕ → List (List ℕ × X) → List (List ℕ × X)
rows_above path rows = filter (λ row. is_lt (byte_order path row.0)) rows

-- the row that a change leaves at its path, or none
abbrev pub rows_of_change : List ℕ → Change → List (List ℕ × EntryValue)
rows_of_change path (Put entry) = (path, entry) ∷ []
rows_of_change path Delete = []

-- what changes in ascending order of path leave of rows: the rows below the first change, its own, and what the other
-- changes leave of those above it
abbrev pub rows_over : List (List ℕ × Change) → List (List ℕ × EntryValue) → List (List ℕ × EntryValue)
rows_over [] rows = rows
rows_over (c ∷ cs) rows = rows_below c.0 rows ++ (rows_of_change c.0 c.1 ++ rows_over cs (rows_above c.0 rows))

-- ---- the walk

-- the row or the change at hand, and those after it; where none is at hand, none comes
abbrev pub rows_ahead : {X : Type 0} → Option (Bor (List ℕ) × Bor X) → List (List ℕ × X) → List (List ℕ × X)
rows_ahead None after = []
rows_ahead (Some row) after = (row.0.now, row.1.now) ∷ after

-- whether the first stands below a path
abbrev pub begins_below : {X : Type 0} → List ℕ → List (List ℕ × X) → Bool
begins_below path [] = false
begins_below path (row ∷ rows) = is_lt (byte_order row.0 path)

-- whether a row comes next: no change is left, or the first row stands below the first of them
abbrev pub is_row_next : List (List ℕ × Change) → List (List ℕ × EntryValue) → Bool
is_row_next [] rows = true
is_row_next (c ∷ cs) rows = begins_below c.0 rows
