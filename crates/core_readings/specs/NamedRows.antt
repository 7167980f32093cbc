-- The rows of a map whose names are above some bytes.
use Rattle.std.specs.Prelude.{ℕ, List, [], ◌∷◌, Option, Some, None, if◌then◌else◌}
use Rattle.std.specs.Ordering.{is_lt}
use Rattle.lake_base.specs.Maps.{byte_order}
use Rattle.core_readings.specs.declared.rows.Rows.{Rows}
use Rattle.core_readings.specs.declared.rows.Rows.TheVariants.{All, Above}

-- what is told of the rows whose names are above some bytes, but for names under which nothing stands
abbrev pub rows_above : {X Y : Type 0} → (List ℕ → X → Y) → List ℕ → List (List ℕ × Option X) → List Y
rows_above row after [] = []
rows_above row after ((name, None) ∷ rows) = rows_above row after rows
rows_above row after ((name, Some x) ∷ rows) =
    if is_lt (byte_order after name) then row name x ∷ rows_above row after rows else rows_above row after rows

-- the rows that are still to come
abbrev pub rows_left : {K X : Type 0} → Rows K X → List (K × X)
rows_left (All rows) = rows
rows_left (Above rows) = rows
