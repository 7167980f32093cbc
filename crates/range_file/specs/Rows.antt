-- The rows of a range.
use Rattle.std.specs.Prelude.{◌<◌, ◌≤◌, ◌-◌, ◌^◌, ℕ, List, length, Option, option_map, slice_get}
use Rattle.lake_base.specs.Maps.{HasAscendingKeys}
use Rattle.lake_values.specs.Entry.{EntryValue}

-- a row: a path, and the entry at it
abbrev pub RowValue : Type 0
RowValue = List ℕ × EntryValue

-- rows that can be those of a range: at least one, fewer than 2^32, paths strictly ascending
pub record AreRows (rows : List RowValue) : Type 0 where
  pub some : 1 ≤ length rows
  pub few : length rows < 2 ^ 32
  pub ascend : HasAscendingKeys rows

-- the path of the last of these rows
abbrev pub last_path : List RowValue → Option (List ℕ)
last_path rows = option_map (λ row. row.0) (slice_get rows (length rows - 1))
