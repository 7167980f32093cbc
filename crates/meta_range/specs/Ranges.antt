-- The ranges of a tree, one after the other: together its rows, and each a file.
use Rattle.std.specs.Prelude.{◌<◌, ◌^◌, ℕ, List, [], ◌∷◌, ◌++◌, length, map, filter, Option, Some, None, refl}
use Rattle.std.specs.Ordering.{is_lt}
use Rattle.std.specs.Coded.{Coded, code_by, coded×, coded_list, coded_ℕ}
use Rattle.std.specs.List.{AllByRecursion}
use Rattle.std.specs.FinMap as finite
use Rattle.lake_base.specs.Maps.{HasAscendingKeys, byte_order}
use Rattle.lake_values.specs.KeyMap.{KeyMapValue}
use Rattle.lake_values.specs.contracts.entry.Entry.{the_row as entry_row}
use Rattle.lake_format.specs.Spelling.{range_spelling, metarange_spelling, line_of, IsRange}
use Rattle.range_file.specs.Rows.{RowValue}

-- a tree: its key map, and its files, the metarange and then the ranges in order
pub record TreeValue : Type 0 where
  pub map : KeyMapValue
  pub files : List (List ℕ)

-- it is stored as its fields
abbrev pub tree_code : Coded TreeValue
tree_code =
    code_by (KeyMapValue × List (List ℕ)) (coded× (finite.code (coded_list coded_ℕ) entry_row.coded) (coded_list (coded_list coded_ℕ))) (λ t. (t.map, t.files))
    (λ p. record { map = p.0; files = p.1 }) (λ _. refl)

-- the rows of ranges, one range after the other
abbrev pub rows_of : List (List RowValue) → List RowValue
rows_of [] = []
rows_of (range ∷ ranges) = range ++ rows_of ranges

-- the metarange of ranges: what is said of each, in order
abbrev pub metarange_of : List (List RowValue) → List ℕ
metarange_of ranges = metarange_spelling (map line_of ranges)

-- the files of ranges: their metarange, and then each of them
abbrev pub files_of : List (List RowValue) → List (List ℕ)
files_of ranges = metarange_of ranges ∷ map range_spelling ranges

-- the tree of ranges
abbrev pub tree_of : List (List RowValue) → TreeValue
tree_of ranges = record { map = finite.from_sorted (rows_of ranges); files = files_of ranges }

-- ranges that can be those of a tree: each within its limits, paths strictly ascending through all of them, and
-- fewer than 2^32 rows
pub record AreRanges (ranges : List (List RowValue)) : Type 0 where
  pub each : AllByRecursion IsRange ranges
  pub ascend : HasAscendingKeys (rows_of ranges)
  pub few : length (rows_of ranges) < 2 ^ 32

-- the rows above a path, and all of them where none is given
abbrev pub rows_above : Option (List ℕ) → List RowValue → List RowValue
rows_above None rows = rows
rows_above (Some path) rows = filter (λ row. is_lt (byte_order path row.0)) rows

-- the first file of a tree, its metarange
abbrev pub first_file : List (List ℕ) → List ℕ
first_file [] = []
first_file (file ∷ files) = file

-- rows of a tree that are still to come: some of one range, and then the ranges after it
pub record AreLeft (rows : List RowValue) (ranges : List (List RowValue)) : Type 0 where
  pub ascend : HasAscendingKeys (rows ++ rows_of ranges)
  pub each : AllByRecursion IsRange ranges
