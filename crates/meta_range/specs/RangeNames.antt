-- Where a name stands first in a list, and ranges that are found by their names.
use Rattle.std.specs.Prelude.{◌≡◌, ◌&&◌, true, ℕ, Bool, List, Option, Some, None, find, position, if◌then◌else◌}
use Rattle.std.specs.Cmp.Lexicographic.{pointwise}
use Rattle.std.specs.List.{list_all}
use Rattle.std.specs.Map.{lookup}
use Rattle.std.specs.Option.{option_map_or, option_or}
use Rattle.std.specs.Ordering.{eq_by_cmp}
use Rattle.lake_base.specs.declared.digest.Digest.{Digest}
use Rattle.lake_values.specs.Ancestry.{id_order, same_id}
use Rattle.lake_values.specs.Sameness.{same_row}
use Rattle.lake_format.specs.Spelling.{file_name, range_spelling}
use Rattle.range_file.specs.Rows.{RowValue}

-- the place that a table of names tells of one
abbrev pub place_in : List (Digest × ℕ) → Digest → Option ℕ
place_in table name = lookup (eq_by_cmp id_order name) table

-- the first of these items that has this name
abbrev pub first_named : {X : Type 0} → (X → Digest) → Digest → List X → Option X
first_named name_of name items = find (λ item. same_id (name_of item) name) items

-- a table tells of each name where the first of these items that has it stands
abbrev pub TellsFirst : {X : Type 0} → (X → Digest) → List (Digest × ℕ) → List X → Type 0
TellsFirst name_of table items = (name : Digest) → place_in table name ≡ position (λ item. same_id (name_of item) name) items

-- a table after a name was put at a place, where it didn't tell of the name yet
abbrev pub PutsFirst : List (Digest × ℕ) → List (Digest × ℕ) → Digest → ℕ → Type 0
PutsFirst old new name at = (other : Digest) → place_in new other ≡ option_or (place_in old other) (if same_id name other then Some at else None)

-- the name of a range's file
abbrev pub range_name : List RowValue → Digest
range_name range = file_name (range_spelling range)

-- the same rows
abbrev pub same_rows : List RowValue → List RowValue → Bool
same_rows range other = pointwise same_row range other

-- the first of the others that has a range's name, where there is one, has its rows
abbrev pub is_matched : List (List RowValue) → List RowValue → Bool
is_matched others range = option_map_or (same_rows range) (first_named range_name (range_name range) others) true

-- so it is with each of these ranges
abbrev pub are_matched : List (List RowValue) → List (List RowValue) → Bool
are_matched others ranges = list_all (is_matched others) ranges

-- so it is among the ranges of three trees
abbrev pub all_matched : List (List RowValue) → List (List RowValue) → List (List RowValue) → Bool
all_matched base source dest =
    are_matched base base && are_matched source source && are_matched dest dest
    && are_matched source base && are_matched dest base && are_matched dest source
