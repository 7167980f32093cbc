-- Where the ranges of a tree begin and end.
use Rattle.std.specs.Prelude.{◌≡◌, ◌-◌, ◌<◌, ◌&&◌, not, true, ℕ, Bool, List, Some, length, slice_get}
use Rattle.std.specs.Ordering.{is_lt}
use Rattle.std.specs.FinMap.{get}
use Rattle.lake_base.specs.Maps.{byte_order}
use Rattle.lake_values.specs.KeyMap.{KeyMapValue}
use Rattle.lake_format.specs.Spelling.{path_at}
use Rattle.range_file.specs.Rows.{RowValue}
use Rattle.meta_range.specs.Ranges.{AreRanges, TreeValue, tree_of}

-- whether a path stands from one path to another, both included
abbrev pub is_between : List ℕ → List ℕ → List ℕ → Bool
is_between first last path = not (is_lt (byte_order path first)) && not (is_lt (byte_order last path))

-- two maps have the same at each path from one to another
abbrev pub AgreeBetween : List ℕ → List ℕ → KeyMapValue → KeyMapValue → Type 0
AgreeBetween first last objects others = (path : List ℕ) → is_between first last path ≡ true → get objects path ≡ get others path

-- the range at a place of the files of a tree, behind the metarange
pub record IsRangeAt (tree : TreeValue) (place : ℕ) (range : List RowValue) : Type 0 where
  pub ranges : List (List RowValue)
  pub are : AreRanges ranges
  pub of_tree : tree ≡ tree_of ranges
  pub behind : 0 < place
  pub there : slice_get ranges (place - 1) ≡ Some range

-- the range at a place of the files of a tree begins with one path and ends with another
pub record HasEnds (tree : TreeValue) (place : ℕ) (first last : List ℕ) : Type 0 where
  pub range : List RowValue
  pub at : IsRangeAt tree place range
  pub begins : path_at range 0 ≡ first
  pub ends : path_at range (length range - 1) ≡ last
