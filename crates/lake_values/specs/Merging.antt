-- The three-way merge of key maps, path by path (lakeFS documentation, merge).
use Rattle.std.specs.Prelude.{◌≡◌, ◌↔◌, ℕ, Bool, true, false, List, [], ◌∷◌, ◌++◌, length, nat_lt, Option, Some, None, if◌then◌else◌}
use Rattle.std.specs.FinMap.{empty, get, insert, remove, keys, entries, from_entries}
use Rattle.std.specs.List.{Contains, filter}
use Rattle.lake_values.specs.Entry.{EntryValue}
use Rattle.lake_values.specs.KeyMap.{KeyMapValue}
use Rattle.lake_base.specs.Maps.{IsAscending, byte_order}
use Rattle.lake_values.specs.Sameness.{same_value}
use Rattle.lake_values.specs.declared.commit.Strategy.{Strategy}
use Rattle.lake_values.specs.declared.commit.Strategy.TheVariants.{Refuse, SourceWins, DestWins}
use Rattle.lake_values.specs.declared.merge.Side.{Side}
use Rattle.lake_values.specs.declared.merge.Side.TheVariants.{Source, Destination, Neither}

-- the map of the merge base; where the commits have no common ancestor, the empty map is the base
abbrev pub base_map : Option KeyMapValue → KeyMapValue
base_map None = empty
base_map (Some map) = map

-- Whose value a path takes, where base, source and destination have these: where the source is as the base,
-- the destination's; where the destination is as the base, the source's; where both are equal, the source's.
-- Else the path conflicts.
abbrev pub side_of : Option EntryValue → Option EntryValue → Option EntryValue → Side
side_of base source dest =
    if same_value source base then Destination
    else if same_value dest base then Source
    else if same_value source dest then Source
    else Neither

-- the value of a side; where a path conflicts, the source's or the destination's as the strategy says, and the
-- destination's where it refuses
abbrev pub side_value : Strategy → Option EntryValue → Option EntryValue → Side → Option EntryValue
side_value strategy source dest Source = source
side_value strategy source dest Destination = dest
side_value SourceWins source dest Neither = source
side_value DestWins source dest Neither = dest
side_value Refuse source dest Neither = dest

-- what a path has after the merge
abbrev pub merged_value : Strategy → Option EntryValue → Option EntryValue → Option EntryValue → Option EntryValue
merged_value strategy base source dest = side_value strategy source dest (side_of base source dest)

-- the map with this value at the path, or with nothing there
abbrev pub map_with : List ℕ → Option EntryValue → KeyMapValue → KeyMapValue
map_with path (Some entry) map = insert map path entry
map_with path None map = remove map path

-- the destination's map with the merged values at these paths
abbrev pub merged_map_at : Strategy → KeyMapValue → KeyMapValue → KeyMapValue → List (List ℕ) → KeyMapValue
merged_map_at strategy base source dest [] = dest
merged_map_at strategy base source dest (path ∷ paths) =
    map_with path (merged_value strategy (get base path) (get source path) (get dest path)) (merged_map_at strategy base source dest paths)

-- The merged map: at each path the merged value. A path that neither base nor source has stays as it is.
unfoldable pub merged_map : Strategy → KeyMapValue → KeyMapValue → KeyMapValue → KeyMapValue
merged_map strategy base source dest = merged_map_at strategy base source dest (keys base ++ keys source)

-- a path at which the two sides changed the base differently
abbrev pub IsConflict : KeyMapValue → KeyMapValue → KeyMapValue → List ℕ → Type 0
IsConflict base source dest path = side_of (get base path) (get source path) (get dest path) ≡ Neither

-- the paths that conflict: all of them, in ascending order, and no others
pub record AreConflicts (base source dest : KeyMapValue) (paths : List (List ℕ)) : Type 0 where
  pub ascending : IsAscending paths
  pub all : (path : List ℕ) → Contains paths path ↔ IsConflict base source dest path

-- whether it is neither side's
abbrev pub is_neither : Side → Bool
is_neither Source = false
is_neither Destination = false
is_neither Neither = true

-- whether a path conflicts
abbrev pub is_conflict : KeyMapValue → KeyMapValue → KeyMapValue → List ℕ → Bool
is_conflict base source dest path = is_neither (side_of (get base path) (get source path) (get dest path))

-- the paths of two maps, each once, in ascending order
unfoldable pub paths_of : KeyMapValue → KeyMapValue → List (List ℕ)
paths_of map other = keys (from_entries {R = byte_order} (entries map ++ entries other))

-- the paths that conflict, in ascending order
unfoldable pub conflicts : KeyMapValue → KeyMapValue → KeyMapValue → List (List ℕ)
conflicts base source dest = filter (is_conflict base source dest) (paths_of base source)

-- whether a merge is refused: it has no strategy, and a path conflicts
abbrev pub is_refused : Strategy → KeyMapValue → KeyMapValue → KeyMapValue → Bool
is_refused Refuse base source dest = nat_lt 0 (length (conflicts base source dest))
is_refused SourceWins base source dest = false
is_refused DestWins base source dest = false

-- a merge's answer: none where it is refused, and else the merged map
abbrev pub merge_answer : Strategy → KeyMapValue → KeyMapValue → KeyMapValue → Option KeyMapValue
merge_answer strategy base source dest =
    if is_refused strategy base source dest then None else Some (merged_map strategy base source dest)
