-- Key maps, and what changes make of them.
use Rattle.std.specs.Prelude.{◌≡◌, ℕ, Option, Some, None, List, [], ◌∷◌, ◌++◌, if◌then◌else◌}
use Rattle.std.specs.List.{AllByRecursion}
use Rattle.std.specs.FinMap.{empty, entries, get, insert, keys, remove}
use Rattle.lake_values.specs.Entry.{EntryValue}
use Rattle.lake_base.specs.Maps.{ByteMap}
use Rattle.lake_base.specs.Names.{path_fault}
use Rattle.lake_values.specs.Sameness.{same_value}
use Rattle.lake_values.specs.declared.entry.Change.{Change}
use Rattle.lake_values.specs.declared.entry.Change.TheVariants.{Put, Delete}

-- a finite map from path to entry
abbrev pub KeyMapValue : Type 0
KeyMapValue = ByteMap EntryValue

-- a finite map from path to change
abbrev pub ChangesValue : Type 0
ChangesValue = ByteMap Change

-- each key is a path
abbrev pub HasPathKeys : {X : Type 0} → List (List ℕ × X) → Type 0
HasPathKeys rows = AllByRecursion (λ row. path_fault row.0 ≡ None) rows

-- the map after one change at a path
abbrev pub map_after_change : List ℕ → Change → KeyMapValue → KeyMapValue
map_after_change path (Put entry) map = insert map path entry
map_after_change path Delete map = remove map path

-- the map after changes, one by one
abbrev pub map_after : List (List ℕ × Change) → KeyMapValue → KeyMapValue
map_after [] map = map
map_after (c ∷ cs) map = map_after cs (map_after_change c.0 c.1 map)

-- what the changes say at their paths, and the map elsewhere
unfoldable pub apply : ChangesValue → KeyMapValue → KeyMapValue
apply changes map = map_after (entries changes) map

-- the old changes with others put over them, one by one
abbrev pub changes_after : List (List ℕ × Change) → ChangesValue → ChangesValue
changes_after [] old = old
changes_after (c ∷ cs) old = changes_after cs (insert old c.0 c.1)

-- what new says at its paths, and old elsewhere
unfoldable pub over : ChangesValue → ChangesValue → ChangesValue
over new old = changes_after (entries new) old

-- what stands at a path where the changes say this of it and the map has that
abbrev pub value_after : Option Change → Option EntryValue → Option EntryValue
value_after (Some (Put entry)) had = Some entry
value_after (Some Delete) had = None
value_after None had = had

-- the change that leaves this value at its path
abbrev pub change_to : Option EntryValue → Change
change_to (Some entry) = Put entry
change_to None = Delete

-- the change of a path that has this new value and had that old one: none where they are the same
abbrev pub change_between : Option EntryValue → Option EntryValue → Option Change
change_between new old = if same_value new old then None else Some (change_to new)

-- the changes with this one too, where there is one
abbrev pub changes_with : List ℕ → Option Change → ChangesValue → ChangesValue
changes_with path None changes = changes
changes_with path (Some change) changes = insert changes path change

-- the changes of these paths from the old map to the new one
abbrev pub differences_at : KeyMapValue → KeyMapValue → List (List ℕ) → ChangesValue
differences_at new old [] = empty
differences_at new old (path ∷ paths) =
    changes_with path (change_between (get new path) (get old path)) (differences_at new old paths)

-- The changes from the old map to the new one: at each path at which they differ, a put of the new entry or a deletion.
unfoldable pub differences : KeyMapValue → KeyMapValue → ChangesValue
differences new old = differences_at new old (keys new ++ keys old)
