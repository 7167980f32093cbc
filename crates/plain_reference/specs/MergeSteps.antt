-- What the steps of a merge have: the paths of two maps, and the change that a path is given.
use Rattle.std.specs.Prelude.{◌≡◌, ◌||◌, ℕ, List, Option, Some, None}
use Rattle.std.specs.FinMap.{contains_key}
use Rattle.lake_values.specs.Entry.{EntryValue}
use Rattle.lake_values.specs.KeyMap.{KeyMapValue, ChangesValue}
use Rattle.lake_values.specs.declared.entry.Change.{Change}
use Rattle.lake_values.specs.declared.entry.Change.TheVariants.{Put, Delete}

-- a change that leaves this value at its path
abbrev pub Leaves : Change → Option EntryValue → Type 0
Leaves (Put entry) value = value ≡ Some entry
Leaves Delete value = value ≡ None

-- changes at just the paths that base or source has
abbrev pub ArePathsOf : KeyMapValue → KeyMapValue → ChangesValue → Type 0
ArePathsOf base source paths = (path : List ℕ) → contains_key paths path ≡ (contains_key base path || contains_key source path)

-- changes at the paths of these changes and of this map, and at no others
abbrev pub HasPathsToo : ChangesValue → KeyMapValue → ChangesValue → Type 0
HasPathsToo old map new = (path : List ℕ) → contains_key new path ≡ (contains_key old path || contains_key map path)
