-- Why a merge gives no changes.
use Rattle.std.specs.Prelude.{◌≡◌, ℕ, true, List, length, take}
use Rattle.lake_values.specs.KeyMap.{KeyMapValue}
use Rattle.lake_values.specs.Merging.{conflicts, is_refused}
use Rattle.lake_values.specs.declared.commit.Strategy.{Strategy}
use Rattle.key_merge.specs.declared.fault.MergeFault.{MergeFault}
use Rattle.key_merge.specs.declared.fault.MergeFault.TheVariants.{Conflicts, NoMemory}

-- the merge is refused, and these are the least 100 of the paths that conflict, and how many conflict
pub record TellsConflicts (strategy : Strategy) (base source dest : KeyMapValue) (paths : List (List ℕ)) (total : ℕ) : Type 0 where
  pub refused : is_refused strategy base source dest ≡ true
  pub least : paths ≡ take 100 (conflicts base source dest)
  pub count : total ≡ length (conflicts base source dest)

-- conflicts are told of a merge that is refused; of memory that ran out nothing is said
abbrev pub TellsFault : Strategy → KeyMapValue → KeyMapValue → KeyMapValue → MergeFault → Type 0
TellsFault strategy base source dest (Conflicts paths total) = TellsConflicts strategy base source dest paths total
TellsFault strategy base source dest NoMemory = Unit {0}
