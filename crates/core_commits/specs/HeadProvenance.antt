-- The trees that a new head is made from.
use Rattle.std.specs.Prelude.{ℕ, List}
use Rattle.core_state.specs.RepositoryStates.{RepositoryStateValue}
use Rattle.meta_range.specs.Provenance.{IsFileOf}
use Rattle.meta_range.specs.declared.provenance.Provenance.{Provenance}
use Rattle.core_readings.specs.Trees.{IsTreeFile}

-- the trees that a map was made from are trees of a repository
abbrev pub HasTreesOf : RepositoryStateValue → Provenance → Type 0
HasTreesOf r provenance = (file : List ℕ) → IsFileOf provenance file → IsTreeFile r file
