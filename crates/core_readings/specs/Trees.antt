-- The trees of a repository in memory, which share files, and those of a merge or a pick.
use Rattle.std.specs.Prelude.{◌≡◌, ℕ, List, Some, IsSome, drop}
use Rattle.std.specs.FinMap.{get}
use Rattle.std.specs.List.{Contains}
use Rattle.lake_base.specs.declared.digest.Digest.{Digest}
use Rattle.lake_values.specs.KeyMap.{KeyMapValue}
use Rattle.lake_format.specs.Cutting.{files}
use Rattle.lake_format.specs.Spelling.{file_name}
use Rattle.lake_format.specs.declared.cut.Cut.{Cut}
use Rattle.meta_range.specs.Ranges.{TreeValue}
use Rattle.lake_model.specs.State.{HasCommit}
use Rattle.core_state.specs.RepositoryStates.{RepositoryStateValue, repository_of}

-- a tree is that of a map, by a cut
pub record IsCutTree (cut : Cut) (objects : KeyMapValue) (tree : TreeValue) : Type 0 where
  pub map : tree.map ≡ objects
  pub files : tree.files ≡ files cut objects

-- a file of one of the repository's trees
pub record IsTreeFile (r : RepositoryStateValue) (file : List ℕ) : Type 0 where
  pub id : Digest
  pub tree : TreeValue
  pub there : get r.trees id.0 ≡ Some tree
  pub within : Contains tree.files file

-- each commit has its tree, and files of one name among the trees have the same bytes
pub record HasTrees (r : RepositoryStateValue) : Type 0 where
  pub there : (id : Digest) → HasCommit (repository_of r) id → IsSome (get r.trees id.0)
  pub named : (file other : List ℕ) → IsTreeFile r file → IsTreeFile r other → file_name file ≡ file_name other → file ≡ other

-- the trees have the files that the cut gives of their maps
abbrev pub IsCutBy : Cut → RepositoryStateValue → Type 0
IsCutBy cut r = (id : Digest) (tree : TreeValue) → get r.trees id.0 ≡ Some tree → tree.files ≡ files cut tree.map

-- the range files of a tree are files of the repository's trees
abbrev pub HasRanges : RepositoryStateValue → TreeValue → Type 0
HasRanges r tree = (file : List ℕ) → Contains (drop 1 tree.files) file → IsTreeFile r file

-- a tree of this map, with such range files
pub record IsTreeOf (r : RepositoryStateValue) (objects : KeyMapValue) (tree : TreeValue) : Type 0 where
  pub map : tree.map ≡ objects
  pub ranges : HasRanges r tree

-- trees of these two maps
pub record AreTreesOf (r : RepositoryStateValue) (maps : KeyMapValue × KeyMapValue) (trees : TreeValue × TreeValue) : Type 0 where
  pub base : IsTreeOf r maps.0 trees.0
  pub source : IsTreeOf r maps.1 trees.1
