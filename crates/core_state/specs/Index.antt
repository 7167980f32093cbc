-- The index of a lake in memory finds the commits and the files that are kept.
use Rattle.std.specs.Prelude.{◌≡◌, ℕ, List, Option, Some, option_and_then, option_map}
use Rattle.std.specs.FinMap.{get}
use Rattle.std.specs.List.{Contains}
use Rattle.lake_base.specs.declared.digest.Digest.{Digest}
use Rattle.lake_values.specs.Ancestry.{commit_of}
use Rattle.lake_values.specs.Commit.{CommitRecordValue}
use Rattle.lake_format.specs.Cutting.{files}
use Rattle.lake_format.specs.Spelling.{commit_spelling, file_name}
use Rattle.meta_range.specs.Ranges.{TreeValue}
use Rattle.lake_model.specs.State.{HasCommit, map_of}
use Rattle.lake_model.specs.Commits.{AreKept}
use Rattle.core_state.specs.LakeStates.{LakeStateValue, state_of}
use Rattle.core_state.specs.RepositoryStates.{RepositoryStateValue, repository_of}

-- the commit of an id, in the repository that the index tells
abbrev pub indexed_commit : LakeStateValue → Digest → Option CommitRecordValue
indexed_commit l id =
    option_and_then (λ repo. option_and_then (λ r. commit_of r.commits id) (get l.repositories repo)) (get l.names.homes id.0)

-- Each commit of the lake is found by its id, with its bytes; each tree has the files that the cut gives of its map; each
-- file of a commit's map is found by its name; and what is found by a name has it, and is kept.
pub record HasIndex (l : LakeStateValue) : Type 0 where
  pub commits : (repo : List ℕ) (r : RepositoryStateValue) (id : Digest) (commit : CommitRecordValue)
      → get l.repositories repo ≡ Some r → commit_of r.commits id ≡ Some commit
      → option_map commit_spelling (indexed_commit l id) ≡ Some (commit_spelling commit)
  pub trees : (repo : List ℕ) (r : RepositoryStateValue) (id : Digest) (tree : TreeValue)
      → get l.repositories repo ≡ Some r → get r.trees id.0 ≡ Some tree
      → tree.files ≡ files l.cut tree.map
  pub files : (repo : List ℕ) (r : RepositoryStateValue) (id : Digest) (bytes : List ℕ)
      → get l.repositories repo ≡ Some r → HasCommit (repository_of r) id
      → Contains (files l.cut (map_of (repository_of r) id)) bytes
      → get l.names.files (file_name bytes).0 ≡ Some bytes
  pub named : (name bytes : List ℕ) → get l.names.files name ≡ Some bytes → (file_name bytes).0 ≡ name
  pub kept : (name bytes : List ℕ) → get l.names.files name ≡ Some bytes → AreKept (state_of l) bytes
