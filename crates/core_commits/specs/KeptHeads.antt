-- A new commit in its repository, and what keeping it leaves of the parts of a lake.
use Rattle.std.specs.Prelude.{◌≡◌, ◌⊎◌, ℕ, List, Some, None}
use Rattle.std.specs.FinMap.{get}
use Rattle.lake_values.specs.Ancestry.{commit_of}
use Rattle.keeper.specs.declared.put.Put.{Put}
use Rattle.lake_model.specs.declared.history.Operation.{Operation}
use Rattle.core_state.specs.LakeStates.{LakeStateValue}
use Rattle.core_state.specs.NewCommits.{NewCommit, with_commit}
use Rattle.core_state.specs.RepositoryStates.{RepositoryStateValue}
use Rattle.core_changes.specs.LakeChanges.{in_repository}
use Rattle.core_puts.specs.KeptChanges.{Making}

-- a repository doesn't have a commit yet, or has it with its tree
abbrev pub MayHave : NewCommit → RepositoryStateValue → Type 0
MayHave new r =
    ((commit_of r.commits new.id ≡ None) × (get r.trees new.id.0 ≡ None))
    ⊎ ((commit_of r.commits new.id ≡ Some new.content) × (get r.trees new.id.0 ≡ Some new.tree))

-- so it is with a repository of a lake, where it is there
abbrev pub MayHaveIn : List ℕ → NewCommit → LakeStateValue → Type 0
MayHaveIn repo new l = (r : RepositoryStateValue) → get l.repositories repo ≡ Some r → MayHave new r

-- a change whose commit is put in its repository before it is kept
abbrev pub commit_added : List ℕ → NewCommit → Operation → List Put → Making
commit_added repo new operation puts =
    record { operation = operation; after = in_repository repo (with_commit new); puts = puts }
