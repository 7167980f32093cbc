-- What holds of every state that a legal history leads to from a sound one; and the fresh lake.
use Rattle.std.specs.Prelude.{◌≡◌, ◌<◌, true, false, ℕ, List, Some, IsSome, codes}
use Rattle.std.specs.FinMap.{empty, get, insert}
use Rattle.lake_base.specs.Names.{is_like_id}
use Rattle.lake_base.specs.declared.digest.Digest.{Digest}
use Rattle.lake_values.specs.Ancestry.{IsGraph, commit_of}
use Rattle.lake_values.specs.Commit.{CommitRecordValue}
use Rattle.lake_format.specs.Cutting.{tree_id}
use Rattle.lake_format.specs.Spelling.{commit_id}
use Rattle.lake_format.specs.declared.cut.Cut.{Cut}
use Rattle.lake_model.specs.State.{Branch, Repository, State, HasCommit, HasLiveCommit, is_expired, map_of}
use Rattle.lake_model.specs.Commits.{new_repository}
use Rattle.lake_model.specs.Naming.{IsNamed}

-- a sound repository, in a lake of this cut
pub record IsSoundRepository (cut : Cut) (r : Repository) : Type 0 where
  -- the default branch is one of its branches
  pub default : IsSome (get r.branches r.default_branch)
  -- no branch and no tag has a name like an id
  pub plain_branches : (name : List ℕ) → IsSome (get r.branches name) → is_like_id name ≡ false
  pub plain_tags : (name : List ℕ) → IsSome (get r.tags name) → is_like_id name ≡ false
  -- heads and tagged commits are there, and aren't expired
  pub heads : (name : List ℕ) (b : Branch) → get r.branches name ≡ Some b → HasLiveCommit r b.head
  pub tagged : (name : List ℕ) (id : Digest) → get r.tags name ≡ Some id → HasLiveCommit r id
  -- parents are there, and generations are those due
  pub graph : IsGraph r.commits
  -- an id is the SHA-256 of its commit's bytes, and the commit names the metarange of its map
  pub ids : (id : Digest) (commit : CommitRecordValue) → commit_of r.commits id ≡ Some commit → id ≡ commit_id commit
  pub trees : (id : Digest) (commit : CommitRecordValue) → commit_of r.commits id ≡ Some commit
      → commit.meta_range ≡ tree_id cut (map_of r id)
  -- each commit has its map, and only commits have one
  pub mapped : (id : Digest) → HasCommit r id → IsSome (get r.maps id.0)
  pub maps : (id : Digest) → IsSome (get r.maps id.0) → HasCommit r id
  -- only commits are expired
  pub expired : (id : Digest) → is_expired r id ≡ true → HasCommit r id

-- a sound lake
pub record IsSound (state : State) : Type 0 where
  pub repositories : (name : List ℕ) (r : Repository) → get state.repositories name ≡ Some r → IsSoundRepository state.cut r
  -- numbers that are named or gone were given out, and none is both
  pub named : (number : ℕ) → IsNamed state number → number < state.next_number
  pub gone : (number : ℕ) → IsSome (get state.gone number) → number < state.next_number
  pub apart : (number : ℕ) → IsSome (get state.gone number) → IsNamed state number → ⊥

-- A fresh lake: the repository `quickstart`, with the branch `main` at a first commit of the date 0, and nothing else.
abbrev pub fresh : Cut → State
fresh cut = record {
  cut = cut;
  repositories = insert empty (codes "quickstart") (new_repository cut 0 (codes "main"));
  next_number = 0;
  tickets = empty;
  gone = empty;
  stopped = false;
  entries = 0;
}
