-- Branches and tags that come and go.
use Rattle.std.specs.Prelude.{◌≡◌, false, ℕ, List, Option, None, Some, IsSome}
use Rattle.std.specs.FinMap.{empty, get, insert, remove}
use Rattle.lake_base.specs.Names.{is_like_id}
use Rattle.lake_base.specs.declared.digest.Digest.{Digest}
use Rattle.lake_values.specs.HookDecisions.{protecting_pattern}
use Rattle.lake_model.specs.State.{Branch, Repository, State, HasRepository, HasBranch, HasLiveCommit}
use Rattle.lake_model.specs.Parts.{in_repository, in_branches}

-- the first pattern of the protection that matches a branch, where protection is set
abbrev pub protected_by : Option (List (List ℕ)) → List ℕ → Option ℕ
protected_by None branch = None
protected_by (Some patterns) branch = protecting_pattern patterns branch

-- no pattern matches the branch
abbrev pub IsUnprotected : Repository → List ℕ → Type 0
IsUnprotected r branch = protected_by r.notes.protection branch ≡ None

-- a branch without changes
abbrev pub clean_branch : Digest → Branch
clean_branch id = record { head = id; sealed = empty; staged = empty }

-- A branch is made at a commit: no branch of the name is there, the name is like no id, and the commit isn't expired.
pub record MayBegin (branch : List ℕ) (id : Digest) (r : Repository) : Type 0 where
  pub fresh : get r.branches branch ≡ None
  pub plain : is_like_id branch ≡ false
  pub live : HasLiveCommit r id

abbrev pub MayCreateBranch : State → List ℕ → List ℕ → Digest → Type 0
MayCreateBranch state repo branch id = HasRepository state repo (MayBegin branch id)

abbrev pub after_branch_create : List ℕ → List ℕ → Digest → State → State
after_branch_create repo branch id = in_branches repo (λ branches. insert branches branch (clean_branch id))

-- A branch goes with its changes: it isn't the default branch, and no pattern protects it.
pub record MayEnd (branch : List ℕ) (r : Repository) : Type 0 where
  pub other : r.default_branch ≡ branch → ⊥
  pub unprotected : IsUnprotected r branch

abbrev pub MayDeleteBranch : State → List ℕ → List ℕ → Type 0
MayDeleteBranch state repo branch = HasBranch state repo branch (λ r b. MayEnd branch r)

abbrev pub after_branch_delete : List ℕ → List ℕ → State → State
after_branch_delete repo branch = in_branches repo (λ branches. remove branches branch)

-- A tag names a commit: no tag of the name is there, the name is like no id, and the commit isn't expired.
pub record MayName (tag : List ℕ) (id : Digest) (r : Repository) : Type 0 where
  pub fresh : get r.tags tag ≡ None
  pub plain : is_like_id tag ≡ false
  pub live : HasLiveCommit r id

abbrev pub MayCreateTag : State → List ℕ → List ℕ → Digest → Type 0
MayCreateTag state repo tag id = HasRepository state repo (MayName tag id)

abbrev pub after_tag_create : List ℕ → List ℕ → Digest → State → State
after_tag_create repo tag id = in_repository repo (λ r. record r { tags = insert r.tags tag id })

-- A tag goes: it is there.
abbrev pub MayDeleteTag : State → List ℕ → List ℕ → Type 0
MayDeleteTag state repo tag = HasRepository state repo (λ r. IsSome (get r.tags tag))

abbrev pub after_tag_delete : List ℕ → List ℕ → State → State
after_tag_delete repo tag = in_repository repo (λ r. record r { tags = remove r.tags tag })
