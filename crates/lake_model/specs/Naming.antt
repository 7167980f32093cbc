-- Which numbers of objects are named, and which are garbage.
use Rattle.std.specs.Prelude.{◌≡◌, ◌<◌, ◌⊎◌, ℕ, List, Some, IsSome}
use Rattle.std.specs.FinMap.{get}
use Rattle.lake_base.specs.declared.digest.Digest.{Digest}
use Rattle.lake_values.specs.Entry.{EntryValue}
use Rattle.lake_values.specs.KeyMap.{KeyMapValue, ChangesValue}
use Rattle.lake_values.specs.declared.entry.Change.{Change}
use Rattle.lake_model.specs.State.{Branch, Repository, State, HasLiveCommit, map_of}
use Rattle.lake_model.specs.Uncommitted.{own_number, put_number}

-- an entry of a map has the number
pub record IsInMap (map : KeyMapValue) (number : ℕ) : Type 0 where
  pub path : List ℕ
  pub entry : EntryValue
  pub stands : get map path ≡ Some entry
  pub names : own_number entry.place ≡ Some number

-- changes put an entry with the number
pub record IsPut (changes : ChangesValue) (number : ℕ) : Type 0 where
  pub path : List ℕ
  pub change : Change
  pub stands : get changes path ≡ Some change
  pub names : put_number change ≡ Some number

-- it is in the map of a commit that isn't expired
pub record IsCommitted (r : Repository) (number : ℕ) : Type 0 where
  pub id : Digest
  pub live : HasLiveCommit r id
  pub names : IsInMap (map_of r id) number

-- the changes of a branch put it, sealed or staged
pub record IsUncommitted (r : Repository) (number : ℕ) : Type 0 where
  pub name : List ℕ
  pub branch : Branch
  pub stands : get r.branches name ≡ Some branch
  pub names : IsPut branch.sealed number ⊎ IsPut branch.staged number

-- a repository names it
pub record IsNamedIn (repositories : List ℕ → Repository → Type 0) (number : ℕ) : Type 0 where
  pub name : List ℕ
  pub repository : Repository
  pub stands : repositories name repository
  pub names : IsCommitted repository number ⊎ IsUncommitted repository number

-- A number is named where a repository names it, or where it is on a ticket: an unfinished upload.
abbrev pub IsNamed : State → ℕ → Type 0
IsNamed state number =
    IsNamedIn (λ name r. get state.repositories name ≡ Some r) number ⊎ IsSome (get state.tickets number)

-- It is garbage where it was given out, and isn't named.
pub record IsGarbage (state : State) (number : ℕ) : Type 0 where
  pub given_out : number < state.next_number
  pub unnamed : IsNamed state number → ⊥
