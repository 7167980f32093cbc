-- The bodies that are held of a state's own objects.
use Rattle.std.specs.Prelude.{◌≡◌, ◌⊎◌, ℕ, List, Option, Some}
use Rattle.std.specs.FinMap.{get}
use Rattle.lake_base.specs.declared.digest.Digest.{Digest}
use Rattle.lake_values.specs.Body.{Fits}
use Rattle.lake_values.specs.Entry.{EntryValue}
use Rattle.lake_values.specs.declared.entry.Change.TheVariants.{Put}
use Rattle.lake_model.specs.State.{Branch, Repository, State, HasLiveCommit, map_of}
use Rattle.lake_calls.specs.CallExceptions.{number_at}

-- under the number of an own entry a body is held that fits it; of an object outside nothing is asked
abbrev pub HoldsBody : (held : ℕ → Option (List ℕ)) → EntryValue → Type 0
HoldsBody held entry =
    (number : ℕ) → number_at entry.place ≡ Some number → (body : List ℕ) × (held number ≡ Some body) × Fits entry body

-- The bodies that are held fit a state: each entry of a commit that isn't expired has its body, and so has each that the
-- changes of a branch put, sealed or staged.
pub record FitsState (state : State) (held : ℕ → Option (List ℕ)) : Type 0 where
  pub committed : (repo : List ℕ) (r : Repository) (id : Digest) (path : List ℕ) (entry : EntryValue) → get state.repositories repo ≡ Some r
      → HasLiveCommit r id → get (map_of r id) path ≡ Some entry → HoldsBody held entry
  pub uncommitted : (repo : List ℕ) (r : Repository) (branch : List ℕ) (b : Branch) (path : List ℕ) (entry : EntryValue)
      → get state.repositories repo ≡ Some r → get r.branches branch ≡ Some b
      → (get b.sealed path ≡ Some (Put entry)) ⊎ (get b.staged path ≡ Some (Put entry)) → HoldsBody held entry
