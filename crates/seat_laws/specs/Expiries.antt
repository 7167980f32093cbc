-- A lake of which no commit is expired.
use Rattle.std.specs.Prelude.{◌≡◌, All, Bool, true, false, List, ℕ, Some}
use Rattle.std.specs.FinMap.{get}
use Rattle.lake_base.specs.declared.digest.Digest.{Digest}
use Rattle.lake_model.specs.declared.history.EntryKind.{EntryKind}
use Rattle.lake_model.specs.declared.history.EntryKind.TheVariants.{Accepted, Faulted}
use Rattle.lake_model.specs.declared.history.HistoryEntry.{HistoryEntry}
use Rattle.lake_model.specs.declared.history.Operation.{Operation}
use Rattle.lake_model.specs.declared.history.Operation.TheVariants.{Expire}
use Rattle.lake_model.specs.State.{Repository, State, is_expired}

-- no commit of any repository is expired
abbrev pub HasNoneExpired : State → Type 0
HasNoneExpired state = (repo : List ℕ) (r : Repository) (id : Digest) → get state.repositories repo ≡ Some r → is_expired r id ≡ false

-- whether an operation lets commits expire
abbrev pub expires : Operation → Bool
expires (Expire now commits) = true
expires operation = false

-- whether an entry does: one that was accepted
abbrev pub is_expiry : EntryKind → Bool
is_expiry (Accepted operation) = expires operation
is_expiry (Faulted operation) = false

-- none of these entries does
abbrev pub NoneExpires : List HistoryEntry → Type 0
NoneExpires entries = All (λ (e : HistoryEntry). is_expiry e.kind ≡ false) entries
