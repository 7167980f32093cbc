-- What a flow of several steps knows of its seat.
use Rattle.std.specs.Prelude.{◌≡◌, ◌++◌, ℕ, true, List, All, Some}
use Rattle.lake_model.specs.declared.history.HistoryEntry.{HistoryEntry}
use Rattle.lake_model.specs.State.{State}
use Rattle.lake_model.specs.History.{IsLegal, replay}
use Rattle.lake_model.specs.Soundness.{IsSound}
use Rattle.lake_model.specs.Versions.{VersionsGiven}
use Rattle.core_state.specs.LakeStates.{lake_value, state_of}
use Rattle.core_standing.specs.Standing.{versions_since}
use Rattle.lake_core.specs.declared.standing.LakeOrigin.{LakeOrigin}
use Rattle.shared_lake.specs.SeatSteps.{LakeSeat, SeesOwn}
use Rattle.turn_lock.specs.Seats.{seat_after}

-- the state that a lake was opened as
abbrev pub opened_state : LakeOrigin → State
opened_state origin = state_of (lake_value origin.opened)

-- its state after entries, and the versions given by then
abbrev pub state_at : LakeOrigin → List HistoryEntry → State
state_at origin entries = replay (opened_state origin) entries

abbrev pub given_at : LakeOrigin → List HistoryEntry → VersionsGiven
given_at origin entries = versions_since (lake_value origin.opened) entries

-- A SEAT GOES ON IN A CALL: what it has seen since then is legal; the entries of its number are all of this call; where the
-- seat is alone there are no others; and nothing else of the seat changed.
pub record GoesOn (origin : LakeOrigin) (call : ℕ) (old now : LakeSeat) : Type 0 where
  pub from : old.origin ≡ Some origin
  pub sound : IsSound (opened_state origin)
  pub legal : IsLegal (opened_state origin) now.seen
  pub added : List HistoryEntry
  pub seen : now.seen ≡ old.seen ++ added
  pub of_call : All (λ e. e.by.seat ≡ old.number → e.by.call ≡ call) added
  pub alone : old.alone ≡ true → All (λ e. e.by.seat ≡ old.number) added
  pub seat : now ≡ seat_after old now.seen now.mine
  pub knew : SeesOwn old
  pub own : SeesOwn now
