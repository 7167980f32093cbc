-- What a seat finds at a lake that seats share, and what a step of its own leaves it.
use Rattle.std.specs.Prelude.{◌≡◌, ◌≢◌, ◌++◌, ℕ, true, List, [], Option, Some, None, All, Result, Ok, Err}
use Rattle.lake_model.specs.declared.fault.StepFault.{StepFault}
use Rattle.lake_model.specs.declared.fault.StepFault.TheVariants.{StoreFault}
use Rattle.lake_model.specs.declared.history.By.{By}
use Rattle.lake_model.specs.declared.history.HistoryEntry.{HistoryEntry}
use Rattle.lake_model.specs.History.{accepted_entry, faulted_entry}
use Rattle.core_puts.specs.KeeperViews.{KeeperView}
use Rattle.core_puts.specs.KeptChanges.{Making}
use Rattle.lake_core.specs.declared.standing.LakeOrigin.{LakeOrigin}
use Rattle.lake_core.specs.Lakes.{Holds, LakeValue}
use Rattle.lake_core.specs.Leaving.{Leaves}
use Rattle.turn_lock.specs.Seats.{KnowsOwn, SeatValue, seat_after, with_entry}

-- a seat at a lake
abbrev pub LakeSeat : Type 0
LakeSeat = SeatValue LakeOrigin HistoryEntry

-- what a lake goes out from
abbrev pub origin_of : {K : Type 0} → KeeperView K → LakeValue K → LakeOrigin
origin_of view lake = record { opened = lake.opened; faults = view.faults lake.first }

-- of the entries that the seat has seen, those of its number are just its own
abbrev pub SeesOwn : LakeSeat → Type 0
SeesOwn seat = KnowsOwn (λ (e : HistoryEntry). e.by.seat) seat

-- A lake that a seat may find: it goes out from the seat's origin, and stands for its history; and behind all that the seat
-- has seen came entries of others, none where the seat is alone.
pub record Finds {K : Type 0} (view : KeeperView K) (seat : LakeSeat) (found : LakeValue K) : Type 0 where
  pub origin : seat.origin ≡ Some (origin_of view found)
  pub holds : Holds view found
  pub others : List HistoryEntry
  pub begins : found.history ≡ seat.seen ++ others
  pub are_others : All (λ e. e.by.seat ≢ seat.number) others
  pub alone : seat.alone ≡ true → others ≡ []
  pub own : SeesOwn seat

-- A READING: it was answered of a lake that the seat found, and the seat has seen that lake's history then.
pub record IsRead {K : Type 0} (view : KeeperView K) (old new : LakeSeat) (Answers : LakeValue K → Type 0) : Type 0 where
  pub found : LakeValue K
  pub finds : Finds view old found
  pub answer : Answers found
  pub seat : new ≡ seat_after old found.history old.mine
  pub own : SeesOwn new

-- the entry that a change adds by its answer: its own where it was accepted, the note of a fault where the store failed,
-- else none
abbrev pub added_by : {X : Type 0} → By → Option Making → Result X StepFault → Option HistoryEntry
added_by by (Some made) (Ok answer) = Some (accepted_entry by made.operation)
added_by by (Some made) (Err StoreFault) = Some (faulted_entry by made.operation)
added_by by made answer = None

-- A CHANGE: it was answered of a lake that the seat found; it left of it what the step of one lake leaves, and so at most one
-- entry more, the seat's own; and the seat has seen the history that was left.
pub record IsChanged {K X : Type 0} (view : KeeperView K) (by : By) (old new : LakeSeat) (making : LakeValue K → Option Making)
    (Answers : LakeValue K → Type 0) (result : Result X StepFault) : Type 0 where
  pub found : LakeValue K
  pub left : LakeValue K
  pub finds : Finds view old found
  pub answer : Answers found
  pub leaves : Leaves view by (making found) result found left
  pub holds : Holds view left
  pub history : left.history ≡ with_entry found.history (added_by by (making found) result)
  pub seat : new ≡ seat_after old left.history (with_entry old.mine (added_by by (making found) result))
  pub own : SeesOwn new
