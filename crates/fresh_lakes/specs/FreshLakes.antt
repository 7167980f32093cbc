-- A lake that was founded, and the seats at it.
use Rattle.std.specs.Prelude.{◌≡◌, ◌<◌, ℕ, true, List, [], length, slice_index_or, Some, None, Vec, vec_len, vec_capacity}
use Rattle.keeper.specs.Keepers.{KeptPairs}
use Rattle.core_puts.specs.KeeperViews.{KeeperView}
use Rattle.core_state.specs.FirstStates.{fresh_lake}
use Rattle.core_state.specs.LakeStates.{lake_value}
use Rattle.lake_format.specs.declared.cut.Cut.{Cut}
use Rattle.lake_model.specs.Soundness.{fresh}
use Rattle.lake_core.specs.Lakes.{LakeValue}
use Rattle.lake_core.specs.declared.standing.LakeOrigin.{LakeOrigin}
use Rattle.shared_lake.specs.SeatSteps.{LakeSeat}
use Rattle.flow_steps.specs.FlowSeats.{opened_state}
-- that a history notes a fault of the store, passed on for the crates above
pub use Rattle.lake_core.specs.Faults.{HasFault}

-- how the ranges of a lake are cut
abbrev pub usual_cut : Cut
usual_cut = record { max_bytes = 1048576; modulus = 1024 }

-- how a keeper shows that tells its pairs and never fails
abbrev pub sure_view : KeeperView KeptPairs
sure_view = record { kept = λ pairs. Some pairs; faults = λ pairs. 0; calls = λ pairs. None; successes = λ pairs. None }

-- it was opened as the fresh lake, and has no entries
pub record IsFounded {K : Type 0} (lake : LakeValue K) : Type 0 where
  pub opened : lake_value lake.opened ≡ fresh_lake usual_cut
  pub history : lake.history ≡ []

-- a seat of this number at a fresh lake: nothing was done there
pub record IsFreshSeat (at : ℕ) (seat : LakeSeat) : Type 0 where
  pub origin : LakeOrigin
  pub from : seat.origin ≡ Some origin
  pub fresh : opened_state origin ≡ fresh usual_cut
  pub number : seat.number ≡ at
  pub seen : seat.seen ≡ []
  pub mine : seat.mine ≡ []

-- the seats at a fresh lake, numbered from 0
abbrev pub AreFreshSeats : List LakeSeat → Type 0
AreFreshSeats seats = (k : ℕ) (d : LakeSeat) → k < length seats → IsFreshSeat k (slice_index_or seats k d)

-- the only seat at a fresh lake
pub record IsLoneSeat (seat : LakeSeat) : Type 0 where
  pub fresh : IsFreshSeat 0 seat
  pub alone : seat.alone ≡ true

-- room for a seat, and no seat in it
pub record IsSeatRoom {A : Type 0} (room : Vec LakeSeat A) : Type 0 where
  pub none : room.items ≡ []
  pub free : vec_len room < vec_capacity room
