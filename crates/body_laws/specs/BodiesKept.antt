-- The bodies that a store holds beside what a seat sees.
use Rattle.std.specs.Prelude.{◌≡◌, true, Option, Some}
use Rattle.std.specs.FinMap.{get}
use Rattle.block_store.specs.Blocks.{HeldObjects}
use Rattle.lake_core.specs.declared.standing.LakeOrigin.{LakeOrigin}
use Rattle.shared_lake.specs.SeatSteps.{LakeSeat}
use Rattle.lake_calls.specs.HeldBodies.{FitsState}
use Rattle.flow_steps.specs.FlowSeats.{state_at}

-- BODIES STAY FITTING in a call of a seat: where the seat is alone, and the store tells what it holds and its bodies fit what the
-- seat had seen, it tells that behind the call too, and they fit what the seat has seen then.
abbrev pub KeepsFitting : (old new : LakeSeat) → (held held_now : Option HeldObjects) → Type 0
KeepsFitting old new held held_now = (origin : LakeOrigin) (objects : HeldObjects) → old.alone ≡ true → old.origin ≡ Some origin
    → held ≡ Some objects → FitsState (state_at origin old.seen) (get objects)
    → (now : HeldObjects) × (held_now ≡ Some now) × FitsState (state_at origin new.seen) (get now)
