-- What a reading of an object's bytes comes to where its seat is alone and the bodies that are held fit the state.
use Rattle.std.specs.Prelude.{◌≡◌, ℕ, true, List, Option, Some, Result, Ok, Err}
use Rattle.std.specs.FinMap.{get}
use Rattle.lake_values.specs.Entry.{EntryValue}
use Rattle.commit_graph.specs.Expressions.{RefExprValue}
use Rattle.block_store.specs.Blocks.{HeldObjects}
use Rattle.lake_model.specs.State.{State}
use Rattle.lake_core.specs.declared.standing.LakeOrigin.{LakeOrigin}
use Rattle.shared_lake.specs.SeatSteps.{LakeSeat}
use Rattle.lake_calls.specs.CallExceptions.{number_at}
use Rattle.lake_calls.specs.HeldBodies.{FitsState}
use Rattle.flow_steps.specs.FlowSeats.{state_at}
use Rattle.write_flow.specs.declared.answer.FlowFault.{FlowFault}
use Rattle.write_flow.specs.declared.answer.FlowFault.TheVariants.{TooManyTries, Lost, Damaged}
use Rattle.read_flow.specs.ObjectReads.{ObjectRead}
use Rattle.read_flow.specs.ExpiredReads.{ReadsExpired}

-- the bytes are those that are held under the number of the entry
pub record AreHeld (objects : HeldObjects) (object : ObjectRead) : Type 0 where
  pub entry : EntryValue
  pub found : object.0.entry ≡ Some entry
  pub number : ℕ
  pub own : number_at entry.place ≡ Some number
  pub held : get objects number ≡ Some object.1

-- There are never too many tries; and bytes are lost or damaged only of a commit that is expired.
abbrev pub ComesTo : State → (repo : List ℕ) → RefExprValue → HeldObjects → Result ObjectRead FlowFault → Type 0
ComesTo state repo e objects (Ok object) = AreHeld objects object
ComesTo state repo e objects (Err (TooManyTries first last)) = ⊥
ComesTo state repo e objects (Err (Lost number)) = ReadsExpired state repo e
ComesTo state repo e objects (Err (Damaged named found)) = ReadsExpired state repo e
ComesTo state repo e objects (Err fault) = Unit {0}

-- SO A READING COMES where its seat is alone, and the store tells what it holds and its bodies fit what the seat had seen.
abbrev pub ReadsHeld : (repo : List ℕ) → RefExprValue → (old : LakeSeat) → (held : Option HeldObjects) → Result ObjectRead FlowFault → Type 0
ReadsHeld repo e old held outcome = (origin : LakeOrigin) (objects : HeldObjects) → old.alone ≡ true → old.origin ≡ Some origin
    → held ≡ Some objects → FitsState (state_at origin old.seen) (get objects) → ComesTo (state_at origin old.seen) repo e objects outcome
