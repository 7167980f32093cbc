-- A change that no version guards, made by one step.
use Rattle.std.specs.Prelude.{◌≡◌, ◌++◌, ℕ, List, [], ◌∷◌, Option, Some, None, Result, Ok, Err}
use Rattle.lake_model.specs.declared.fault.StepFault.{StepFault}
use Rattle.lake_model.specs.declared.fault.StepFault.TheVariants.{StoreFault, NoMemory}
use Rattle.lake_model.specs.declared.history.HistoryEntry.{HistoryEntry}
use Rattle.lake_model.specs.declared.history.Operation.{Operation}
use Rattle.lake_model.specs.State.{State}
use Rattle.lake_model.specs.History.{accepted_entry, faulted_entry}
use Rattle.lake_core.specs.declared.standing.LakeOrigin.{LakeOrigin}
use Rattle.shared_lake.specs.SeatSteps.{LakeSeat}
use Rattle.call_placement.specs.Rules.{Caller}
use Rattle.call_placement.specs.Points.{Came}
use Rattle.call_placement.specs.Sessions.{caller}
use Rattle.lake_calls.specs.LakeRules.{by_caller, lake_rules}
use Rattle.flow_steps.specs.FlowSeats.{GoesOn, state_at}

module _ {X : Type 0} (origin : LakeOrigin) (by : Caller) (refused_by : State → Option StepFault) (Makes : State → X → Operation → Type 0) where
  -- the step was reached: others' entries came to a state in which nothing refuses it, and there it makes this operation
  pub record IsReached (x : X) (operation : Operation) (from found : List HistoryEntry) : Type 0 where
    pub came : Came lake_rules by from found
    pub none : refused_by (state_at origin found) ≡ None
    pub makes : Makes (state_at origin found) x operation

  -- WHAT CAME OF THE STEP, between what was seen before it and after it.
  abbrev pub ChangeEnds : Result X StepFault → (from next : List HistoryEntry) → Type 0
  ChangeEnds (Ok x) from next = (operation : Operation) × (found : List HistoryEntry) × IsReached x operation from found
      × (next ≡ found ++ accepted_entry (by_caller by) operation ∷ [])
  ChangeEnds (Err StoreFault) from next = (x : X) × (operation : Operation) × (found : List HistoryEntry) × IsReached x operation from found
      × (next ≡ found ++ faulted_entry (by_caller by) operation ∷ [])
  ChangeEnds (Err NoMemory) from next = Came lake_rules by from next
  ChangeEnds (Err fault) from next = Came lake_rules by from next × (refused_by (state_at origin next) ≡ Some fault)

-- A CHANGE OF A CALL, between its seat before the step and after it: the seat went on in the call, and the step came to this.
pub record HasMade {X : Type 0} (refused_by : State → Option StepFault) (Makes : State → X → Operation → Type 0) (call : ℕ) (old new : LakeSeat)
    (result : Result X StepFault) : Type 0 where
  pub origin : LakeOrigin
  pub goes : GoesOn origin call old new
  pub ends : ChangeEnds origin (caller old.number call) refused_by Makes result old.seen new.seen
