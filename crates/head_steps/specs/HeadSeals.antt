-- What a call of a new head does before its tries: it resolves an expression, and it seals its branch.
use Rattle.std.specs.Prelude.{◌≡◌, ◌++◌, ℕ, List, [], ◌∷◌, Some, None, Result, Ok, Err}
use Rattle.commit_graph.specs.Expressions.{RefExprValue}
use Rattle.lake_model.specs.declared.fault.StepFault.{StepFault}
use Rattle.lake_model.specs.declared.fault.StepFault.TheVariants as step
use Rattle.lake_model.specs.declared.history.HistoryEntry.{HistoryEntry}
use Rattle.lake_model.specs.declared.history.Operation.TheVariants.{Seal}
use Rattle.lake_model.specs.declared.history.SealFor.{SealFor}
use Rattle.lake_model.specs.declared.reply.Point.{Point}
use Rattle.lake_model.specs.declared.reply.Versions.{Versions}
use Rattle.lake_model.specs.History.{accepted_entry, faulted_entry}
use Rattle.lake_model.specs.Readings.{resolve_reply}
use Rattle.lake_model.specs.Refusals.{first_cause}
use Rattle.lake_model.specs.State.{State}
use Rattle.lake_model.specs.Steps.{seal_causes}
use Rattle.lake_core.specs.declared.standing.LakeOrigin.{LakeOrigin}
use Rattle.shared_lake.specs.SeatSteps.{LakeSeat}
use Rattle.call_placement.specs.Rules.{Caller}
use Rattle.call_placement.specs.Points.{Came}
use Rattle.call_placement.specs.Sessions.{caller}
use Rattle.lake_calls.specs.LakeRules.{by_caller, lake_rules}
use Rattle.flow_steps.specs.FlowSeats.{GoesOn, state_at}

module _ (origin : LakeOrigin) (by : Caller) (repo branch : List ℕ) (why : SealFor) where
  -- others' entries came to the seal, which nothing refused
  abbrev pub SealReached : (from found : List HistoryEntry) → Type 0
  SealReached from found = Came lake_rules by from found × (first_cause (seal_causes why (state_at origin found) repo branch) ≡ None)

  -- WHAT CAME OF A SEAL, between what was seen before it and after it.
  abbrev pub SealEnds : Result Versions StepFault → (from next : List HistoryEntry) → Type 0
  SealEnds (Ok versions) from next = (found : List HistoryEntry) × SealReached from found
      × (next ≡ found ++ accepted_entry (by_caller by) (Seal repo branch why) ∷ [])
  SealEnds (Err step.StoreFault) from next = (found : List HistoryEntry) × SealReached from found
      × (next ≡ found ++ faulted_entry (by_caller by) (Seal repo branch why) ∷ [])
  SealEnds (Err step.NoMemory) from next = Came lake_rules by from next
  SealEnds (Err (step.Changed version settings)) from next = ⊥
  SealEnds (Err fault) from next = Came lake_rules by from next × (first_cause (seal_causes why (state_at origin next) repo branch) ≡ Some fault)

-- A SEAL OF A CALL, between its seat before it and after it: the seat went on in the call, and the seal came to this.
pub record HasSealed (repo branch : List ℕ) (why : SealFor) (call : ℕ) (old new : LakeSeat) (result : Result Versions StepFault) : Type 0 where
  pub origin : LakeOrigin
  pub goes : GoesOn origin call old new
  pub ends : SealEnds origin (caller old.number call) repo branch why result old.seen new.seen

-- what came of the resolving of an expression in a state
abbrev pub ResolveEnds : State → (repo : List ℕ) → RefExprValue → Result Point StepFault → Type 0
ResolveEnds state repo e (Err step.NoMemory) = Unit {0}
ResolveEnds state repo e (Err step.StoreFault) = ⊥
ResolveEnds state repo e (Err (step.Changed version settings)) = ⊥
ResolveEnds state repo e result = resolve_reply state repo e ≡ result

-- AN EXPRESSION WAS RESOLVED for a call: its seat went on in the call, others' entries came, and the expression leads there
-- in the lake then.
pub record HasResolved (repo : List ℕ) (e : RefExprValue) (call : ℕ) (old new : LakeSeat) (result : Result Point StepFault) : Type 0 where
  pub origin : LakeOrigin
  pub goes : GoesOn origin call old new
  pub came : Came lake_rules (caller old.number call) old.seen new.seen
  pub ends : ResolveEnds (state_at origin new.seen) repo e result
