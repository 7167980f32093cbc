-- A change that is kept, and what it leaves of the parts of a lake.
use Rattle.std.specs.Prelude.{◌≡◌, ◌++◌, ◌∷◌, [], List, Option, Some, Result, Ok, Err, IfSome, IsSomeAnd}
use Rattle.lake_base.specs.Outside.{Rose}
use Rattle.keeper.specs.Keepers.{MayHaveMade, pairs_after}
use Rattle.keeper.specs.declared.put.Put.{Put}
use Rattle.lake_model.specs.declared.fault.StepFault.{StepFault}
use Rattle.lake_model.specs.declared.fault.StepFault.TheVariants.{StoreFault, NoMemory}
use Rattle.lake_model.specs.declared.history.By.{By}
use Rattle.lake_model.specs.declared.history.HistoryEntry.{HistoryEntry}
use Rattle.lake_model.specs.declared.history.Operation.{Operation}
use Rattle.lake_model.specs.History.{accepted_entry, faulted_entry}
use Rattle.core_state.specs.declared.lake.LakeState.{LakeState}
use Rattle.core_state.specs.LakeStates.{LakeStateValue, lake_value}
use Rattle.core_changes.specs.LakeChanges.{after_fault}
use Rattle.core_puts.specs.KeeperViews.{IsCalledAtMostOnce, IsCalledOnce, IsLaterKeeper, KeeperView, SucceededOnce}

-- a change: its operation, what becomes of the lake in memory, and the puts by which that is kept
pub record Making : Type 0 where
  pub operation : Operation
  pub after : LakeStateValue → LakeStateValue
  pub puts : List Put

-- one that is kept, and not yet made in memory
abbrev pub unmade : Operation → List Put → Making
unmade operation puts = record { operation = operation; after = λ l. l; puts = puts }

-- the parts of a lake that a change changes
pub record Parts (K : Type 0) : Type 0 where
  pub keeper : K
  pub history : List HistoryEntry
  pub present : LakeState

-- It was made: the history has its one entry more, and with it the state, which is the history's replay; what is in
-- memory changed; and the keeper made its puts by one call that didn't fail.
pub record IsMade {K : Type 0} (view : KeeperView K) (by : By) (made : Making) (old new : Parts K) : Type 0 where
  pub history : new.history ≡ old.history ++ accepted_entry by made.operation ∷ []
  pub present : lake_value new.present ≡ made.after (lake_value old.present)
  pub kept : IfSome (view.kept old.keeper) (λ before. view.kept new.keeper ≡ Some (pairs_after made.puts before))
  pub once : IsCalledOnce view old.keeper new.keeper
  pub succeeded : SucceededOnce view old.keeper new.keeper
  pub quiet : view.faults new.keeper ≡ view.faults old.keeper
  pub keeper : IsLaterKeeper view old.keeper new.keeper

-- The store failed at the one call: the history has its fault, so the lake is stopped, in memory too; the keeper made
-- all of the puts or none, and its count of faults rose. The call didn't come to Ok.
pub record IsFaulted {K : Type 0} (view : KeeperView K) (by : By) (made : Making) (old new : Parts K) : Type 0 where
  pub history : new.history ≡ old.history ++ faulted_entry by made.operation ∷ []
  pub present : lake_value new.present ≡ after_fault (lake_value old.present)
  pub kept : IfSome (view.kept old.keeper) (λ before. IfSome (view.kept new.keeper) (MayHaveMade made.puts before))
  pub once : IsCalledOnce view old.keeper new.keeper
  pub successes : view.successes new.keeper ≡ view.successes old.keeper
  pub rose : Rose (view.faults old.keeper) (view.faults new.keeper)
  pub keeper : IsLaterKeeper view old.keeper new.keeper

-- Memory ran out, which is no failure of the keeper and never follows its Ok: nothing that is said changed.
pub record IsAsBefore {K : Type 0} (view : KeeperView K) (old new : Parts K) : Type 0 where
  pub history : new.history ≡ old.history
  pub present : lake_value new.present ≡ lake_value old.present
  pub kept : view.kept new.keeper ≡ view.kept old.keeper
  pub calls : IsCalledAtMostOnce view old.keeper new.keeper
  pub successes : view.successes new.keeper ≡ view.successes old.keeper
  pub quiet : view.faults new.keeper ≡ view.faults old.keeper
  pub keeper : IsLaterKeeper view old.keeper new.keeper

-- What a change leaves: where it was accepted it was made, once; where the store failed its fault stands; and where it
-- was refused the parts are the same.
abbrev pub LeavesParts : {K X : Type 0} → KeeperView K → By → Option Making → Result X StepFault → Parts K → Parts K → Type 0
LeavesParts view by made (Ok answer) old new = IsSomeAnd made (λ m. IsMade view by m old new)
LeavesParts view by made (Err StoreFault) old new = IsSomeAnd made (λ m. IsFaulted view by m old new)
LeavesParts view by made (Err NoMemory) old new = IsAsBefore view old new
LeavesParts view by made (Err fault) old new = new ≡ old

-- what the call of a keeper for a change leaves; it is refused for nothing else
abbrev pub Keeps : {K X : Type 0} → KeeperView K → By → Making → Result X StepFault → Parts K → Parts K → Type 0
Keeps view by made (Ok x) old new = IsMade view by made old new
Keeps view by made (Err StoreFault) old new = IsFaulted view by made old new
Keeps view by made (Err NoMemory) old new = IsAsBefore view old new
Keeps view by made (Err fault) old new = ⊥

-- the lake in memory, with its room, is as it was, but for a fault of the store
abbrev pub Stays : {X : Type 0} → Result X StepFault → LakeState → LakeState → Type 0
Stays (Ok x) old new = new ≡ old
Stays (Err StoreFault) old new = Unit {0}
Stays (Err fault) old new = new ≡ old
