-- What a change leaves that wasn't made.
use Rattle.std.proofs.Common.{◌≡◌, ◌≤◌, inl, refl, sym, ap, subst, arith}
use Rattle.std.specs.Prelude.{Option, Result, Ok, Err, IsErrAnd, is_some}
use Rattle.lake_model.specs.declared.fault.StepFault.{StepFault}
use Rattle.lake_model.specs.declared.fault.StepFault.TheVariants.{StoreFault, NoMemory}
use Rattle.lake_model.specs.declared.history.By.{By}
use Rattle.lake_model.specs.Refusals.{IsRefusal}
use Rattle.core_state.specs.LakeStates.{lake_value}
use Rattle.core_puts.specs.KeeperViews.{KeeperView}
use Rattle.core_puts.specs.KeptChanges.{IsAsBefore, LeavesParts, Making, Parts}

module _ {K : Type 0} (view : KeeperView K) (old new : Parts K) where
  -- parts that say the same, over the same keeper, are as before
  pub same_before : new.history ≡ old.history → lake_value new.present ≡ lake_value old.present
      → new.keeper ≡ old.keeper → IsAsBefore view old new
  same_before history present keeper = record {
    history = history;
    present = present;
    kept = ap view.kept keeper;
    calls = inl (ap view.calls keeper);
    successes = ap view.successes keeper;
    quiet = ap view.faults keeper;
    keeper = record {
      told = ap (λ k. is_some (view.kept k)) keeper;
      later = subst (λ n. view.faults old.keeper ≤ n) (sym (ap view.faults keeper)) (omega arith);
    };
  }

  module _ (by : By) (made : Option Making) where
    -- memory ran out
    pub starved_parts : {X : Type 0} (answer : Result X StepFault) → IsErrAnd answer (λ e. e ≡ NoMemory)
        → IsAsBefore view old new → LeavesParts view by made answer old new
    starved_parts {X} (Err e) same left = subst (λ e. LeavesParts {X = X} view by made (Err e) old new) (sym same) left
    starved_parts (Ok x) same left = absurd same

    same_left : (X : Type 0) (fault : StepFault) → IsRefusal fault → new ≡ old
        → LeavesParts {X = X} view by made (Err fault) old new
    same_left X NoMemory is same = absurd is
    same_left X StoreFault is same = absurd is
    same_left X fault is same = same

    -- a test refused it
    pub refused_parts : {X : Type 0} (answer : Result X StepFault) (fault : StepFault) → IsErrAnd answer (λ e. e ≡ fault)
        → IsRefusal fault → new ≡ old → LeavesParts view by made answer old new
    refused_parts {X} (Err e) fault eq is same = same_left X e (subst IsRefusal (sym eq) is) same
    refused_parts (Ok x) fault eq is same = absurd eq
