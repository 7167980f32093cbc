-- Where a history has a fault of the store.
use Rattle.std.proofs.Common.{◌≡◌, ◌≤◌, ◌<◌, ℕ, List, [], ◌∷◌, ◌++◌, refl, sym, ap, ◌∙◌, subst, inl, inr, arith}
use Rattle.std.specs.Prelude.{Option, Some, None, Result, Ok, Err}
use Rattle.std.proofs.lemmas.List.Elements.{Contains-append_left, Contains-push, Contains-push_cases}
use Rattle.lake_base.specs.Outside.{Quiet, Rose}
use Rattle.lake_values.proofs.OrderLemmas.{Contains-nothing}
use Rattle.lake_model.specs.declared.fault.StepFault.{StepFault}
use Rattle.lake_model.specs.declared.fault.StepFault.TheVariants.{StoreFault, NoMemory}
use Rattle.lake_model.specs.declared.history.By.{By}
use Rattle.lake_model.specs.declared.history.EntryKind.{EntryKind}
use Rattle.lake_model.specs.declared.history.EntryKind.TheVariants.{Accepted, Faulted}
use Rattle.lake_model.specs.declared.history.HistoryEntry.{HistoryEntry}
use Rattle.lake_model.specs.declared.history.Operation.{Operation}
use Rattle.lake_model.specs.History.{accepted_entry, faulted_entry}
use Rattle.core_puts.specs.KeeperViews.{IsLaterKeeper, KeeperView}
use Rattle.core_puts.specs.KeptChanges.{IsAsBefore, IsFaulted, IsMade, Keeps, LeavesParts, Making, Parts}
use Rattle.lake_core.specs.Faults.{HasFault}
use Rattle.lake_core.specs.KeptSince.{IsKeptSince}
use Rattle.lake_core.specs.Lakes.{Holds, LakeValue}

abbrev IsAccepted : EntryKind → Type 0
IsAccepted (Accepted operation) = Unit {0}
IsAccepted (Faulted tried) = ⊥

-- an accepted entry is no fault
accepted_no_fault : (history : List HistoryEntry) (by : By) (operation : Operation)
    → HasFault (history ++ accepted_entry by operation ∷ []) → HasFault history
accepted_no_fault history by operation has =
    elim (Contains-push_cases history (accepted_entry by operation) (faulted_entry has.by has.tried) has.among) [
      | inl before ↦ record { by = has.by; tried = has.tried; among = before }
      | inr same ↦ absurd (subst (λ (entry : HistoryEntry). IsAccepted entry.kind) same tt)
    ]

-- a fault stays, whatever entry follows
fault_stays : (history : List HistoryEntry) (entry : HistoryEntry) → HasFault history → HasFault (history ++ entry ∷ [])
fault_stays history entry has =
    record { by = has.by; tried = has.tried; among = Contains-append_left history (entry ∷ []) _ has.among }

-- nothing has no fault
pub fault_none : HasFault [] → ⊥
fault_none has = Contains-nothing (faulted_entry has.by has.tried) has.among

-- a count that rose before or after another that didn't fall rose
rose_before : (first next last : ℕ) → Rose first next → next ≤ last → Rose first last
rose_before first next last rose later = λ low. at_end (rose (omega arith))
  where
    at_end : first < next → first < last
    at_end h = omega arith

rose_after : (first next last : ℕ) → first ≤ next → Rose next last → Rose first last
rose_after first next last later rose = λ low. at_start (rose low)
  where
    at_start : next < last → first < last
    at_start h = omega arith

-- ---- what a lake knows of its keeper

module _ {K : Type 0} (view : KeeperView K) where
  later_then : (first next last : K) → IsLaterKeeper view first next → IsLaterKeeper view next last
      → IsLaterKeeper view first last
  later_then first next last one two = record { told = two.told ∙ one.told; later = at_most one.later two.later }
    where
      at_most : {a b c : ℕ} → a ≤ b → b ≤ c → a ≤ c
      at_most one two = omega arith

  -- a lake that was just opened knows nothing yet
  pub kept_opened : (first now : K) (history : List HistoryEntry) → first ≡ now → history ≡ []
      → IsKeptSince view first now history
  kept_opened first now history same none = record {
    keeper =
        subst (λ (k : K). IsLaterKeeper view k now) (sym same)
        (record { told = refl; later = omega arith });
    counted = λ has. absurd (fault_none (subst HasFault none has));
    quiet = λ _. ap view.faults (sym same);
  }

  module _ (first : K) (by : By) (old new : Parts K) (since : IsKeptSince view first old.keeper old.history) where
    -- after a change that was made
    pub kept_made : (made : Making) → IsMade view by made old new → IsKeptSince view first new.keeper new.history
    kept_made made is = record {
      keeper = later_then first old.keeper new.keeper since.keeper is.keeper;
      counted = λ has. rose_before _ _ _
          (since.counted (accepted_no_fault old.history by made.operation (subst HasFault is.history has)))
          is.keeper.later;
      quiet = λ none. is.quiet
          ∙ since.quiet (λ has. none (subst HasFault (sym is.history) (fault_stays old.history _ has)));
    }

    -- after a fault of the store
    kept_faulted : (made : Making) → IsFaulted view by made old new → IsKeptSince view first new.keeper new.history
    kept_faulted made is = record {
      keeper = later_then first old.keeper new.keeper since.keeper is.keeper;
      counted = λ has. rose_after _ _ _ since.keeper.later is.rose;
      quiet = λ none. absurd (none (subst HasFault (sym is.history) (record {
        by = by;
        tried = made.operation;
        among = Contains-push old.history (faulted_entry by made.operation);
      })));
    }

    -- where memory ran out
    kept_before : IsAsBefore view old new → IsKeptSince view first new.keeper new.history
    kept_before is = record {
      keeper = later_then first old.keeper new.keeper since.keeper is.keeper;
      counted = λ has. rose_before _ _ _ (since.counted (subst HasFault is.history has)) is.keeper.later;
      quiet = λ none. is.quiet ∙ since.quiet (λ has. none (subst HasFault (sym is.history) has));
    }

    -- where the keeper refused it
    pub kept_refused : (made : Making) (fault : StepFault) → Keeps {X = Unit {0}} view by made (Err fault) old new
        → IsKeptSince view first new.keeper new.history
    kept_refused made StoreFault is = kept_faulted made is
    kept_refused made NoMemory is = kept_before is
    kept_refused made fault is = absurd is

    -- after any change
    pub kept_left : {X : Type 0} (made : Option Making) (answer : Result X StepFault)
        → LeavesParts view by made answer old new → IsKeptSince view first new.keeper new.history
    kept_left (Some made) (Ok answer) left = kept_made made left
    kept_left None (Ok answer) left = absurd left
    kept_left (Some made) (Err StoreFault) left = kept_faulted made left
    kept_left None (Err StoreFault) left = absurd left
    kept_left made (Err NoMemory) left = kept_before left
    kept_left made (Err fault) left =
        subst (λ (p : Parts K). IsKeptSince view first p.keeper p.history) (sym left) since

  -- where nothing was counted there is no fault
  pub fault_quiet : (lake : LakeValue K) → Holds view lake → Quiet (view.faults lake.first) (view.faults lake.keeper)
      → HasFault lake.history → ⊥
  fault_quiet lake holds quiet has =
      let more = holds.keeper.counted has quiet.counting in
      let same = quiet.same in
      omega arith
