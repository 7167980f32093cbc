-- Where a lake is stopped.
use Rattle.std.proofs.Common.{◌≡◌, ℕ, List, [], ◌∷◌, refl, sym, ap, ◌∙◌, subst, inl, inr}
use Rattle.std.specs.Prelude.{◌↔◌, true, false, Option, Some, None}
use Rattle.lake_values.proofs.OrderLemmas.{Contains-first, Contains-later, first_or_later}
use Rattle.lake_model.specs.declared.history.By.{By}
use Rattle.lake_model.specs.declared.history.EntryKind.{EntryKind}
use Rattle.lake_model.specs.declared.history.EntryKind.TheVariants.{Accepted, Faulted}
use Rattle.lake_model.specs.declared.history.HistoryEntry.{HistoryEntry}
use Rattle.lake_model.specs.declared.history.Operation.{Operation}
use Rattle.lake_model.specs.declared.history.Operation.TheVariants.{Stage, Expire}
use Rattle.lake_model.specs.declared.history.RepositoryCommit.{RepositoryCommit}
use Rattle.lake_model.specs.State.{State}
use Rattle.lake_model.specs.Parts.{in_repository}
use Rattle.lake_model.specs.Uncommitted.{put_number, without_ticket}
use Rattle.lake_model.specs.Removal.{after_expire, with_expired}
use Rattle.lake_model.specs.History.{IsLegal, after, after_kind, after_operation, faulted_entry, replay}
use Rattle.core_state.specs.LakeStates.{LakeStateValue, state_of}
use Rattle.core_standing.specs.Standing.{Stands}
use Rattle.lake_core.specs.Faults.{HasFault}
use Rattle.lake_core.proofs.FaultLemmas.{fault_none}

-- no operation stops a lake, or starts it again
ticket_same : (number : Option ℕ) (state : State) → (without_ticket number state).stopped ≡ state.stopped
ticket_same None state = refl
ticket_same (Some number) state = refl

expire_same : (commits : List RepositoryCommit) (state : State) → (after_expire commits state).stopped ≡ state.stopped
expire_same [] state = refl
expire_same (one ∷ commits) state = expire_same commits (in_repository one.repo (with_expired one.commit) state)

operation_same : (state : State) (seat : ℕ) (operation : Operation) → (after_operation seat operation state).stopped ≡ state.stopped
operation_same state seat (Stage repo branch path change) = ticket_same (put_number change) state
operation_same state seat (Expire now commits) = expire_same commits state
operation_same state seat _ = refl

-- a fault is followed by nothing, so the lake is stopped at the end
stopped_then : (state : State) (by : By) (tried : Operation) (later : List HistoryEntry)
    → IsLegal (after state (faulted_entry by tried)) later → (replay (after state (faulted_entry by tried)) later).stopped ≡ true
stopped_then state by tried [] legal = refl
stopped_then state by tried (entry ∷ later) legal = let running = legal.0.running in absurd cc

-- a legal history with a fault stops the lake
stopped_by : (state : State) (history : List HistoryEntry) → IsLegal state history → HasFault history → (replay state history).stopped ≡ true
stopped_by state [] legal has = absurd (fault_none has)
stopped_by state (entry ∷ later) legal has =
    elim (first_or_later entry (faulted_entry has.by has.tried) later has.among) [
      | inl is ↦
          subst (λ e. IsLegal (after state e) later → (replay (after state e) later).stopped ≡ true) (sym is)
          (stopped_then state has.by has.tried later) legal.1
      | inr within ↦ stopped_by (after state entry) later legal.1 (record { by = has.by; tried = has.tried; among = within })
    ]

-- one that stops it has a fault
module _ (state : State) (running : state.stopped ≡ false) (by : By) (later : List HistoryEntry) where
  fault_first : (kind : EntryKind)
      → ((after_kind by.seat kind state).stopped ≡ false → HasFault later) → HasFault (record { by = by; kind = kind } ∷ later)
  fault_first (Accepted operation) next =
      let has = next (operation_same state by.seat operation ∙ running) in
      record { by = has.by; tried = has.tried; among = Contains-later _ _ later has.among }
  fault_first (Faulted tried) next = record { by = by; tried = tried; among = Contains-first (faulted_entry by tried) later }

fault_of : (state : State) (history : List HistoryEntry) → state.stopped ≡ false → (replay state history).stopped ≡ true → HasFault history
fault_of state [] running stopped = absurd cc
fault_of state (entry ∷ later) running stopped =
    fault_first state running entry.by later entry.kind (λ on. fault_of (after state entry) later on stopped)

-- a lake that stands for its history is stopped just where that has a fault
pub stopped_just : (opened : LakeStateValue) (history : List HistoryEntry) (present : LakeStateValue)
    → Stands opened history present → (present.stopped ≡ true) ↔ HasFault history
stopped_just opened history present stands = (
  λ stopped. fault_of (state_of opened) history stands.fresh_start.stopped (ap (λ (s : State). s.stopped) stands.replayed ∙ stopped),
  λ has. sym (ap (λ (s : State). s.stopped) stands.replayed) ∙ stopped_by (state_of opened) history stands.legal has,
)
