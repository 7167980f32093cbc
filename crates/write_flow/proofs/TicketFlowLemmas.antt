-- An upload's ticket, taken and given up.
use Rattle.std.proofs.Common.{◌≡◌, ◌+◌, ◌||◌, ℕ, Bool, true, false, not, cond, nat_lt, List, length, Option, Some, None, Result, Ok, Err, refl}
use Rattle.std.proofs.Common.{sym, ap, subst, ◌∙◌}
use Rattle.std.proofs.Common.{inr}
use Rattle.std.specs.FinMap.{get, get-insert}
use Rattle.std.specs.Cmp.{eq_by_cmp_equiv, nat_cmp_total}
use Rattle.std.proofs.lemmas.List.{append-nil}
use Rattle.lake_values.specs.Entry.{EntryValue}
use Rattle.lake_values.specs.declared.entry.Change.TheVariants.{Put}
use Rattle.lake_model.specs.declared.fault.StepFault.{StepFault}
use Rattle.lake_model.specs.declared.fault.StepFault.TheVariants as step
use Rattle.lake_model.specs.State.{State}
use Rattle.lake_model.specs.Refusals.{GivesOrFails, IsRefusal, cause_if, causes_of_change, first_cause, no_causes}
use Rattle.lake_model.specs.Steps.{drop_ticket_reply}
use Rattle.lake_model.specs.Uncommitted.{HasTicket, after_ticket_take}
use Rattle.core_puts.specs.KeeperViews.{KeeperView}
use Rattle.core_puts.specs.KeptChanges.{Making}
use Rattle.lake_core.specs.declared.standing.LakeOrigin.{LakeOrigin}
use Rattle.lake_core.specs.Lakes.{LakeValue, state}
use Rattle.lake_core.specs.Makings.{drop_ticket}
use Rattle.shared_lake.specs.SeatSteps.{IsChanged, LakeSeat, origin_of}
use Rattle.call_placement.specs.Points.{Came}
use Rattle.call_placement.specs.Sessions.{caller}
use Rattle.lake_calls.specs.LakeRules.{is_closed, lake_rules}
use Rattle.flow_steps.specs.declared.answer.FlowAnswer.{FlowAnswer}
use Rattle.flow_steps.specs.FlowSeats.{GoesOn, state_at}
use Rattle.flow_steps.specs.FlowTries.{staging}
use Rattle.flow_steps.proofs.SeatFlowLemmas.{answer_changed, came_to_change, entry_stands, goes_by_change}
use Rattle.flow_steps.proofs.VersionCauseLemmas.{Decides, decided}
use Rattle.write_flow.specs.declared.answer.Done.{Done}
use Rattle.write_flow.specs.declared.answer.FlowFault.{FlowFault}
use Rattle.write_flow.specs.declared.answer.FlowFault.TheVariants.{Step, NoMemory}
use Rattle.write_flow.specs.Uploads.{BodyTried, Closed, Dropped, GaveUp, Starved, StoreFailing, answer_of_drop, refused_at, told_by}
use Rattle.write_flow.specs.WriteTries.{HaveTried}

-- ---- a lake that takes no more changes

-- a change that is refused for no more than being a change is refused by a closed lake, and an open one takes it
closed_by : (stopped room : Bool) (fault : StepFault)
    → first_cause (record no_causes { stopped = cause_if stopped step.Stopped; full = cause_if (not room) step.HistoryFull }) ≡ Some fault
    → (stopped || not room) ≡ true
closed_by true room fault is = refl
closed_by false false fault is = refl
closed_by false true fault is = absurd cc

pub closed_of : (s : State) (fault : StepFault) → first_cause (causes_of_change s) ≡ Some fault → is_closed s ≡ true
closed_of s fault is = closed_by s.stopped (nat_lt s.entries 4194304) fault is

open_by : (stopped room : Bool)
    → first_cause (record no_causes { stopped = cause_if stopped step.Stopped; full = cause_if (not room) step.HistoryFull }) ≡ None
    → (stopped || not room) ≡ false
open_by true room is = absurd cc
open_by false true is = refl
open_by false false is = absurd cc

pub open_of : (s : State) → first_cause (causes_of_change s) ≡ None → is_closed s ≡ false
open_of s is = open_by s.stopped (nat_lt s.entries 4194304) is

-- ---- the ticket

pub ticket_taken : (seat number : ℕ) (s : State) → HasTicket (after_ticket_take seat number s) seat number
ticket_taken seat number s =
    get-insert nat_cmp_total s.tickets number seat number
    ∙ ap (λ test. cond test (Some seat) (get s.tickets number)) ((eq_by_cmp_equiv nat_cmp_total).refl number)

module _ {K : Type 0} (view : KeeperView K) (old new : LakeSeat) (call number : ℕ) (result : Result ℕ StepFault)
    (changed : IsChanged view (record { seat = old.number; call = call }) old new (λ (l : LakeValue K). Some (drop_ticket number))
    (λ (l : LakeValue K). GivesOrFails result (drop_ticket_reply (state l))) result) where
  abbrev Making_of : LakeValue K → Option Making
  Making_of l = Some (drop_ticket number)

  abbrev Answers : LakeValue K → Type 0
  Answers l = GivesOrFails result (drop_ticket_reply (state l))

  abbrev origin : LakeOrigin
  origin = origin_of view changed.found

  pub drop_goes : GoesOn origin call old new
  drop_goes = goes_by_change view old new call Making_of Answers result changed origin changed.finds.origin

  pub drop_decides : Decides (causes_of_change (state_at origin changed.found.history)) result
  drop_decides = answer_changed view old new call Making_of Answers result changed (λ s given. Decides (causes_of_change s) result) origin changed.finds.origin
      (λ l says. decided (state l) (causes_of_change (state l)) ((state l).entries + 1) result says)

  pub drop_came : Came lake_rules (caller old.number call) old.seen changed.found.history
  drop_came = came_to_change view old new call Making_of Answers result changed

module _ {K : Type 0} (view : KeeperView K) (old new : LakeSeat) (call number : ℕ) (fault : FlowFault) (answer : FlowAnswer Done FlowFault) where
  abbrev Drops : Result ℕ StepFault → Type 0
  Drops result = IsChanged view (record { seat = old.number; call = call }) old new (λ (l : LakeValue K). Some (drop_ticket number))
      (λ (l : LakeValue K). GivesOrFails result (drop_ticket_reply (state l))) result

  abbrev DropMaking : LakeValue K → Option Making
  DropMaking l = Some (drop_ticket number)

  abbrev DropAnswers : Result ℕ StepFault → LakeValue K → Type 0
  DropAnswers result l = GivesOrFails result (drop_ticket_reply (state l))

  pub gave_dropped : (at : ℕ) (changed : Drops (Ok at)) → answer ≡ refused_at fault (length old.seen) (length new.seen)
      → GaveUp call number old new fault answer
  gave_dropped at changed is =
      Dropped (origin_of view changed.found) changed.found.history (drop_goes view old new call number (Ok at) changed)
      (drop_came view old new call number (Ok at) changed) (drop_decides view old new call number (Ok at) changed)
      (entry_stands view old new call DropMaking (DropAnswers (Ok at)) (Ok at) changed) is

  pub gave_faulted : (changed : Drops (Err step.StoreFault)) → answer ≡ refused_at (Step step.StoreFault) (length new.seen) (length new.seen)
      → GaveUp call number old new fault answer
  gave_faulted changed is =
      StoreFailing (origin_of view changed.found) changed.found.history (drop_goes view old new call number (Err step.StoreFault) changed)
      (drop_came view old new call number (Err step.StoreFault) changed) (drop_decides view old new call number (Err step.StoreFault) changed)
      (entry_stands view old new call DropMaking (DropAnswers (Err step.StoreFault)) (Err step.StoreFault) changed) is

  pub gave_starved : (changed : Drops (Err step.NoMemory)) → answer ≡ refused_at NoMemory (length new.seen) (length new.seen)
      → GaveUp call number old new fault answer
  gave_starved changed is =
      Starved (origin_of view changed.found) (drop_goes view old new call number (Err step.NoMemory) changed)
      (subst (λ es. Came lake_rules (caller old.number call) old.seen es)
      (sym (entry_stands view old new call DropMaking (DropAnswers (Err step.NoMemory)) (Err step.NoMemory) changed ∙ append-nil changed.found.history))
      (drop_came view old new call number (Err step.NoMemory) changed)) is

  closed_here : (refusal : StepFault) (changed : Drops (Err refusal)) → new.seen ≡ changed.found.history
      → first_cause (causes_of_change (state_at (origin_of view changed.found) changed.found.history)) ≡ Some refusal
      → answer ≡ refused_at fault (length old.seen) (length old.seen) → GaveUp call number old new fault answer
  closed_here refusal changed same first is =
      Closed (origin_of view changed.found) (drop_goes view old new call number (Err refusal) changed)
      (subst (λ es. Came lake_rules (caller old.number call) old.seen es) (sym same) (drop_came view old new call number (Err refusal) changed))
      (ap (λ es. is_closed (state_at (origin_of view changed.found) es)) same ∙ closed_of
      (state_at (origin_of view changed.found) changed.found.history) refusal first) is

  -- any other refusal is that the lake takes no more changes
  pub gave_closed : (refusal : StepFault) → IsRefusal refusal → Drops (Err refusal) → answer ≡ refused_at fault (length old.seen) (length old.seen)
      → GaveUp call number old new fault answer
  gave_closed step.StoreFault other changed is = absurd other
  gave_closed step.NoMemory other changed is = absurd other
  gave_closed refusal other changed is =
      closed_here refusal changed
      (entry_stands view old new call DropMaking (DropAnswers (Err refusal)) (Err refusal) changed ∙ append-nil changed.found.history)
      (drop_decides view old new call number (Err refusal) changed) is

  -- so it gave its number up, or says why not
  pub gave_by : (result : Result ℕ StepFault) → Drops result → answer ≡ answer_of_drop fault (length old.seen) (length new.seen) result
      → GaveUp call number old new fault answer
  gave_by (Ok at) changed is = gave_dropped at changed is
  gave_by (Err step.StoreFault) changed is = gave_faulted changed is
  gave_by (Err step.NoMemory) changed is = gave_starved changed is
  gave_by (Err refusal) changed is = gave_closed refusal tt changed is

-- ---- a body that was staged

pub body_tried : (repo branch path : List ℕ) (entry : EntryValue) (call : ℕ) (old new : LakeSeat) (paused pauses : Option ℕ)
    (outcome : Result (Option EntryValue) FlowFault) (result : Result EntryValue FlowFault) → result ≡ told_by outcome (Put entry)
    → HaveTried (staging repo branch path (Put entry)) call old new paused pauses outcome
    → (versions : List ℕ) × BodyTried repo branch path entry call old new paused pauses versions result
body_tried repo branch path entry call old new paused pauses (Ok copied) result is tried =
    let none : copied ≡ None = tried.ends.1.2.makes.0 in (
      tried.versions,
      subst (BodyTried repo branch path entry call old new paused pauses tried.versions) (sym is)
          (inr (told_none copied none tried)),
    )
  where
    told_none : (copied : Option EntryValue) → copied ≡ None
        → (tried : HaveTried (staging repo branch path (Put entry)) call old new paused pauses (Ok copied))
        → (other : HaveTried (staging repo branch path (Put entry)) call old new paused pauses (Ok None)) × (tried.versions ≡ other.versions) × (entry ≡ entry)
    told_none None none tried = (tried, refl, refl)
    told_none (Some other) none tried = absurd cc
body_tried repo branch path entry call old new paused pauses (Err fault) result is tried =
    (tried.versions, subst (BodyTried repo branch path entry call old new paused pauses tried.versions) (sym is) (inr (tried, refl, tt)))
