-- A number that was given out to an upload, and its ticket.
use Rattle.std.proofs.Common.{◌≡◌, ◌+◌, ℕ, List, [], ◌∷◌, ◌++◌, Option, Some, None, Result, Ok, refl, sym, ap, subst, ◌∙◌}
use Rattle.lake_model.specs.declared.fault.StepFault.{StepFault}
use Rattle.lake_model.specs.declared.history.HistoryEntry.{HistoryEntry}
use Rattle.lake_model.specs.declared.history.Operation.TheVariants.{TicketTake}
use Rattle.lake_model.specs.State.{State}
use Rattle.lake_model.specs.History.{accepted_entry, replay}
use Rattle.lake_model.specs.Refusals.{GivesOrFails, first_cause, unless_refused}
use Rattle.lake_model.specs.Steps.{take_ticket_reply, write_causes}
use Rattle.lake_model.specs.Uncommitted.{HasTicket}
use Rattle.lake_laws.specs.OtherSeats.{AreOfOtherSeats}
use Rattle.lake_laws.proofs.HistoryLemmas.{replay-append}
use Rattle.lake_laws.proofs.TicketLemmas.{ticket_left}
use Rattle.core_state.specs.LakeStates.{lake_value, state_of}
use Rattle.core_puts.specs.KeeperViews.{KeeperView}
use Rattle.core_puts.specs.KeptChanges.{Making}
use Rattle.lake_core.specs.declared.standing.LakeOrigin.{LakeOrigin}
use Rattle.lake_core.specs.Lakes.{LakeValue, state}
use Rattle.lake_core.specs.Makings.{take_ticket}
use Rattle.shared_lake.specs.SeatSteps.{Finds, IsChanged, LakeSeat, origin_of}
use Rattle.call_placement.specs.Points.{Came}
use Rattle.call_placement.specs.Sessions.{caller}
use Rattle.lake_calls.specs.Calls.{UploadCall}
use Rattle.lake_calls.specs.LakeRules.{by_caller, lake_rules}
use Rattle.flow_steps.specs.FlowAnswers.{asked_at}
use Rattle.flow_steps.specs.FlowSeats.{GoesOn, opened_state, state_at}
use Rattle.flow_steps.proofs.FlowEndLemmas.{HasReached}
use Rattle.flow_steps.proofs.SeatFlowLemmas.{answer_changed, came_to_change, entry_stands, goes_by_change}
use Rattle.write_flow.specs.Uploads.{HasTakenNumber}
use Rattle.write_flow.proofs.TicketFlowLemmas.{ticket_taken}
use Rattle.write_flow.proofs.UploadLemmas.{to_take, took}
use Rattle.lake_calls.specs.declared.call.Call.TheVariants.{Objects}
use Rattle.lake_calls.specs.declared.objects.ObjectCall.TheVariants as object

-- a number was handed out, at a place
abbrev pub handed : (at number : ℕ) → Result (ℕ × ℕ) StepFault
handed at number = Ok (at, number)

abbrev pair_of : (place next : ℕ) → ℕ × ℕ
pair_of place next = (place, next)

-- a number that was given out is the next one, and nothing refused it
given_by : (first : Option StepFault) (place next at number : ℕ) → handed at number ≡ unless_refused first (pair_of place next) → (first ≡ None) ×
    (number ≡ next)
given_by None place next at number is = let same : pair_of at number ≡ pair_of place next = cc in (refl, ap (λ (pair : ℕ × ℕ). pair.1) same)
given_by (Some fault) place next at number is = absurd cc

module _ {K : Type 0} (view : KeeperView K) (old mid : LakeSeat) (call at number : ℕ) (u : UploadCall) (moment : ℕ)
    (changed : IsChanged view (record { seat = old.number; call = call }) old mid
    (λ (l : LakeValue K). Some (take_ticket old.number u.repo u.branch (lake_value l.present)))
    (λ (l : LakeValue K). GivesOrFails (handed at number) (take_ticket_reply (state l) u.repo u.branch)) (handed at number)) where
  abbrev Takes : LakeValue K → Option Making
  Takes l = Some (take_ticket old.number u.repo u.branch (lake_value l.present))

  abbrev TakeAnswers : LakeValue K → Type 0
  TakeAnswers l = GivesOrFails (handed at number) (take_ticket_reply (state l) u.repo u.branch)

  abbrev pub taken_origin : LakeOrigin
  taken_origin = origin_of view changed.found

  abbrev found : List HistoryEntry
  found = changed.found.history

  pub taken_goes : GoesOn taken_origin call old mid
  taken_goes = goes_by_change view old mid call Takes TakeAnswers (handed at number) changed taken_origin changed.finds.origin

  given_here : (first_cause (write_causes (state_at taken_origin found) u.repo u.branch) ≡ None) × (number ≡ (state_at taken_origin found).next_number)
  given_here = answer_changed view old mid call Takes TakeAnswers (handed at number) changed
      (λ s given. (first_cause (write_causes s u.repo u.branch) ≡ None) × (number ≡ s.next_number)) taken_origin changed.finds.origin
      (λ l says. given_by (first_cause (write_causes (state l) u.repo u.branch)) ((state l).entries + 1) (state l).next_number at number says)

  -- it is the number that the lake in memory gave out
  in_memory : (lake_value changed.found.present).next_number ≡ number
  in_memory =
      let there : (state changed.found).next_number ≡ (state_of (lake_value changed.found.present)).next_number =
      ap (λ (s : State). s.next_number) changed.finds.holds.stands.replayed in
      let here : (state changed.found).next_number ≡ (state_at taken_origin found).next_number = refl in
      sym (given_here.1 ∙ sym here ∙ there)

  entry_is : mid.seen ≡ found ++ accepted_entry (by_caller (caller old.number call)) (TicketTake u.repo u.branch number) ∷ []
  entry_is =
      entry_stands view old mid call Takes TakeAnswers (handed at number) changed
      ∙ ap (λ n. found ++ accepted_entry (by_caller (caller old.number call)) (TicketTake u.repo u.branch n) ∷ []) in_memory

  came : Came lake_rules (caller old.number call) old.seen found
  came = came_to_change view old mid call Takes TakeAnswers (handed at number) changed

  pub taken_made : HasTakenNumber u.repo u.branch call old mid (Ok number)
  taken_made = record {
    origin = taken_origin;
    goes = taken_goes;
    ends = (
      TicketTake u.repo u.branch number,
      found,
      record { came = came; none = given_here.0; makes = (given_here.1, refl) },
      entry_is,
    );
  }

  pub taken_reached : HasReached (opened_state taken_origin) (caller old.number call) (asked_at (Objects (object.Upload u)) moment)
      (to_take u moment number) old.seen mid.seen
  taken_reached = took u moment number taken_origin old.number call old.seen found mid.seen came given_here.0 given_here.1 entry_is

  -- so its ticket is the seat's
  has_ticket : HasTicket (state_at taken_origin mid.seen) old.number number
  has_ticket =
      let entry = accepted_entry (by_caller (caller old.number call)) (TicketTake u.repo u.branch number) in
      subst (λ es. HasTicket (state_at taken_origin es) old.number number) (sym entry_is)
      (subst (λ s. HasTicket s old.number number) (sym (replay-append (opened_state taken_origin) found (entry ∷ [])))
      (ticket_taken old.number number (state_at taken_origin found)))

  -- and stays it in each lake that the seat may find
  pub taken_ticket : (lake : LakeValue K) → Finds view mid lake → HasTicket (state lake) mid.number number
  taken_ticket lake finds =
      let mid_number : mid.number ≡ old.number = ap (λ (s : LakeSeat). s.number) changed.seat in
      let from : mid.origin ≡ Some taken_origin = ap (λ (s : LakeSeat). s.origin) changed.seat ∙ changed.finds.origin in
      let both : Some (origin_of view lake) ≡ Some taken_origin = sym finds.origin ∙ from in
      let same : origin_of view lake ≡ taken_origin = cc (both) in
      let opened : lake.opened ≡ taken_origin.opened = ap (λ (o : LakeOrigin). o.opened) same in
      let there = subst (λ o. HasTicket (replay (state_of (lake_value o)) mid.seen) old.number number) (sym opened) has_ticket in
      subst (λ n. HasTicket (state lake) n number) (sym mid_number)
      (ticket_left old.number number (state_of (lake_value lake.opened)) lake.history mid.seen finds.others finds.holds.stands.sound finds.begins
      finds.holds.stands.legal there (subst (λ n. AreOfOtherSeats n finds.others) mid_number finds.are_others))
