-- An upload that gets no number.
use Rattle.std.proofs.Common.{◌≡◌, ◌+◌, inl, inr, ℕ, true, List, [], length, Option, Some, None, Err, refl, sym, ap, subst, ◌∙◌}
use Rattle.std.proofs.lemmas.List.{append-nil}
use Rattle.lake_model.specs.declared.fault.StepFault.{StepFault}
use Rattle.lake_model.specs.declared.fault.StepFault.TheVariants as step
use Rattle.lake_model.specs.declared.history.HistoryEntry.{HistoryEntry}
use Rattle.lake_model.specs.declared.history.Operation.TheVariants.{TicketTake}
use Rattle.lake_model.specs.State.{State}
use Rattle.lake_model.specs.Refusals.{GivesOrFails, IsRefusal, first_cause}
use Rattle.lake_model.specs.Steps.{take_ticket_reply, write_causes}
use Rattle.core_state.specs.LakeStates.{lake_value}
use Rattle.core_puts.specs.KeeperViews.{KeeperView}
use Rattle.core_puts.specs.KeptChanges.{Making}
use Rattle.lake_core.specs.declared.standing.LakeOrigin.{LakeOrigin}
use Rattle.lake_core.specs.Lakes.{LakeValue, state}
use Rattle.lake_core.specs.Makings.{take_ticket}
use Rattle.shared_lake.specs.SeatSteps.{IsChanged, LakeSeat, origin_of}
use Rattle.call_placement.specs.Rules.{Caller}
use Rattle.call_placement.specs.Points.{Came}
use Rattle.call_placement.specs.Served.{ByMemory, ByState, Hinders, IsServed, OwesNothing}
use Rattle.call_placement.specs.Sessions.{caller}
use Rattle.lake_calls.specs.Calls.{UploadCall}
use Rattle.lake_calls.specs.CallExceptions.{Counts}
use Rattle.lake_calls.specs.CallRefusals.{CallNames, IsToldOf, PointPasses, PointRefused, names_of, told}
use Rattle.lake_calls.specs.Courses.{Makes, call_course}
use Rattle.lake_calls.specs.LakeRules.{lake_rules}
use Rattle.lake_calls.specs.declared.call.Call.{Call}
use Rattle.lake_calls.specs.declared.call.Call.TheVariants.{Objects}
use Rattle.lake_calls.specs.declared.objects.ObjectCall.TheVariants as object
use Rattle.lake_calls.specs.declared.reply.CallReply.{CallReply}
use Rattle.lake_calls.specs.declared.reply.CallReply.TheVariants as reply
use Rattle.lake_calls.specs.declared.reply.Refusal.{Refusal}
use Rattle.lake_calls.specs.declared.reply.Refusal.TheVariants as refusal
use Rattle.flow_steps.specs.FlowAnswers.{BlockCounts, asked_at}
use Rattle.flow_steps.specs.FlowSeats.{GoesOn, opened_state, state_at}
use Rattle.flow_steps.proofs.FlowEndLemmas.{HasReached, moved, reached_nothing, reached_on, served_faulted, served_stopped}
use Rattle.flow_steps.proofs.RetryLemmas.{met_by, no_store, told_some}
use Rattle.flow_steps.proofs.SeatFlowLemmas.{answer_changed, came_to_change, entry_stands, goes_by_change}
use Rattle.flow_steps.proofs.VersionCauseLemmas.{Decides, IsUnversioned, decided, refused_for, write_asks}
use Rattle.write_flow.specs.declared.answer.FlowFault.{FlowFault}
use Rattle.write_flow.specs.declared.answer.FlowFault.TheVariants.{NoMemory}
use Rattle.write_flow.specs.FlowFaults.{IsFlowTold, fault_of_step}
use Rattle.write_flow.specs.Uploads.{HasTakenNumber, IsUploadTold, refused_at}
use Rattle.write_flow.specs.WriteFlows.{IsAnswer, NeverFall}
use Rattle.write_flow.proofs.UploadLemmas.{fixing}

-- what a client is told of a step's refusal, as a flow answers it
pub flow_told : (names : CallNames) (fault : StepFault) (refused : Refusal) → told names fault ≡ Some refused → IsUnversioned fault → IsRefusal fault
    → IsFlowTold names (fault_of_step fault) (reply.Refused refused)
flow_told names step.NoPath refused is u r = let same : Some (refusal.NoPath names.path) ≡ Some refused = is in cc
flow_told names step.StoreFault refused is u r = absurd r
flow_told names step.NoMemory refused is u r = absurd r
flow_told names (step.Changed version settings) refused is u r = absurd u
flow_told names fault refused is u r = (refused, is, refl)

module _ {K : Type 0} (view : KeeperView K) (old new : LakeSeat) (call : ℕ) (u : UploadCall) (moment : ℕ) (blocks : BlockCounts)
    (later : NeverFall blocks) where
  abbrev upload : Call
  upload = Objects (object.Upload u)

  abbrev by : Caller
  by = caller old.number call

  abbrev Takes : LakeValue K → Option Making
  Takes l = Some (take_ticket old.number u.repo u.branch (lake_value l.present))

  abbrev TakeAnswers : StepFault → LakeValue K → Type 0
  TakeAnswers fault l = GivesOrFails {X = ℕ × ℕ} (Err fault) (take_ticket_reply (state l) u.repo u.branch)

  abbrev Refuses : StepFault → Type 0
  Refuses fault = IsChanged {X = ℕ × ℕ} view (record { seat = old.number; call = call }) old new Takes (TakeAnswers fault) (Err fault)

  abbrev Answers : FlowFault → Type 0
  Answers fault = IsAnswer old new call upload moment (IsUploadTold u moment) blocks 0
      (refused_at fault (length new.seen) (length new.seen))

  module _ (fault : StepFault) (changed : Refuses fault) where
    abbrev origin : LakeOrigin
    origin = origin_of view changed.found

    abbrev found : List HistoryEntry
    found = changed.found.history

    goes : GoesOn origin call old new
    goes = goes_by_change view old new call Takes (TakeAnswers fault) (Err fault) changed origin changed.finds.origin

    came : Came lake_rules by old.seen found
    came = came_to_change view old new call Takes (TakeAnswers fault) (Err fault) changed

    decides : Decides {X = ℕ × ℕ} (write_causes (state_at origin found) u.repo u.branch) (Err fault)
    decides = answer_changed view old new call Takes (TakeAnswers fault) (Err fault) changed
        (λ s given. Decides {X = ℕ × ℕ} (write_causes s u.repo u.branch) (Err fault)) origin changed.finds.origin
        (λ l says. decided (state l) (write_causes (state l) u.repo u.branch) ((state l).entries + 1, (state l).next_number) (Err fault) says)

    begun : HasReached (opened_state origin) by (asked_at upload moment) [] old.seen found
    begun = reached_on (opened_state origin) by (asked_at upload moment) [] old.seen old.seen found
        (reached_nothing (opened_state origin) by (asked_at upload moment) old.seen) came

    -- the number that the lake in memory would give out
    abbrev number : ℕ
    number = (lake_value changed.found.present).next_number

    is_next : number ≡ (state_at origin found).next_number
    is_next = sym (ap (λ (s : State). s.next_number) changed.finds.holds.stands.replayed)

    stopped : (flow_fault : FlowFault) (says : CallReply) → IsFlowTold (names_of upload) flow_fault says → new.seen ≡ found
        → Hinders lake_rules (opened_state origin) by (asked_at upload moment) (met_by no_store blocks 0) (length old.seen)
        (call_course upload moment (fixing u moment number)) found says
        → Answers flow_fault
    stopped flow_fault says tells same hinders = record {
      met = met_by no_store blocks 0;
      told = says;
      tells = tells;
      flow = record {
        origin = origin;
        goes = goes;
        served = subst (λ es. IsServed lake_rules (opened_state origin) by old.seen es (asked_at upload moment) (met_by no_store blocks 0) says (length es)
            (length es))
            (sym same)
            (served_stopped (opened_state origin) by (asked_at upload moment) (met_by no_store blocks 0) says (fixing u moment number) old.seen []
            (call_course upload moment (fixing u moment number)) found found (length found) refl begun hinders (OwesNothing refl refl refl));
      };
      faults = refl;
      misses = refl;
      missed_last = refl;
      counts = later;
      tries = refl;
    }

    refused : IsRefusal fault → first_cause (write_causes (state_at origin found) u.repo u.branch) ≡ Some fault → new.seen ≡ found
        → (reply_told : CallReply)
        → IsFlowTold (names_of upload) (fault_of_step fault) reply_told → IsToldOf (names_of upload) fault reply_told → Answers (fault_of_step fault)
    refused is first same reply_told tells says =
        stopped (fault_of_step fault) reply_told tells same
        (ByState (Makes (TicketTake u.repo u.branch number)) _ refl
        (moved (λ s. PointRefused upload (Makes (TicketTake u.repo u.branch number)) s reply_told) (opened_state origin) found
        (record { clash = None; is_clash = refl; fault = fault; first = first; told_so = says })))

  -- its ticket wasn't taken
  pub not_taken : (fault : StepFault) → Refuses fault → HasTakenNumber u.repo u.branch call old new (Err fault)
  not_taken step.NoMemory changed = record {
    origin = origin step.NoMemory changed;
    goes = goes step.NoMemory changed;
    ends = subst (Came lake_rules by old.seen)
        (sym (entry_stands view old new call Takes (TakeAnswers step.NoMemory) (Err step.NoMemory) changed ∙ append-nil (found step.NoMemory changed)))
        (came step.NoMemory changed);
  }
  not_taken step.StoreFault changed = record {
    origin = origin step.StoreFault changed;
    goes = goes step.StoreFault changed;
    ends = (
      number step.StoreFault changed,
      TicketTake u.repo u.branch (number step.StoreFault changed),
      found step.StoreFault changed,
      record { came = came step.StoreFault changed; none = decides step.StoreFault changed; makes = (is_next step.StoreFault changed, refl) },
      entry_stands view old new call Takes (TakeAnswers step.StoreFault) (Err step.StoreFault) changed,
    );
  }
  not_taken fault changed =
      let same = entry_stands view old new call Takes (TakeAnswers fault) (Err fault) changed ∙ append-nil (found fault changed) in
      record {
        origin = origin fault changed;
        goes = goes fault changed;
        ends = subst (λ es. Came lake_rules by old.seen es × (first_cause (write_causes (state_at (origin fault changed) es) u.repo u.branch) ≡ Some fault))
            (sym same) (came fault changed, decides fault changed);
      }

  pub early : (fault : StepFault) → Refuses fault → Answers (fault_of_step fault)
  early step.NoMemory changed =
      stopped step.NoMemory changed NoMemory reply.NoMemory refl
      (entry_stands view old new call Takes (TakeAnswers step.NoMemory) (Err step.NoMemory) changed ∙ append-nil (found step.NoMemory changed)) (ByMemory refl)
  early step.StoreFault changed =
      let counts : Counts = record { before = view.faults changed.found.keeper; now = view.faults changed.left.keeper } in
      record {
        met = met_by counts blocks 0;
        told = reply.Refused refusal.StoreFault;
        tells = refl;
        flow = record {
          origin = origin step.StoreFault changed;
          goes = goes step.StoreFault changed;
          served = served_faulted (opened_state (origin step.StoreFault changed)) by (asked_at upload moment) (met_by counts blocks 0)
              (reply.Refused refusal.StoreFault) (fixing u moment (number step.StoreFault changed)) old.seen [] _
              (Makes (TicketTake u.repo u.branch (number step.StoreFault changed))) (TicketTake u.repo u.branch (number step.StoreFault changed))
              (found step.StoreFault changed) new.seen refl (begun step.StoreFault changed) refl
              (moved (PointPasses upload (Makes (TicketTake u.repo u.branch (number step.StoreFault changed)))) (opened_state (origin step.StoreFault changed))
              (found step.StoreFault changed)
              (record { none = decides step.StoreFault changed; no_clash = refl; worth = tt; fixes = is_next step.StoreFault changed }))
              (inl (changed.leaves.1.rose, refl))
              (entry_stands view old new call Takes (TakeAnswers step.StoreFault) (Err step.StoreFault) changed);
        };
        faults = refl;
        misses = refl;
        missed_last = refl;
        counts = later;
        tries = refl;
      }
  early (step.Changed version settings) changed =
      let wrong = refused_for (write_causes (state_at (origin (step.Changed version settings) changed)
      (found (step.Changed version settings) changed)) u.repo u.branch)
      true 0 0 (step.Changed version settings) (write_asks (state_at (origin (step.Changed version settings) changed)
      (found (step.Changed version settings) changed)) u.repo u.branch) (decides (step.Changed version settings) changed) in
      elim wrong [ inl other ↦ absurd (let no = other.0 in cc) | inr plain ↦ absurd plain.1 ]
  early fault changed =
      let says = told_some (names_of upload) fault tt tt in
      refused fault changed tt (decides fault changed)
      (entry_stands view old new call Takes (TakeAnswers fault) (Err fault) changed ∙ append-nil (found fault changed)) (reply.Refused says.0)
      (flow_told (names_of upload) fault says.0 says.1 tt tt) (says.0, says.1, refl)
