-- An upload, by what its ticket, its tries and its giving up told.
use Rattle.std.proofs.Common.{◌≡◌, inl, inr, ℕ, true, false, List, [], ◌∷◌, ◌++◌, length, Option, Some, None, refl}
use Rattle.std.proofs.Common.{ap}
use Rattle.lake_values.specs.Entry.{EntryValue}
use Rattle.lake_values.specs.declared.entry.Change.TheVariants as change
use Rattle.lake_model.specs.declared.fault.StepFault.TheVariants as step
use Rattle.lake_model.specs.declared.history.HistoryEntry.{HistoryEntry}
use Rattle.lake_model.specs.declared.history.Operation.TheVariants.{TicketDrop, TicketTake}
use Rattle.lake_model.specs.History.{accepted_entry, faulted_entry}
use Rattle.lake_model.specs.Refusals.{causes_of_change, first_cause}
use Rattle.lake_model.specs.Steps.{write_causes}
use Rattle.lake_core.specs.declared.standing.LakeOrigin.{LakeOrigin}
use Rattle.shared_lake.specs.SeatSteps.{LakeSeat}
use Rattle.call_placement.specs.Rules.{Caller}
use Rattle.call_placement.specs.Points.{Came}
use Rattle.call_placement.specs.Served.{ByMemory, GivenUp, IsServed, Keeps, Shut}
use Rattle.call_placement.specs.Sessions.{caller}
use Rattle.lake_calls.specs.Calls.{UploadCall}
use Rattle.lake_calls.specs.CallExceptions.{CallMet}
use Rattle.lake_calls.specs.CallRefusals.{PointPasses, names_of}
use Rattle.lake_calls.specs.Courses.{CallPoint, Fixed, Makes, nothing_fixed, upload_entry}
use Rattle.lake_calls.specs.DoneReplies.{owed_behind}
use Rattle.lake_calls.specs.LakeRules.{by_caller, is_closed, lake_rules}
use Rattle.lake_calls.specs.declared.call.Call.{Call}
use Rattle.lake_calls.specs.declared.call.Call.TheVariants.{Objects}
use Rattle.lake_calls.specs.declared.objects.ObjectCall.TheVariants as object
use Rattle.lake_calls.specs.declared.reply.CallReply.{CallReply}
use Rattle.lake_calls.specs.declared.reply.CallReply.TheVariants as reply
use Rattle.lake_calls.specs.declared.reply.Done.{Done as DoneReply}
use Rattle.lake_calls.specs.declared.reply.Done.TheVariants as done
use Rattle.lake_calls.specs.declared.reply.Refusal.TheVariants as refusal
use Rattle.flow_steps.specs.declared.answer.FlowAnswer.{FlowAnswer}
use Rattle.flow_steps.specs.FlowAnswers.{BlockCounts, asked_at}
use Rattle.flow_steps.specs.FlowSeats.{GoesOn, opened_state, state_at}
use Rattle.flow_steps.specs.FlowTries.{staging}
use Rattle.flow_steps.proofs.FlowEndLemmas.{HasReached, moved, reached_nothing, reached_on, reached_step, served_broken, served_stopped}
use Rattle.flow_steps.proofs.RetryLemmas.{fault_counted, met_by, no_store, one_fault}
use Rattle.flow_steps.proofs.SeatFlowLemmas.{goes_further}
use Rattle.write_flow.specs.declared.answer.Done.{Done}
use Rattle.write_flow.specs.declared.answer.FlowFault.{FlowFault}
use Rattle.write_flow.specs.declared.answer.FlowFault.TheVariants.{Step, NoMemory}
use Rattle.write_flow.specs.FlowFaults.{IsFlowTold}
use Rattle.write_flow.specs.Uploads.{IsUploadTold, refused_at}
use Rattle.write_flow.specs.WriteFlows.{IsAnswer, NeverFall}
use Rattle.write_flow.proofs.InstanceLemmas.{stages}
use Rattle.write_flow.proofs.ServingLemmas.{Serves, Stops}
use Rattle.write_flow.proofs.TicketFlowLemmas.{open_of}

module _ (u : UploadCall) (moment number : ℕ) where
  abbrev upload : Call
  upload = Objects (object.Upload u)

  abbrev pub fixing : Fixed
  fixing = record nothing_fixed { number = number }

  -- the point at which its number is given out
  abbrev pub to_take : List CallPoint
  to_take = Makes (TicketTake u.repo u.branch number) ∷ []

  abbrev pub Staged : Option EntryValue → DoneReply → Type 0
  Staged entry told = (entry ≡ None) × (told ≡ done.Uploaded (record { path = u.path; entry = upload_entry u moment number }))

  pub uploads : Serves upload moment to_take u.repo u.branch (staging u.repo u.branch u.path (change.Put (upload_entry u moment number))) Staged
  uploads = stages upload moment to_take u.repo u.branch u.path (change.Put (upload_entry u moment number)) fixing refl
      (done.Uploaded (record { path = u.path; entry = upload_entry u moment number })) (λ s met. refl) Staged (refl, refl)

  -- where its number was taken, that point passed
  pub took : (origin : LakeOrigin) (seat call : ℕ) (before found taken : List HistoryEntry) → Came lake_rules (caller seat call) before found
      → first_cause (write_causes (state_at origin found) u.repo u.branch) ≡ None → number ≡ (state_at origin found).next_number
      → taken ≡ found ++ accepted_entry (by_caller (caller seat call)) (TicketTake u.repo u.branch number) ∷ []
      → HasReached (opened_state origin) (caller seat call) (asked_at upload moment) to_take before taken
  took origin seat call before found taken came none next is =
      reached_step (opened_state origin) (caller seat call) (asked_at upload moment) [] (TicketTake u.repo u.branch number) before found taken
      (reached_on (opened_state origin) (caller seat call) (asked_at upload moment) [] before before found
      (reached_nothing (opened_state origin) (caller seat call) (asked_at upload moment) before) came)
      (moved (PointPasses upload (Makes (TicketTake u.repo u.branch number))) (opened_state origin) found
      (record { none = none; no_clash = refl; worth = tt; fixes = next })) is

  -- ---- giving up

  module _ (origin : LakeOrigin) (call : ℕ) (old mid now new : LakeSeat) (goes : GoesOn origin call old now) (blocks : BlockCounts)
      (later : NeverFall blocks) (reached : HasReached (opened_state origin) (caller old.number call) (asked_at upload moment) to_take old.seen mid.seen) where
    abbrev by : Caller
    by = caller old.number call

    abbrev StopsHere : CallMet → CallReply → Type 0
    StopsHere met told = Stops origin by upload moment to_take u.repo u.branch
        (staging u.repo u.branch u.path (change.Put (upload_entry u moment number))) Staged uploads old.seen mid.seen reached met told now.seen

    owes : (met : CallMet) (told : CallReply) (stops : StopsHere met told) → owed_behind stops.passed ≡ Some (TicketDrop number)
    owes met told stops = elim stops.at [ inl take ↦ ap owed_behind take | inr look ↦ ap owed_behind look ]

    -- what the call's tries found so often
    module _ (changed : ℕ) where
      abbrev Answers : FlowAnswer Done FlowFault → Type 0
      Answers answer = IsAnswer old new call upload moment (IsUploadTold u moment) blocks changed answer

      refusal_answered : (fault : FlowFault) (told : CallReply) (position edge : ℕ) → IsFlowTold (names_of upload) fault told
          → GoesOn origin call old new
          → IsServed lake_rules (opened_state origin) by old.seen new.seen (asked_at upload moment) (met_by no_store blocks changed) told position edge
          → Answers (refused_at fault position edge)
      refusal_answered fault told position edge tells all served = record {
        met = met_by no_store blocks changed;
        told = told;
        tells = tells;
        flow = record { origin = origin; goes = all; served = served };
        faults = refl;
        misses = refl;
        missed_last = refl;
        counts = later;
        tries = refl;
      }

      -- the drop stood
      pub dropped : (fault : FlowFault) (told : CallReply) (found : List HistoryEntry) → IsFlowTold (names_of upload) fault told
          → StopsHere (met_by no_store blocks changed) told → GoesOn origin call now new → Came lake_rules by now.seen found
          → first_cause (causes_of_change (state_at origin found)) ≡ None
          → new.seen ≡ found ++ accepted_entry (by_caller by) (TicketDrop number) ∷ []
          → Answers (refused_at fault (length now.seen) (length new.seen))
      dropped fault told found tells stops more came none is =
          refusal_answered fault told (length now.seen) (length new.seen) tells (goes_further origin call old now new goes more)
          (served_stopped (opened_state origin) by (asked_at upload moment)
          (met_by no_store blocks changed) told uploads.some_fixed old.seen stops.passed stops.left now.seen
          new.seen (length new.seen) stops.course stops.reaches stops.hinders
          (GivenUp (TicketDrop number) found (owes (met_by no_store blocks changed) told stops) came
          (moved (λ s. is_closed s ≡ false) (opened_state origin) found (open_of (state_at origin found) none)) is refl))

      -- the lake takes no more changes
      pub closed : (fault : FlowFault) (told : CallReply) → IsFlowTold (names_of upload) fault told
          → StopsHere (met_by no_store blocks changed) told → GoesOn origin call now new → Came lake_rules by now.seen new.seen
          → is_closed (state_at origin new.seen) ≡ true → Answers (refused_at fault (length now.seen) (length now.seen))
      closed fault told tells stops more came is =
          refusal_answered fault told (length now.seen) (length now.seen) tells (goes_further origin call old now new goes more)
          (served_stopped (opened_state origin) by (asked_at upload moment)
          (met_by no_store blocks changed) told uploads.some_fixed old.seen stops.passed stops.left now.seen
          new.seen (length now.seen) stops.course stops.reaches stops.hinders
          (Shut came (moved (λ s. is_closed s ≡ true) (opened_state origin) new.seen is) refl))

      -- memory ran out
      pub starved : (met : CallMet) (told : CallReply) → StopsHere met told → GoesOn origin call now new → Came lake_rules by now.seen new.seen
          → Answers (refused_at NoMemory (length new.seen) (length new.seen))
      starved met told stops more came =
          refusal_answered NoMemory reply.NoMemory (length new.seen) (length new.seen) refl (goes_further origin call old now new goes more)
          (served_stopped (opened_state origin) by (asked_at upload moment)
          (met_by no_store blocks changed) reply.NoMemory uploads.some_fixed old.seen stops.passed stops.left new.seen
          new.seen (length new.seen) stops.course
          (reached_on (opened_state origin) by (asked_at upload moment) stops.passed old.seen now.seen new.seen stops.reaches came) (ByMemory refl)
          (Keeps refl refl refl))

      -- the store failed
      pub broken : (met : CallMet) (told : CallReply) (found : List HistoryEntry) → StopsHere met told → GoesOn origin call now new
          → Came lake_rules by now.seen found → first_cause (causes_of_change (state_at origin found)) ≡ None
          → new.seen ≡ found ++ faulted_entry (by_caller by) (TicketDrop number) ∷ []
          → Answers (refused_at (Step step.StoreFault) (length new.seen) (length new.seen))
      broken met told found stops more came none is = record {
        met = met_by one_fault blocks changed;
        told = reply.Refused refusal.StoreFault;
        tells = refl;
        flow = record {
          origin = origin;
          goes = goes_further origin call old now new goes more;
          served = served_broken (opened_state origin) by (asked_at upload moment) (met_by one_fault blocks changed)
              (reply.Refused refusal.StoreFault) uploads.some_fixed old.seen
              reply.NoMemory stops.passed stops.left (TicketDrop number) now.seen found new.seen stops.course stops.reaches (ByMemory refl)
              (owes met told stops) came (moved (λ s. is_closed s ≡ false) (opened_state origin) found (open_of (state_at origin found) none))
              (inl (fault_counted, refl)) is;
        };
        faults = refl;
        misses = refl;
        missed_last = refl;
        counts = later;
        tries = refl;
      }
