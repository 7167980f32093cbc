-- What an upload answers that got a number, by what came of its body.
use Rattle.std.proofs.Common.{◌≡◌, ℕ, List, Option, Some, Result, Ok, Err, refl, length, sym, subst, ap, ◌∙◌}
use Rattle.lake_values.specs.Entry.{EntryValue}
use Rattle.lake_model.specs.declared.fault.StepFault.TheVariants as step
use Rattle.lake_model.specs.Refusals.{GivesOrFails}
use Rattle.lake_model.specs.Steps.{take_ticket_reply}
use Rattle.core_state.specs.LakeStates.{lake_value}
use Rattle.block_store.specs.Blocks.{HeldObjects}
use Rattle.core_puts.specs.KeeperViews.{KeeperView}
use Rattle.lake_core.specs.declared.standing.LakeOrigin.{LakeOrigin}
use Rattle.lake_core.specs.Lakes.{LakeValue, state}
use Rattle.lake_core.specs.Makings.{take_ticket}
use Rattle.shared_lake.specs.SeatSteps.{IsChanged, LakeSeat}
use Rattle.call_placement.specs.Sessions.{caller}
use Rattle.lake_calls.specs.Calls.{UploadCall}
use Rattle.lake_calls.specs.Courses.{upload_entry}
use Rattle.lake_calls.specs.declared.call.Call.TheVariants.{Objects}
use Rattle.lake_calls.specs.declared.objects.ObjectCall.TheVariants as object
use Rattle.flow_steps.specs.declared.answer.FlowAnswer.{FlowAnswer}
use Rattle.flow_steps.specs.FlowAnswers.{BlockCounts, asked_at}
use Rattle.flow_steps.specs.FlowSeats.{GoesOn, opened_state}
use Rattle.flow_steps.proofs.FlowEndLemmas.{HasReached}
use Rattle.write_flow.specs.declared.answer.Done.{Done}
use Rattle.write_flow.specs.declared.answer.FlowFault.{FlowFault}
use Rattle.write_flow.specs.declared.answer.FlowFault.TheVariants.{Step}
use Rattle.write_flow.specs.Uploads.{BodyStored, GaveUp, HoldsPut, IsUploadAnswer, IsUploadTold, UploadEnds, WithNumber, refused_at}
use Rattle.write_flow.specs.WriteFlows.{IsAnswer, NeverFall}
use Rattle.write_flow.proofs.AnswerLemmas.{IsStopping}
use Rattle.write_flow.proofs.TakenLemmas.{handed, taken_goes, taken_made, taken_origin, taken_reached}
use Rattle.write_flow.proofs.UploadEndLemmas.{moved_seat, put_faulted, put_refused, put_told, stopped_at, tried_faulted, tried_told}
use Rattle.write_flow.proofs.UploadLemmas.{to_take}

-- what an upload answers that is done, with the entry that stands there, at all that its seat has seen
abbrev pub done_at : EntryValue → LakeSeat → FlowAnswer Done FlowFault
done_at entry seat = record {
  outcome = Ok (record { at = length seat.seen; entry = Some entry });
  position = length seat.seen;
  edge = length seat.seen;
}

module _ {K : Type 0} (view : KeeperView K) (old mid : LakeSeat) (call at number : ℕ) (u : UploadCall) (moment : ℕ)
    (changed : IsChanged view (record { seat = old.number; call = call }) old mid
    (λ (l : LakeValue K). Some (take_ticket old.number u.repo u.branch (lake_value l.present)))
    (λ (l : LakeValue K). GivesOrFails (handed at number) (take_ticket_reply (state l) u.repo u.branch)) (handed at number))
    (blocks : BlockCounts) (held held_now : Option HeldObjects) (later : NeverFall blocks)
    (paused pauses : Option ℕ) (versions : List ℕ) (behind : LakeSeat) where
  abbrev entry : EntryValue
  entry = upload_entry u moment number

  abbrev origin : LakeOrigin
  origin = taken_origin view old mid call at number u moment changed

  took : GoesOn origin call old mid
  took = taken_goes view old mid call at number u moment changed

  reached : HasReached (opened_state origin) (caller old.number call) (asked_at (Objects (object.Upload u)) moment) (to_take u moment number) old.seen mid.seen
  reached = taken_reached view old mid call at number u moment changed

  abbrev Stored : Result EntryValue FlowFault → Type 0
  Stored result = BodyStored u.repo u.branch u.path entry call blocks.faults mid behind paused pauses versions result

  abbrev Holds : Result EntryValue FlowFault → Type 0
  Holds result = HoldsPut number u.body held held_now result

  abbrev Answers : LakeSeat → FlowAnswer Done FlowFault → Type 0
  Answers new answer = IsAnswer old new call (Objects (object.Upload u)) moment (IsUploadTold u moment) blocks (length versions) answer

  abbrev Uploads : LakeSeat → FlowAnswer Done FlowFault → Type 0
  Uploads new answer = IsUploadAnswer u moment call blocks held held_now old new paused pauses answer

  with_number : (stored : Result EntryValue FlowFault) (new : LakeSeat) (answer : FlowAnswer Done FlowFault) → Stored stored
      → Holds stored → UploadEnds call number behind new stored answer → Answers new answer → Uploads new answer
  with_number stored new answer was holds ends answers = record {
    versions = versions;
    went = WithNumber number mid behind stored (taken_made view old mid call at number u moment changed) was holds ends;
    answers = answers;
  }

  -- its entry is told
  pub upload_told : (told : EntryValue) (answer : FlowAnswer Done FlowFault) → Stored (Ok told) → Holds (Ok told)
      → answer ≡ done_at told behind → Uploads behind answer
  upload_told told answer was holds is =
      let tried = tried_told u.repo u.branch u.path entry call blocks.faults mid behind paused pauses versions told was in
      with_number (Ok told) behind answer was holds (refl, is)
      (subst (Answers behind) (sym is)
      (subst (λ (x : EntryValue). Answers behind (done_at x behind)) (sym tried.2)
      (subst (λ (vs : List ℕ). IsAnswer old behind call (Objects (object.Upload u)) moment (IsUploadTold u moment) blocks (length vs) (done_at entry behind))
      (sym tried.1) (put_told u moment number call origin old mid took blocks later reached paused pauses behind tried.0))))

  -- the store of pairs failed
  pub upload_faulted : (answer : FlowAnswer Done FlowFault) → Stored (Err (Step step.StoreFault)) → Holds (Err (Step step.StoreFault))
      → answer ≡ refused_at (Step step.StoreFault) (length behind.seen) (length behind.seen) → Uploads behind answer
  upload_faulted answer was holds is =
      let tried = tried_faulted u.repo u.branch u.path entry call blocks.faults mid behind paused pauses versions was in
      with_number (Err (Step step.StoreFault)) behind answer was holds (refl, is)
      (subst (Answers behind) (sym is)
      (subst (λ (vs : List ℕ). IsAnswer old behind call (Objects (object.Upload u)) moment (IsUploadTold u moment) blocks (length vs)
      (refused_at (Step step.StoreFault) (length behind.seen) (length behind.seen))) (sym tried.1)
      (put_faulted u moment number call origin old mid took blocks later reached paused pauses behind tried.0)))

  -- it was refused, and gave its number up
  pub upload_refused : (fault : FlowFault) (new : LakeSeat) (answer : FlowAnswer Done FlowFault) → IsStopping fault → Stored (Err fault)
      → Holds (Err fault) → GaveUp call number behind new fault answer → Uploads new answer
  upload_refused fault new answer stopping was holds gave =
      with_number (Err fault) new answer was holds (ends fault stopping gave)
      (put_refused u moment number call origin old mid took blocks later reached paused pauses behind new (length versions) fault answer
      (stopped_at u moment number call origin old mid took blocks later reached paused pauses behind versions fault stopping was) gave)
    where
      ends : (fault : FlowFault) → IsStopping fault → GaveUp call number behind new fault answer → UploadEnds call number behind new (Err fault) answer
      ends (Step step.StoreFault) stopping gave = absurd stopping
      ends (Step fault) stopping gave = gave
      ends fault stopping gave = gave

  -- its seat is one of the same lake
  pub upload_turn : (result : Result EntryValue FlowFault) → Stored result → behind.turn ≡ old.turn
  upload_turn result was =
      moved_seat u.repo u.branch u.path entry call blocks.faults mid behind paused pauses versions result was
      ∙ ap (λ (s : LakeSeat). s.turn) changed.seat
