-- A call that is answered by one reading, by what that told.
use Rattle.std.proofs.Common.{◌≡◌, inl, inr, ℕ, [], length, Some, Result, Ok, Err, refl, sym, ap, subst, ◌∙◌}
use Rattle.std.proofs.lemmas.List.{append-nil}
use Rattle.lake_model.specs.declared.fault.StepFault.{StepFault}
use Rattle.lake_model.specs.declared.fault.StepFault.TheVariants as step
use Rattle.lake_model.specs.State.{State}
use Rattle.lake_model.specs.Refusals.{Gives}
use Rattle.lake_model.specs.Soundness.{IsSound}
use Rattle.lake_model.specs.Versions.{VersionsGiven}
use Rattle.lake_laws.proofs.SoundnessLemmas.{IsSound-replay}
use Rattle.core_puts.specs.KeeperViews.{KeeperView}
use Rattle.lake_core.specs.declared.standing.LakeOrigin.{LakeOrigin}
use Rattle.lake_core.specs.Lakes.{LakeValue, state, versions}
use Rattle.shared_lake.specs.SeatSteps.{IsRead, LakeSeat, origin_of}
use Rattle.call_placement.specs.Served.{ByMemory, ByState, Hinders, IsServed, OwesNothing}
use Rattle.call_placement.specs.Sessions.{caller}
use Rattle.lake_calls.specs.CallExceptions.{CallMet}
use Rattle.lake_calls.specs.CallRefusals.{IsToldOf, PointPasses, PointRefused, names_of}
use Rattle.lake_calls.specs.Courses.{Answers, call_course, nothing_fixed}
use Rattle.lake_calls.specs.LakeRules.{IsAnswerOf, lake_rules}
use Rattle.lake_calls.specs.Requests.{Asks, CallRequest}
use Rattle.lake_calls.specs.declared.call.Call.{Call}
use Rattle.lake_calls.specs.declared.reply.CallReply.{CallReply}
use Rattle.lake_calls.specs.declared.reply.CallReply.TheVariants as reply
use Rattle.lake_calls.specs.declared.reply.Done.{Done}
use Rattle.flow_steps.specs.FlowAnswers.{asked_at}
use Rattle.flow_steps.specs.FlowSeats.{GoesOn, given_at, opened_state, state_at}
use Rattle.flow_steps.proofs.FlowEndLemmas.{HasReached, moved, reached_nothing, reached_on, served_done, served_stopped}
use Rattle.flow_steps.proofs.SeatFlowLemmas.{answer_read, came_to_reading, goes_by_reading}
use Rattle.call_readings.specs.declared.answers.Answered.{Answered}
use Rattle.call_readings.specs.AnsweredReadings.{IsReadingAnswered}
use Rattle.call_readings.specs.StepOutcomes.{IsReplied}
use Rattle.call_readings.proofs.ToldLemmas.{Reads, TellsFault, told_plainly}

module _ {K : Type 0} (view : KeeperView K) (old new : LakeSeat) (Step : State → VersionsGiven → Type 0)
    (read : IsRead view old new (λ l. Step (state l) (versions l))) where
  abbrev AtLake : LakeValue K → Type 0
  AtLake l = Step (state l) (versions l)

  abbrev origin : LakeOrigin
  origin = origin_of view read.found

  abbrev now : State
  now = state_at origin new.seen

  goes : (number : ℕ) → GoesOn origin number old new
  goes number = goes_by_reading view old new AtLake read number origin read.finds.origin

  begun : (number : ℕ) (request : CallRequest) → HasReached (opened_state origin) (caller old.number number) request [] old.seen new.seen
  begun number request = reached_on (opened_state origin) (caller old.number number) request [] old.seen old.seen new.seen
      (reached_nothing (opened_state origin) (caller old.number number) request old.seen) (came_to_reading view old new AtLake read number)

  -- the call is served, with this reply
  abbrev Serves : Call → CallReply → Type 0
  Serves call told = (number moment : ℕ) (met : CallMet)
      → IsServed lake_rules (opened_state origin) (caller old.number number) old.seen new.seen (asked_at call moment) met told
      (length new.seen) (length new.seen)

  stopped : (call : Call) (told : CallReply)
      → ((number moment : ℕ) (met : CallMet) → Hinders lake_rules (opened_state origin) (caller old.number number) (asked_at call moment) met (length old.seen)
      (call_course call moment nothing_fixed) new.seen told)
      → Serves call told
  stopped call told hinders number moment met =
      served_stopped (opened_state origin) (caller old.number number) (asked_at call moment) met told nothing_fixed old.seen []
      (call_course call moment nothing_fixed) new.seen new.seen (length new.seen) refl (begun number (asked_at call moment)) (hinders number moment met)
      (OwesNothing refl refl refl)

  starves : (call : Call) → Serves call reply.NoMemory
  starves call = stopped call reply.NoMemory (λ number moment met. ByMemory refl)

  -- so it is answered
  answered_by : (call : Call) (answer : Answered) → answer.position ≡ length new.seen → answer.edge ≡ length new.seen → Serves call answer.reply
      → IsReadingAnswered old new call answer
  answered_by call answer position edge serves = record {
    flow = λ number moment met. record {
      origin = origin;
      goes = goes number;
      served = subst (λ e. IsServed lake_rules (opened_state origin) (caller old.number number) old.seen new.seen (asked_at call moment) met
          answer.reply answer.position e) (sym edge)
          (subst (λ p. IsServed lake_rules (opened_state origin) (caller old.number number) old.seen new.seen (asked_at call moment) met
          answer.reply p (length new.seen)) (sym position) (serves number moment met));
    };
    position = position;
    edge = edge;
    others = λ number. came_to_reading view old new AtLake read number;
    turn = ap (λ (s : LakeSeat). s.turn) read.seat;
  }

  -- memory ran out
  pub starved : (call : Call) (answer : Answered) → answer.position ≡ length new.seen → answer.edge ≡ length new.seen → answer.reply ≡ reply.NoMemory
      → IsReadingAnswered old new call answer
  starved call answer position edge is = answered_by call answer position edge (subst (Serves call) (sym is) (starves call))

  pub starved_so : (call : Call) (answer : Answered) → answer ≡ record { reply = reply.NoMemory; position = length new.seen; edge = length new.seen }
      → IsReadingAnswered old new call answer
  starved_so call answer is = starved call answer (ap (λ (a : Answered). a.position) is) (ap (λ (a : Answered). a.edge) is) (ap (λ (a : Answered). a.reply) is)

  module _ (call : Call) (reading : State → Result Done StepFault) (reads : Reads call reading) where
    done : (told : Done) → reading now ≡ Ok told → Serves call (reply.Done told)
    done told is number moment met =
        served_done (opened_state origin) (caller old.number number) (asked_at call moment) met (reply.Done told) nothing_fixed old.seen [] Answers
        new.seen new.seen (reads.course moment) (begun number (asked_at call moment))
        (moved (PointPasses call Answers) (opened_state origin) new.seen (told, reads.says now ∙ ap Some is))
        (moved (λ s. IsAnswerOf (Asks call) moment met (call_course call moment nothing_fixed) s (reply.Done told)) (opened_state origin) new.seen
        (nothing_fixed, refl, told, reads.done moment met now told is, refl))
        (sym (append-nil new.seen))

    refused : (fault : StepFault) (told : CallReply) → reading now ≡ Err fault → IsToldOf (names_of call) fault told → Serves call told
    refused fault told is so = stopped call told (λ number moment met. ByState Answers [] (reads.course moment)
        (moved (λ s. PointRefused call Answers s told) (opened_state origin) new.seen (fault, reads.says now ∙ ap Some is, so)))

    by_outcome : (outcome : Result Done StepFault) (told : CallReply) → Gives outcome (reading now) → IsReplied (names_of call) outcome told → Serves call told
    by_outcome (Ok what) told gives is = subst (Serves call) (sym is) (done what (sym gives))
    by_outcome (Err step.NoMemory) told gives is = subst (Serves call) (sym is) (starves call)
    by_outcome (Err fault) told gives is =
        elim (told_plainly (names_of call) fault told (subst TellsFault (sym gives) (reads.tells now)) is) [
          | inl so ↦ refused fault told (sym gives) so
          | inr none ↦ subst (Serves call) (sym none) (starves call)
        ]

    -- the step told this in the state that was read, and so the call is answered
    pub answered : (outcome : Result Done StepFault) (answer : Answered)
        → ((s : State) (given : VersionsGiven) → IsSound s → Step s given → Gives outcome (reading s))
        → IsReplied (names_of call) outcome answer.reply → answer.position ≡ length new.seen → answer.edge ≡ length new.seen
        → IsReadingAnswered old new call answer
    answered outcome answer gives is position edge =
        let sound = IsSound-replay (opened_state origin) new.seen (goes 0).sound (goes 0).legal in
        let told = answer_read view old new AtLake read Step origin read.finds.origin (λ l says. says) in
        answered_by call answer position edge
        (by_outcome outcome answer.reply (gives now (given_at origin new.seen) sound told) is)
