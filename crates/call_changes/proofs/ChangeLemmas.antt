-- A call that is answered by one change, by what its step told.
use Rattle.std.proofs.Common.{◌≡◌, inl, inr, ℕ, List, [], ◌∷◌, ◌++◌, length, Option, Some, None, Result, Ok, Err, refl, sym, ap, subst, ◌∙◌}
use Rattle.std.proofs.lemmas.List.{append-nil}
use Rattle.std.specs.Prelude.{IfSome, IsSomeAnd}
use Rattle.lake_model.specs.declared.fault.Reference.TheVariants as reference
use Rattle.lake_model.specs.declared.fault.StepFault.{StepFault}
use Rattle.lake_model.specs.declared.fault.StepFault.TheVariants as step
use Rattle.lake_model.specs.declared.history.By.{By}
use Rattle.lake_model.specs.declared.history.HistoryEntry.{HistoryEntry}
use Rattle.lake_model.specs.declared.history.Operation.{Operation}
use Rattle.lake_model.specs.State.{State}
use Rattle.lake_model.specs.History.{accepted_entry, faulted_entry}
use Rattle.lake_model.specs.Readings.{◌then◌}
use Rattle.core_puts.specs.KeeperViews.{KeeperView}
use Rattle.core_puts.specs.KeptChanges.{LeavesParts, Making}
use Rattle.lake_core.specs.declared.standing.LakeOrigin.{LakeOrigin}
use Rattle.lake_core.specs.Lakes.{LakeValue, state}
use Rattle.lake_core.specs.Leaving.{parts_of}
use Rattle.shared_lake.specs.SeatSteps.{IsChanged, LakeSeat, origin_of}
use Rattle.call_placement.specs.Rules.{Caller}
use Rattle.call_placement.specs.Points.{Came, replay as along}
use Rattle.call_placement.specs.Served.{ByMemory, ByState, Hinders, IsServed, OwesNothing}
use Rattle.call_placement.specs.Sessions.{caller}
use Rattle.lake_calls.specs.CallExceptions.{CallMet, HasRisen}
use Rattle.lake_calls.specs.CallRefusals.{CallNames, IsToldOf, PointPasses, PointRefused, StepPasses, StepRefused, names_of, told}
use Rattle.lake_calls.specs.Courses.{Fixed, Makes, call_course, nothing_fixed}
use Rattle.lake_calls.specs.DoneReplies.{IsDone}
use Rattle.lake_calls.specs.LakeRules.{IsAnswerOf, lake_rules}
use Rattle.lake_calls.specs.Requests.{Asks}
use Rattle.lake_calls.specs.declared.call.Call.{Call}
use Rattle.lake_calls.specs.declared.reply.CallReply.{CallReply}
use Rattle.lake_calls.specs.declared.reply.CallReply.TheVariants as reply
use Rattle.lake_calls.specs.declared.reply.Done.{Done}
use Rattle.lake_calls.specs.declared.reply.Refusal.TheVariants as refusal
use Rattle.flow_steps.specs.FlowAnswers.{asked_at}
use Rattle.flow_steps.specs.FlowSeats.{GoesOn, opened_state}
use Rattle.flow_steps.proofs.FlowEndLemmas.{HasReached, moved, reached_nothing, reached_on, served_done, served_faulted, served_stopped}
use Rattle.flow_steps.proofs.SeatFlowLemmas.{came_to_change, entries_by, entry_stands, goes_by_change}
use Rattle.call_readings.specs.declared.answers.Answered.{Answered}
use Rattle.call_readings.specs.StepOutcomes.{IsReplied}
use Rattle.call_readings.specs.ToldFaults.{IsFaultTold}
use Rattle.call_readings.proofs.ToldLemmas.{IsTellable, told_plainly}
use Rattle.call_changes.specs.AnsweredChanges.{AddsBy, IsChangeAnswered, store_failed}

-- ---- what a step decides

-- it passes in a state, and makes this change there
pub record Passes (call : Call) (moment : ℕ) (s : State) (made : Option Making) : Type 0 where
  pub making : Making
  pub is : made ≡ Some making
  pub fixed : Fixed
  pub course : call_course call moment fixed ≡ Makes making.operation ∷ []
  pub passes : StepPasses s call making.operation

-- it is refused there for a fault, which is told
pub record IsRefused (call : Call) (moment : ℕ) (s : State) (fault : StepFault) : Type 0 where
  pub operation : Operation
  pub fixed : Fixed
  pub course : call_course call moment fixed ≡ Makes operation ∷ []
  pub tellable : IsTellable fault
  pub refused : (told : CallReply) → IsToldOf (names_of call) fault told → StepRefused s call operation told

-- what its result says of the state that it found
abbrev pub IsDecided : {X : Type 0} → (call : Call) → (moment : ℕ) → (X → Done) → State → Option Making → Result X StepFault → Type 0
IsDecided call moment tells s made (Ok x) =
    (passes : Passes call moment s made) × ((met : CallMet) → IsDone call moment passes.fixed met s (tells x))
IsDecided call moment tells s made (Err step.StoreFault) = Passes call moment s made
IsDecided call moment tells s made (Err step.NoMemory) = Unit {0}
IsDecided call moment tells s made (Err fault) = IsRefused call moment s fault

-- a reply that no own entry stands behind
abbrev IsPlain : CallReply → Type 0
IsPlain (reply.Done told) = ⊥
IsPlain (reply.Refused refusal.StoreFault) = ⊥
IsPlain told = Unit {0}

plain_adds : (by : Caller) (told : CallReply) (from next : List HistoryEntry) → IsPlain told → Came lake_rules by from next → AddsBy by told from next
plain_adds by (reply.Done told) from next plain came = absurd plain
plain_adds by (reply.Refused refusal.StoreFault) from next plain came = absurd plain
plain_adds by (reply.Refused _) from next plain came = came
plain_adds by (reply.Malformed refused) from next plain came = came
plain_adds by reply.NoMemory from next plain came = came

-- a step's refusal is such
told_plain : (names : CallNames) (fault : StepFault) → IfSome (told names fault) (λ refused. IsPlain (reply.Refused refused))
told_plain names (step.NoRef reference.Named) = tt
told_plain names (step.NoRef reference.Expression) = tt
told_plain names (step.NoRef reference.After) = tt
told_plain names fault = tt

some_there : (made : Option Making) (P : Making → Type 0) → IsSomeAnd made P → IsSomeAnd made (λ m. Unit {0})
some_there (Some m) P is = tt
some_there None P is = absurd is

module _ (old new : LakeSeat) (number : ℕ) (call : Call) (moment : ℕ) where
  abbrev by : Caller
  by = caller old.number number

  -- the call is served from an origin, with this reply
  abbrev pub Serves : LakeOrigin → CallReply → Type 0
  Serves origin told = (met : CallMet) → (told ≡ store_failed → HasRisen met.store_faults)
      → IsServed lake_rules (opened_state origin) by old.seen new.seen (asked_at call moment) met told (length new.seen) (length new.seen)

  -- so it is answered
  pub answered_by : (origin : LakeOrigin) → old.origin ≡ Some origin → GoesOn origin number old new → new.turn ≡ old.turn → (told : CallReply)
      → Serves origin told → AddsBy by told old.seen new.seen → (answer : Answered) → answer.reply ≡ told → answer.position ≡ length new.seen
      → answer.edge ≡ length new.seen → IsChangeAnswered old new number call moment answer
  answered_by origin from goes turn told serves adds answer is position edge =
      subst (IsChangeAnswered old new number call moment) (sym (λ i. record { reply = is i; position = position i; edge = edge i }))
      (record {
        origin = origin;
        from = from;
        flow = λ met rose. record { origin = origin; goes = goes; served = serves met rose };
        adds = adds;
        position = refl;
        edge = refl;
        turn = turn;
      })

module _ {K : Type 0} (view : KeeperView K) (old new : LakeSeat) (number : ℕ) (call : Call) (moment : ℕ) {X : Type 0}
    (making : LakeValue K → Option Making) (Told : LakeValue K → Type 0) (tells : X → Done) where
  abbrev own : By
  own = record { seat = old.number; call = number }

  abbrev caller_of : Caller
  caller_of = caller old.number number

  abbrev Changes : Result X StepFault → Type 0
  Changes result = IsChanged view own old new making Told result

  module _ (result : Result X StepFault) (changed : Changes result) where
    abbrev origin : LakeOrigin
    origin = origin_of view changed.found

    abbrev found : List HistoryEntry
    found = changed.found.history

    abbrev here : State
    here = state changed.found

    goes : GoesOn origin number old new
    goes = goes_by_change view old new number making Told result changed origin changed.finds.origin

    came : Came lake_rules caller_of old.seen found
    came = came_to_change view old new number making Told result changed

    begun : HasReached (opened_state origin) caller_of (asked_at call moment) [] old.seen found
    begun = reached_on (opened_state origin) caller_of (asked_at call moment) [] old.seen old.seen found
        (reached_nothing (opened_state origin) caller_of (asked_at call moment) old.seen) came

    stands : new.seen ≡ found ++ entries_by view own (making changed.found) result
    stands = entry_stands view old new number making Told result changed

    -- the answer of a reply
    answers : (told : CallReply) → Serves old new number call moment origin told → AddsBy caller_of told old.seen new.seen
        → (answer : Answered) → answer.reply ≡ told → answer.position ≡ length new.seen → answer.edge ≡ length new.seen
        → IsChangeAnswered old new number call moment answer
    answers told serves adds =
        answered_by old new number call moment origin changed.finds.origin goes (ap (λ (s : LakeSeat). s.turn) changed.seat) told serves adds

    -- the call stops, and adds nothing
    stopped : (told : CallReply) (fixed : Fixed) → IsPlain told → new.seen ≡ found
        → ((met : CallMet) → Hinders lake_rules (opened_state origin) caller_of (asked_at call moment) met (length old.seen) (call_course call moment fixed)
        found told)
        → (answer : Answered) → answer.reply ≡ told → answer.position ≡ length new.seen → answer.edge ≡ length new.seen
        → IsChangeAnswered old new number call moment answer
    stopped told fixed plain same hinders =
        answers told
        (λ met rose. subst (λ es. IsServed lake_rules (opened_state origin) caller_of old.seen es (asked_at call moment) met told (length es) (length es))
        (sym same)
        (served_stopped (opened_state origin) caller_of (asked_at call moment) met told fixed old.seen [] (call_course call moment fixed) found found
        (length found) refl begun (hinders met) (OwesNothing refl refl refl)))
        (plain_adds caller_of told old.seen new.seen plain (subst (Came lake_rules caller_of old.seen) (sym same) came))

    starves : new.seen ≡ found → (answer : Answered) → answer.reply ≡ reply.NoMemory → answer.position ≡ length new.seen
        → answer.edge ≡ length new.seen → IsChangeAnswered old new number call moment answer
    starves same = stopped reply.NoMemory nothing_fixed tt same (λ met. ByMemory refl)

    told_is_plain : (fault : StepFault) (told : CallReply) → IsToldOf (names_of call) fault told → IsPlain told
    told_is_plain fault told so =
        subst IsPlain (sym so.2) (subst (λ o. IfSome o (λ refused. IsPlain (reply.Refused refused))) so.1 (told_plain (names_of call) fault))

    refuses : (fault : StepFault) → IsRefused call moment here fault → new.seen ≡ found → (answer : Answered)
        → IsFaultTold (names_of call) fault answer.reply → answer.position ≡ length new.seen → answer.edge ≡ length new.seen
        → IsChangeAnswered old new number call moment answer
    refuses fault refused same answer is position edge =
        elim (told_plainly (names_of call) fault answer.reply refused.tellable is) [
          | inl so ↦
              stopped answer.reply refused.fixed (told_is_plain fault answer.reply so) same
              (λ met. ByState (Makes refused.operation) [] refused.course
              (moved (λ s. PointRefused call (Makes refused.operation) s answer.reply) (opened_state origin) found (refused.refused answer.reply so)))
              answer refl position edge
          | inr none ↦ starves same answer none position edge
        ]

    -- it passes there
    module _ (passes : Passes call moment here (making changed.found)) where
      abbrev operation : Operation
      operation = passes.making.operation

      point_passes : PointPasses call (Makes operation) (along lake_rules (opened_state origin) found)
      point_passes = moved (PointPasses call (Makes operation)) (opened_state origin) found passes.passes

      accepted : (x : X) → new.seen ≡ found ++ accepted_entry own operation ∷ []
          → ((met : CallMet) → IsDone call moment passes.fixed met here (tells x)) → (answer : Answered) → answer.reply ≡ reply.Done (tells x)
          → answer.position ≡ length new.seen → answer.edge ≡ length new.seen → IsChangeAnswered old new number call moment answer
      accepted x stands_so done =
          answers (reply.Done (tells x))
          (λ met rose. served_done (opened_state origin) caller_of (asked_at call moment) met (reply.Done (tells x)) passes.fixed old.seen []
          (Makes operation) found new.seen passes.course begun point_passes
          (moved (λ s. IsAnswerOf (Asks call) moment met (call_course call moment passes.fixed) s (reply.Done (tells x))) (opened_state origin) found
          (passes.fixed, refl, tells x, done met, refl))
          stands_so)
          (operation, found, came, stands_so)

      faulted : new.seen ≡ found ++ faulted_entry own operation ∷ [] → (answer : Answered)
          → answer.reply ≡ reply.Refused refusal.StoreFault → answer.position ≡ length new.seen → answer.edge ≡ length new.seen
          → IsChangeAnswered old new number call moment answer
      faulted stands_so =
          answers (reply.Refused refusal.StoreFault)
          (λ met counted. served_faulted (opened_state origin) caller_of (asked_at call moment) met (reply.Refused refusal.StoreFault) passes.fixed old.seen
          [] [] (Makes operation) operation found new.seen passes.course begun refl point_passes (inl (counted refl, refl)) stands_so)
          (operation, found, came, stands_so)

  -- a change at which the store failed is there
  pub tried_there : (result : Result X StepFault) (changed : Changes result) → result ≡ Err step.StoreFault
      → IsSomeAnd (making changed.found) (λ m. Unit {0})
  tried_there result changed failed =
      some_there (making changed.found) _
      (subst (λ r. LeavesParts view own (making changed.found) r (parts_of changed.found) (parts_of changed.left)) failed changed.leaves.1)

  -- THE STEP TOLD THIS, AND SO THE CALL IS ANSWERED.
  answered_told : (result : Result X StepFault) (changed : Changes result)
      → IsDecided call moment tells (state changed.found) (making changed.found) result → (answer : Answered)
      → IsReplied (names_of call) (result then λ x. Ok (tells x)) answer.reply → answer.position ≡ length new.seen → answer.edge ≡ length new.seen
      → IsChangeAnswered old new number call moment answer
  answered_told (Ok x) changed decided =
      accepted (Ok x) changed decided.0 x
      (stands (Ok x) changed ∙ ap (λ o. changed.found.history ++ entries_by view own o (Ok x)) decided.0.is)
      decided.1
  answered_told (Err step.NoMemory) changed decided =
      starves (Err step.NoMemory) changed (stands (Err step.NoMemory) changed ∙ append-nil changed.found.history)
  answered_told (Err step.StoreFault) changed passes =
      faulted (Err step.StoreFault) changed passes
      (stands (Err step.StoreFault) changed ∙ ap (λ o. changed.found.history ++ entries_by view {X = X} own o (Err step.StoreFault)) passes.is)
  answered_told (Err fault) changed refused =
      refuses (Err fault) changed fault refused (stands (Err fault) changed ∙ append-nil changed.found.history)

  pub answered : (result : Result X StepFault) (changed : Changes result)
      → IsDecided call moment tells (state changed.found) (making changed.found) result → (outcome : Result Done StepFault)
      → outcome ≡ (result then λ x. Ok (tells x)) → (answer : Answered) → IsReplied (names_of call) outcome answer.reply
      → answer.position ≡ length new.seen → answer.edge ≡ length new.seen → IsChangeAnswered old new number call moment answer
  answered result changed decided outcome is answer so =
      answered_told result changed decided answer (subst (λ o. IsReplied (names_of call) o answer.reply) is so)
