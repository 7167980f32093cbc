-- A call whose last two points are a guarded change is served by how its tries ended.
use Rattle.std.proofs.Common.{◌≡◌, ◌≤◌, ◌⊎◌, inl, inr, ℕ, List, [], ◌∷◌, ◌++◌, length, drop, Option, Some, None, Ok, Err, refl, sym}
use Rattle.std.proofs.Common.{◌∙◌}
use Rattle.std.proofs.Common.{append_assoc}
use Rattle.lake_values.specs.Entry.{EntryValue}
use Rattle.lake_model.specs.declared.fault.StepFault.{StepFault}
use Rattle.lake_model.specs.declared.fault.StepFault.TheVariants as step
use Rattle.lake_model.specs.declared.history.HistoryEntry.{HistoryEntry}
use Rattle.lake_model.specs.declared.history.Operation.{Operation}
use Rattle.lake_model.specs.State.{State}
use Rattle.lake_model.specs.Refusals.{first_cause, no_causes, with_branch}
use Rattle.lake_model.specs.Versions.{VersionsGiven, branch_version}
use Rattle.lake_core.specs.declared.standing.LakeOrigin.{LakeOrigin}
use Rattle.call_placement.specs.Rules.{Caller}
use Rattle.call_placement.specs.Points.{Came}
use Rattle.call_placement.specs.Served.{Hinders, ByState, ByCause, ByMemory, IsServed}
use Rattle.lake_laws.specs.VersionGivers.{count_of, gives_branch, of_other_seat}
use Rattle.lake_calls.specs.CallExceptions.{ByBranch, CallMet, guard_of, last_guard}
use Rattle.lake_calls.specs.CallRefusals.{IsClashOf, IsToldOf, PointPasses, PointRefused, StepPasses, names_of, step_causes}
use Rattle.lake_calls.specs.Courses.{CallPoint, Fixed, Looks, Makes, call_course}
use Rattle.lake_calls.specs.DoneReplies.{IsDone}
use Rattle.lake_calls.specs.LakeRules.{lake_rules}
use Rattle.lake_calls.specs.declared.call.Call.{Call}
use Rattle.lake_calls.specs.declared.reply.CallReply.{CallReply}
use Rattle.lake_calls.specs.declared.reply.CallReply.TheVariants as reply
use Rattle.lake_calls.specs.declared.reply.Done.{Done as DoneReply}
use Rattle.lake_calls.specs.declared.reply.Refusal.TheVariants as refusal
use Rattle.flow_steps.specs.FlowAnswers.{asked_at}
use Rattle.flow_steps.specs.FlowSeats.{opened_state, state_at}
use Rattle.flow_steps.specs.FlowTries.{Guarded, IsRefused, TryEnds}
use Rattle.flow_steps.proofs.FlowEndLemmas.{HasReached, moved, reached_on, reached_reading, served_done, served_faulted}

-- A call is served by a guarded change of a branch, behind these points: its course, what refuses its step, and what it is
-- told.
pub record Serves (call : Call) (moment : ℕ) (front : List CallPoint) (repo branch : List ℕ) (guarded : Guarded)
    (Tells : Option EntryValue → DoneReply → Type 0) : Type 1 where
  pub early : (s : State) → first_cause (with_branch s repo branch no_causes) ≡ guarded.early s
  pub guards : (given : VersionsGiven) → guarded.version given ≡ branch_version given repo branch
  -- some operation of its kind, by which its step is refused
  pub some : Operation
  pub some_fixed : Fixed
  pub some_course : call_course call moment some_fixed ≡ front ++ Looks repo branch ∷ Makes some ∷ []
  pub some_causes : (s : State) → first_cause (step_causes s call some None) ≡ guarded.late s
  pub some_plain : (s : State) → IsClashOf s some None
  pub some_guard : guard_of some ≡ Some (ByBranch repo branch)
  -- the operation that it makes
  pub makes : (s : State) (entry : Option EntryValue) (operation : Operation) → guarded.late s ≡ None → guarded.Makes s entry operation
      → (fixed : Fixed) × (call_course call moment fixed ≡ front ++ Looks repo branch ∷ Makes operation ∷ []) × StepPasses s call operation
      × ((met : CallMet) → (done : DoneReply) × IsDone call moment fixed met s done × Tells entry done)

module _ (origin : LakeOrigin) (by : Caller) (call : Call) (moment : ℕ) (front : List CallPoint) (repo branch : List ℕ) (guarded : Guarded)
    (Tells : Option EntryValue → DoneReply → Type 0) (serves : Serves call moment front repo branch guarded Tells) (before from : List HistoryEntry)
    (reached : HasReached (opened_state origin) by (asked_at call moment) front before from) where
  abbrev opened : State
  opened = opened_state origin

  abbrev look : CallPoint
  look = Looks repo branch

  -- the reading passed
  looked : (read : List HistoryEntry) → Came lake_rules by from read → guarded.early (state_at origin read) ≡ None
      → HasReached opened by (asked_at call moment) (front ++ look ∷ []) before read
  looked read came early =
      reached_reading opened by (asked_at call moment) front look before read (reached_on opened by (asked_at call moment) front before from read reached came)
      refl (moved (PointPasses call look) opened read (serves.early (state_at origin read) ∙ early))

  -- a course behind the reading
  behind_look : (operation : Operation) → front ++ look ∷ Makes operation ∷ [] ≡ (front ++ look ∷ []) ++ Makes operation ∷ []
  behind_look operation = sym (append_assoc front (look ∷ []) (Makes operation ∷ []))

  -- ---- done

  pub tries_done : (entry : Option EntryValue) (next : List HistoryEntry) (met : CallMet) → TryEnds origin by guarded (Ok entry) from next
      → (what : DoneReply) × Tells entry what
      × IsServed lake_rules opened by before next (asked_at call moment) met (reply.Done what) (length next) (length next)
  tries_done entry next met ends =
      let operation = ends.0 in
      let found = ends.1 in
      let steps = ends.2 in
      let makes = serves.makes (state_at origin found) entry operation steps.late steps.makes in
      let done = makes.3 met in
      let read = looked steps.read steps.to_reading steps.early in
      let course = makes.1 ∙ behind_look operation in (
        done.0,
        done.2,
        served_done opened by (asked_at call moment) met (reply.Done done.0) makes.0 before (front ++ look ∷ []) (Makes operation) found next course
            (reached_on opened by (asked_at call moment) (front ++ look ∷ []) before steps.read found read steps.to_step)
            (moved (PointPasses call (Makes operation)) opened found makes.2)
            (makes.0, refl, done.0, moved (λ s. IsDone call moment makes.0 met s done.0) opened found done.1, refl)
            ends.3,
      )

  -- ---- the store failed

  pub tries_faulted : (next : List HistoryEntry) (met : CallMet) → TryEnds origin by guarded (Err step.StoreFault) from next
      → lake_rules.store_fails met (reply.Refused refusal.StoreFault)
      → IsServed lake_rules opened by before next (asked_at call moment) met (reply.Refused refusal.StoreFault) (length next) (length next)
  tries_faulted next met ends fails =
      let operation = ends.1 in
      let found = ends.2 in
      let steps = ends.3 in
      let makes = serves.makes (state_at origin found) ends.0 operation steps.late steps.makes in
      let read = looked steps.read steps.to_reading steps.early in
      served_faulted opened by (asked_at call moment) met (reply.Refused refusal.StoreFault) makes.0 before (front ++ look ∷ []) [] (Makes operation) operation
      found next (makes.1 ∙ behind_look operation)
      (reached_on opened by (asked_at call moment) (front ++ look ∷ []) before steps.read found read steps.to_step) refl
      (moved (PointPasses call (Makes operation)) opened found makes.2) (inl fails) ends.4

  -- ---- refused

  -- a call stops: of its course these points passed, and something hinders the next
  pub record Stops (met : CallMet) (told_reply : CallReply) (found : List HistoryEntry) : Type 0 where
    pub passed : List CallPoint
    pub left : List CallPoint
    pub course : call_course call moment serves.some_fixed ≡ passed ++ left
    pub reaches : HasReached opened by (asked_at call moment) passed before found
    pub hinders : Hinders lake_rules opened by (asked_at call moment) met (length before) left found told_reply
    pub at : (passed ≡ front) ⊎ (passed ≡ front ++ look ∷ [])
    pub guarded_left : last_guard left ≡ Some (ByBranch repo branch)

  pub stops_refused : (fault : StepFault) (found : List HistoryEntry) (met : CallMet) (told_reply : CallReply) → IsRefused origin by guarded fault from found
      → IsToldOf (names_of call) fault told_reply → Stops met told_reply found
  stops_refused fault found met told_reply refused tells = elim refused [
    | inl early ↦ record {
      passed = front;
      left = look ∷ Makes serves.some ∷ [];
      course = serves.some_course;
      reaches = reached_on opened by (asked_at call moment) front before from found reached early.0;
      hinders = ByState look (Makes serves.some ∷ []) refl
          (moved (λ s. PointRefused call look s told_reply) opened found (fault, serves.early (state_at origin found) ∙ early.1, tells));
      at = inl refl;
      guarded_left = serves.some_guard;
    }
    | inr late ↦ record {
      passed = front ++ look ∷ [];
      left = Makes serves.some ∷ [];
      course = serves.some_course ∙ behind_look serves.some;
      reaches = reached_on opened by (asked_at call moment) (front ++ look ∷ []) before late.0 found (looked late.0 late.1 late.2) late.3;
      hinders = ByState (Makes serves.some) [] refl (moved (λ s. PointRefused call (Makes serves.some) s told_reply) opened found (record {
        clash = None;
        is_clash = serves.some_plain (state_at origin found);
        fault = fault;
        first = serves.some_causes (state_at origin found) ∙ late.4;
        told_so = tells;
      }));
      at = inr refl;
      guarded_left = serves.some_guard;
    }
  ]

  -- at the points before its reading, where an exception is its cause
  pub stops_by : (found : List HistoryEntry) (met : CallMet) (told_reply : CallReply) → Came lake_rules by from found
      → Hinders lake_rules opened by (asked_at call moment) met (length before) (look ∷ Makes serves.some ∷ []) found told_reply → Stops met told_reply found
  stops_by found met told_reply came hinders = record {
    passed = front;
    left = look ∷ Makes serves.some ∷ [];
    course = serves.some_course;
    reaches = reached_on opened by (asked_at call moment) front before from found reached came;
    hinders = hinders;
    at = inl refl;
    guarded_left = serves.some_guard;
  }

  pub stops_memory : (found : List HistoryEntry) (met : CallMet) → Came lake_rules by from found → Stops met reply.NoMemory found
  stops_memory found met came = stops_by found met reply.NoMemory came (ByMemory refl)

  pub stops_tries : (found : List HistoryEntry) (met : CallMet) → met.changed ≡ 10 → Came lake_rules by from found
      → 10 ≤ count_of (of_other_seat by.seat (gives_branch repo branch)) (drop (length before) found)
      → Stops met (reply.Refused refusal.TooManyTries) found
  stops_tries found met ten came enough =
      stops_by found met (reply.Refused refusal.TooManyTries) came
      (ByCause (λ none. absurd cc) (inl (record { guard = ByBranch repo branch; guarded = serves.some_guard; ten = ten; entries = enough }, refl)))
