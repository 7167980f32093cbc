-- A call that makes a new head is served by its seal and by how its tries ended.
use Rattle.std.proofs.Common.{◌≡◌, ◌≤◌, inl, inr, ℕ, List, [], ◌∷◌, ◌++◌, length, drop, Option, Some, None, Ok, Err, refl, sym, ◌∙◌}
use Rattle.std.proofs.Common.{append_assoc}
use Rattle.lake_base.specs.declared.digest.Digest.{Digest}
use Rattle.lake_values.specs.Commit.{AboutValue, CommitRecordValue}
use Rattle.lake_values.specs.declared.commit.Strategy.TheVariants.{Refuse}
use Rattle.lake_model.specs.declared.fault.HeadRefusal.{HeadRefusal}
use Rattle.lake_model.specs.declared.fault.StepFault.{StepFault}
use Rattle.lake_model.specs.declared.fault.StepFault.TheVariants as step
use Rattle.lake_model.specs.declared.history.HistoryEntry.{HistoryEntry}
use Rattle.lake_model.specs.declared.history.Operation.TheVariants.{Seal}
use Rattle.lake_model.specs.declared.history.SealFor.{SealFor}
use Rattle.lake_model.specs.declared.history.SealFor.TheVariants as why
use Rattle.lake_model.specs.declared.reply.SwapKind.{SwapKind}
use Rattle.lake_model.specs.declared.reply.SwapKind.TheVariants as kind
use Rattle.lake_model.specs.declared.reply.Versions.{Versions}
use Rattle.lake_model.specs.HeadRefusals.{ReadingRefusal, reading_refusal}
use Rattle.lake_model.specs.HeadRefusals as reading
use Rattle.lake_model.specs.Refusals.{Clash, first_cause}
use Rattle.lake_model.specs.State.{State}
use Rattle.lake_model.specs.Steps.{IsSwapClash, new_head_causes, seal_causes, swap_operation, swap_rule}
use Rattle.lake_laws.specs.VersionGivers.{count_of, gives_branch_or_settings, of_other_seat}
use Rattle.lake_core.specs.declared.standing.LakeOrigin.{LakeOrigin}
use Rattle.call_placement.specs.Rules.{Caller}
use Rattle.call_placement.specs.Points.{replay as along, Came}
use Rattle.call_placement.specs.Served.{Hinders, ByState, ByCause, ByMemory, IsServed, OwesNothing}
use Rattle.lake_calls.specs.Calls.{CommitCall, MergeCall, PickCall}
use Rattle.lake_calls.specs.CallExceptions.{ByBoth, CallMet, guard_of}
use Rattle.lake_calls.specs.CallReadings.{known_commit}
use Rattle.lake_calls.specs.CallRefusals.{IsToldOf, PointPasses, PointRefused, StepPasses, StepRefused, names_of, told_of_head}
use Rattle.lake_calls.specs.Courses.{CallPoint, Fixed, Makes, Prepares, ResolvesParent, ResolvesSource, call_course, commit_about, head_points, merge_about}
use Rattle.lake_calls.specs.Courses.{nothing_fixed, pick_about, revert_about}
use Rattle.lake_calls.specs.DoneReplies.{IsDone, IsNewHead, owed_behind}
use Rattle.lake_calls.specs.LakeRules.{lake_rules}
use Rattle.lake_calls.specs.Requests.{Asks, CallRequest}
use Rattle.lake_calls.specs.declared.call.Call.{Call}
use Rattle.lake_calls.specs.declared.call.Call.TheVariants.{Heads}
use Rattle.lake_calls.specs.declared.heads.HeadCall.TheVariants as heads
use Rattle.lake_calls.specs.declared.reply.CallReply.{CallReply}
use Rattle.lake_calls.specs.declared.reply.CallReply.TheVariants as reply
use Rattle.lake_calls.specs.declared.reply.Done.{Done as DoneReply}
use Rattle.lake_calls.specs.declared.reply.Done.TheVariants as done
use Rattle.lake_calls.specs.declared.reply.Refusal.TheVariants as refusal
use Rattle.flow_steps.specs.FlowSeats.{opened_state, state_at}
use Rattle.flow_steps.proofs.FlowEndLemmas.{HasReached, moved, reached_nothing, reached_on, reached_reading, reached_step, served_done, served_faulted}
use Rattle.flow_steps.proofs.FlowEndLemmas.{served_stopped}
use Rattle.head_drafts.specs.declared.fault.HeadFault.TheVariants.{Step}
use Rattle.head_steps.specs.HeadSeals.{SealEnds, SealReached}
use Rattle.head_steps.specs.HeadTries.{HeadSteps, HeadTryEnds, IsHeadMade, IsHeadRefused, MadeHead}
use Rattle.head_steps.specs.NewHeads.{IsFree, NewHead, early_refusal, operation_of}

-- a call that is asked at a moment
abbrev pub request_of : Call → (moment : ℕ) → CallRequest
request_of call moment = record { asked = Asks call; moment = moment }

-- ---- a step that makes a new head, as the law of calls has it

module _ (state : State) (call : Call) (repo branch : List ℕ) (about : AboutValue) where
  passes_by : (kind : SwapKind) → first_cause (new_head_causes state repo branch (swap_rule kind about) None) ≡ None
      → IsSwapClash state repo branch (swap_rule kind about) None → reading_refusal state repo branch kind about ≡ None
      → StepPasses state call (swap_operation repo branch kind about)
  passes_by kind.Commit none clash worth = record { none = none; no_clash = clash; worth = worth; fixes = tt }
  passes_by (kind.Merge source strategy) none clash worth = record { none = none; no_clash = clash; worth = worth; fixes = tt }
  passes_by (kind.Pick base source strategy) none clash worth = record { none = none; no_clash = clash; worth = worth; fixes = tt }

  refused_by : (kind : SwapKind) (clash : Option Clash) (fault : StepFault) (told : CallReply)
      → IsSwapClash state repo branch (swap_rule kind about) clash
      → first_cause (new_head_causes state repo branch (swap_rule kind about) clash) ≡ Some fault → IsToldOf (names_of call) fault told
      → StepRefused state call (swap_operation repo branch kind about) told
  refused_by kind.Commit clash fault told is first tells = record { clash = clash; is_clash = is; fault = fault; first = first; told_so = tells }
  refused_by (kind.Merge source strategy) clash fault told is first tells =
      record { clash = clash; is_clash = is; fault = fault; first = first; told_so = tells }
  refused_by (kind.Pick base source strategy) clash fault told is first tells =
      record { clash = clash; is_clash = is; fault = fault; first = first; told_so = tells }

guard_by : (repo branch : List ℕ) (about : AboutValue) (kind : SwapKind) → guard_of (swap_operation repo branch kind about) ≡ Some (ByBoth repo branch)
guard_by repo branch about kind.Commit = refl
guard_by repo branch about (kind.Merge source strategy) = refl
guard_by repo branch about (kind.Pick base source strategy) = refl

pub step_passes : (state : State) (call : Call) (head : NewHead) → IsFree head state → StepPasses state call (operation_of head)
step_passes state call head free = passes_by state call head.repo head.branch head.about head.kind free.none free.no_clash free.worth

-- ---- calls that make a new head

-- the points of a new head: the seal, the reading, and the step
abbrev pub seal_point : NewHead → SealFor → CallPoint
seal_point head why = Makes (Seal head.repo head.branch why)

abbrev pub reading_point : NewHead → CallPoint
reading_point head = Prepares head.repo head.branch head.kind head.about

abbrev pub head_point : NewHead → CallPoint
head_point head = Makes (operation_of head)

-- A call makes a new head, behind these points: its course, what it is told of it, and that it owes nothing on the way.
pub record MakesHead (call : Call) (moment : ℕ) (front : List CallPoint) (why : SealFor) (head : NewHead)
    (telling : Digest × CommitRecordValue → DoneReply) : Type 0 where
  pub fixed : Fixed
  pub course : call_course call moment fixed ≡ front ++ head_points head.repo head.branch why head.kind head.about
  pub done : (s : State) (met : CallMet) (id : Digest) (commit : CommitRecordValue) → IsNewHead s head.repo head.branch head.kind head.about id commit
      → IsDone call moment fixed met s (telling (id, commit))
  pub owes_front : owed_behind front ≡ None
  pub owes_seal : owed_behind (front ++ seal_point head why ∷ []) ≡ None
  pub owes_reading : owed_behind ((front ++ seal_point head why ∷ []) ++ reading_point head ∷ []) ≡ None

pub commits : (c : CommitCall) (moment : ℕ)
    → MakesHead (Heads (heads.Commit c)) moment [] why.Commit
    (record { repo = c.repo; branch = c.branch; kind = kind.Commit; about = commit_about c moment }) (λ one. done.Committed (known_commit one))
commits c moment = record {
  fixed = nothing_fixed;
  course = refl;
  done = λ s met id commit is. (id, commit, is, refl);
  owes_front = refl;
  owes_seal = refl;
  owes_reading = refl;
}

pub merges : (c : MergeCall) (moment : ℕ) (commit : Digest)
    → MakesHead (Heads (heads.Merge c)) moment (ResolvesSource commit ∷ []) why.Other
    (record { repo = c.repo; branch = c.branch; kind = kind.Merge commit c.strategy; about = merge_about c moment }) (λ one. done.Merged one.0)
merges c moment commit = record {
  fixed = record nothing_fixed { commit = commit };
  course = refl;
  done = λ s met id made is. (id, made, is, refl);
  owes_front = refl;
  owes_seal = refl;
  owes_reading = refl;
}

abbrev picked : (commit parent : Digest) (message : List ℕ) → Fixed
picked commit parent message = record nothing_fixed { commit = commit; parent = parent; message = message }

pub reverts : (c : PickCall) (moment : ℕ) (commit parent : Digest) (message : List ℕ)
    → MakesHead (Heads (heads.Revert c)) moment (ResolvesParent commit parent message ∷ []) why.Other
    (record { repo = c.repo; branch = c.branch; kind = kind.Pick commit parent Refuse; about = revert_about c moment commit })
    (λ one. done.Reverted (known_commit one))
reverts c moment commit parent message = record {
  fixed = picked commit parent message;
  course = refl;
  done = λ s met id made is. (id, made, is, refl);
  owes_front = refl;
  owes_seal = refl;
  owes_reading = refl;
}

pub picks : (c : PickCall) (moment : ℕ) (commit parent : Digest) (message : List ℕ)
    → MakesHead (Heads (heads.CherryPick c)) moment (ResolvesParent commit parent message ∷ []) why.Other
    (record { repo = c.repo; branch = c.branch; kind = kind.Pick parent commit Refuse; about = pick_about c moment message })
    (λ one. done.CherryPicked (known_commit one))
picks c moment commit parent message = record {
  fixed = picked commit parent message;
  course = refl;
  done = λ s met id made is. (id, made, is, refl);
  owes_front = refl;
  owes_seal = refl;
  owes_reading = refl;
}

-- ---- a call that stops at its first point

module _ (origin : LakeOrigin) (by : Caller) (call : Call) (moment : ℕ) (point : CallPoint) (later : List CallPoint)
    (course : call_course call moment nothing_fixed ≡ point ∷ later) (from next : List HistoryEntry) (met : CallMet) (told : CallReply)
    (came : Came lake_rules by from next) where
  abbrev StopsFirst : Type 0
  StopsFirst = IsServed lake_rules (opened_state origin) by from next (request_of call moment) met told (length next) (length next)

  first_stopped : Hinders lake_rules (opened_state origin) by (request_of call moment) met (length from) (point ∷ later) next told → StopsFirst
  first_stopped hinders = served_stopped (opened_state origin) by (request_of call moment) met told nothing_fixed from [] (point ∷ later) next next
      (length next) course
      (reached_on (opened_state origin) by (request_of call moment) [] from from next
      (reached_nothing (opened_state origin) by (request_of call moment) from) came) hinders
      (OwesNothing refl refl refl)

  pub first_refused : PointRefused call point (state_at origin next) told → StopsFirst
  first_refused refused = first_stopped (ByState point later refl (moved (λ s. PointRefused call point s told) (opened_state origin) next refused))

  pub first_starved : told ≡ reply.NoMemory → StopsFirst
  first_starved is = first_stopped (ByMemory is)

-- ---- behind its front points

module _ (origin : LakeOrigin) (by : Caller) (call : Call) (moment : ℕ) (front : List CallPoint) (why_for : SealFor) (head : NewHead)
    (telling : Digest × CommitRecordValue → DoneReply) (makes : MakesHead call moment front why_for head telling) (before from : List HistoryEntry) where
  abbrev opened : State
  opened = opened_state origin

  abbrev request : CallRequest
  request = request_of call moment

  abbrev ServesBy : (next : List HistoryEntry) → CallMet → CallReply → Type 0
  ServesBy next met told = IsServed lake_rules opened by before next request met told (length next) (length next)

  abbrev left_sealed : List CallPoint
  left_sealed = reading_point head ∷ head_point head ∷ []

  abbrev sealing : List CallPoint
  sealing = front ++ seal_point head why_for ∷ []

  abbrev reading_it : List CallPoint
  reading_it = sealing ++ reading_point head ∷ []

  course_sealed : call_course call moment makes.fixed ≡ sealing ++ left_sealed
  course_sealed = makes.course ∙ sym (append_assoc front (seal_point head why_for ∷ []) left_sealed)

  course_read : call_course call moment makes.fixed ≡ reading_it ++ head_point head ∷ []
  course_read = course_sealed ∙ sym (append_assoc sealing (reading_point head ∷ []) (head_point head ∷ []))

  -- a call stops behind some points
  stopped : (passed left : List CallPoint) (next : List HistoryEntry) (met : CallMet) (told : CallReply)
      → call_course call moment makes.fixed ≡ passed ++ left → owed_behind passed ≡ None → HasReached opened by request passed before next
      → Hinders lake_rules opened by request met (length before) left next told → ServesBy next met told
  stopped passed left next met told course owes reached hinders =
      served_stopped opened by request met told makes.fixed before passed left next next (length next) course reached hinders (OwesNothing owes refl refl)

  -- ---- the seal

  module _ (reached : HasReached opened by request front before from) where
    abbrev left_whole : List CallPoint
    left_whole = seal_point head why_for ∷ left_sealed

    seal_passes : (found : List HistoryEntry) → SealReached origin by head.repo head.branch why_for from found
        → lake_rules.passes by request (seal_point head why_for) (along lake_rules opened found)
    seal_passes found sealed = moved (PointPasses call (seal_point head why_for)) opened found
        (record { none = sealed.1; no_clash = refl; worth = tt; fixes = tt })

    pub sealed : (versions : Versions) (next : List HistoryEntry) → SealEnds origin by head.repo head.branch why_for (Ok versions) from next
        → HasReached opened by request sealing before next
    sealed versions next ends =
        reached_step opened by request front (Seal head.repo head.branch why_for) before ends.0 next
        (reached_on opened by request front before from ends.0 reached ends.1.0) (seal_passes ends.0 ends.1) ends.2

    pub seal_faulted : (next : List HistoryEntry) (met : CallMet) → SealEnds origin by head.repo head.branch why_for (Err step.StoreFault) from next
        → lake_rules.store_fails met (reply.Refused refusal.StoreFault) → ServesBy next met (reply.Refused refusal.StoreFault)
    seal_faulted next met ends fails =
        served_faulted opened by request met (reply.Refused refusal.StoreFault) makes.fixed before front left_sealed (seal_point head why_for)
        (Seal head.repo head.branch why_for) ends.0 next makes.course (reached_on opened by request front before from ends.0 reached ends.1.0) refl
        (seal_passes ends.0 ends.1) (inl fails) ends.2

    pub seal_starved : (next : List HistoryEntry) (met : CallMet) → Came lake_rules by from next → ServesBy next met reply.NoMemory
    seal_starved next met came = stopped front left_whole next met reply.NoMemory makes.course makes.owes_front
        (reached_on opened by request front before from next reached came) (ByMemory refl)

    pub seal_refused : (fault : StepFault) (next : List HistoryEntry) (met : CallMet) (told : CallReply) → Came lake_rules by from next
        → first_cause (seal_causes why_for (state_at origin next) head.repo head.branch) ≡ Some fault
        → IsToldOf (names_of call) fault told → ServesBy next met told
    seal_refused fault next met told came first tells = stopped front left_whole next met told makes.course makes.owes_front
        (reached_on opened by request front before from next reached came)
        (ByState (seal_point head why_for) left_sealed refl (moved (λ s. PointRefused call (seal_point head why_for) s told) opened next
        (record { clash = None; is_clash = refl; fault = fault; first = first; told_so = tells })))

  -- ---- the tries, behind the seal

  module _ (reached : HasReached opened by request sealing before from) where
    at_reading : (next : List HistoryEntry) → Came lake_rules by from next → HasReached opened by request sealing before next
    at_reading next came = reached_on opened by request sealing before from next reached came

    read : (next : List HistoryEntry) → Came lake_rules by from next → early_refusal head (state_at origin next) ≡ None
        → HasReached opened by request reading_it before next
    read next came early = reached_reading opened by request sealing (reading_point head) before next (at_reading next came) refl
        (moved (PointPasses call (reading_point head)) opened next early)

    at_step : (found : List HistoryEntry) → HeadSteps origin by head from found → HasReached opened by request reading_it before found
    at_step found steps = reached_on opened by request reading_it before steps.read found (read steps.read steps.to_reading steps.early) steps.to_step

    makes_it : (found : List HistoryEntry) → HeadSteps origin by head from found
        → lake_rules.passes by request (head_point head) (along lake_rules opened found)
    makes_it found steps = moved (PointPasses call (head_point head)) opened found (step_passes (state_at origin found) call head steps.free)

    pub head_done : (made : MadeHead) (next : List HistoryEntry) (met : CallMet) → IsHeadMade origin by head made from next
        → ServesBy next met (reply.Done (telling (made.1, made.2)))
    head_done made next met is =
        let told = makes.done (state_at origin is.found) met made.1 made.2 (is.commit, is.id) in
        served_done opened by request met (reply.Done (telling (made.1, made.2))) makes.fixed before reading_it (head_point head) is.found next course_read
        (at_step is.found is.steps) (makes_it is.found is.steps) (
          makes.fixed,
          refl,
          telling (made.1, made.2),
          moved (λ s. IsDone call moment makes.fixed met s (telling (made.1, made.2))) opened is.found told,
          refl,
        ) is.stands

    pub head_faulted : (next : List HistoryEntry) (met : CallMet) → HeadTryEnds origin by head (Err (Step step.StoreFault)) from next
        → lake_rules.store_fails met (reply.Refused refusal.StoreFault) → ServesBy next met (reply.Refused refusal.StoreFault)
    head_faulted next met ends fails =
        served_faulted opened by request met (reply.Refused refusal.StoreFault) makes.fixed before reading_it [] (head_point head) (operation_of head)
        ends.0 next course_read (at_step ends.0 ends.1) refl (makes_it ends.0 ends.1) (inl fails) ends.2

    -- refused at its reading, for what it would make
    pub head_unmade : (cause : HeadRefusal) (next : List HistoryEntry) (met : CallMet) → Came lake_rules by from next
        → early_refusal head (state_at origin next) ≡ Some (reading.Head cause) → ServesBy next met (reply.Refused (told_of_head cause))
    head_unmade cause next met came early =
        stopped sealing left_sealed next met (reply.Refused (told_of_head cause)) course_sealed makes.owes_seal (at_reading next came)
        (ByState (reading_point head) (head_point head ∷ []) refl
        (moved (λ s. PointRefused call (reading_point head) s (reply.Refused (told_of_head cause))) opened next (reading.Head cause, early, refl)))

    pub head_refused : (fault : StepFault) (next : List HistoryEntry) (met : CallMet) (told : CallReply) → IsHeadRefused origin by head fault from next
        → IsToldOf (names_of call) fault told → ServesBy next met told
    head_refused fault next met told refused tells = elim refused [
      | inl early ↦ stopped sealing left_sealed next met told course_sealed makes.owes_seal (at_reading next early.0)
          (ByState (reading_point head) (head_point head ∷ []) refl
          (moved (λ s. PointRefused call (reading_point head) s told) opened next (reading.Step fault, early.1, tells)))
      | inr late ↦ stopped reading_it (head_point head ∷ []) next met told course_read makes.owes_reading
          (reached_on opened by request reading_it before late.0 next (read late.0 late.1 late.2) late.3)
          (ByState (head_point head) [] refl (moved (λ s. PointRefused call (head_point head) s told) opened next
          (refused_by (state_at origin next) call head.repo head.branch head.about head.kind late.4 fault told late.5 late.6 tells)))
    ]

    pub head_starved : (next : List HistoryEntry) (met : CallMet) → Came lake_rules by from next → ServesBy next met reply.NoMemory
    head_starved next met came =
        stopped sealing left_sealed next met reply.NoMemory course_sealed makes.owes_seal (at_reading next came) (ByMemory refl)

    -- ten tries found other versions, and other seats made as many entries that gave one
    pub head_tried_enough : (next : List HistoryEntry) (met : CallMet) → Came lake_rules by from next → met.changed ≡ 10
        → 10 ≤ count_of (of_other_seat by.seat (gives_branch_or_settings head.repo head.branch)) (drop (length before) next)
        → ServesBy next met (reply.Refused refusal.TooManyTries)
    head_tried_enough next met came ten enough =
        stopped sealing left_sealed next met (reply.Refused refusal.TooManyTries) course_sealed makes.owes_seal (at_reading next came)
        (ByCause (λ none. absurd cc) (inl (
          record {
            guard = ByBoth head.repo head.branch;
            guarded = guard_by head.repo head.branch head.about head.kind;
            ten = ten;
            entries = enough;
          },
          refl,
        )))
