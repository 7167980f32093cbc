-- A call that makes a new head and is refused by what comes only behind its seal has sealed.
use Rattle.std.proofs.Common.{◌≡◌, ℕ, Bool, true, false, not, nat_lt, List, [], ◌∷◌, ◌++◌, length, refl, sym, ap, ◌∙◌, ◌⊎◌, inl, inr, subst}
use Rattle.std.specs.Prelude.{Option, Some, None, IfSome, is_some, option_and_then, option_map, Result, Ok, Err, IfErr, if◌then◌else◌}
use Rattle.std.specs.FinMap.{contains_key, get}
use Rattle.std.specs.Option.{option_map_or}
use Rattle.lake_base.specs.declared.digest.Digest.{Digest}
use Rattle.commit_graph.specs.Expressions.{RefExprValue}
use Rattle.commit_graph.specs.Moves.{moves_target}
use Rattle.lake_model.specs.declared.fault.Reference.TheVariants as reference
use Rattle.lake_model.specs.declared.fault.StepFault.{StepFault}
use Rattle.lake_model.specs.declared.fault.StepFault.TheVariants as step
use Rattle.lake_model.specs.declared.history.HistoryEntry.{HistoryEntry}
use Rattle.lake_model.specs.declared.history.SealFor.{SealFor}
use Rattle.lake_model.specs.declared.history.SealFor.TheVariants as seal
use Rattle.lake_model.specs.declared.reply.Point.{Point}
use Rattle.lake_model.specs.State.{Repository, State, branch_of}
use Rattle.lake_model.specs.Branches.{protected_by}
use Rattle.lake_model.specs.Readings.{point_of, ◌then◌}
use Rattle.lake_model.specs.Resolving.{expression_target, moved_target, name_target, parent_fault}
use Rattle.lake_model.specs.Refusals.{Causes, cause_if, causes_of_change, first_cause, first_of, protection_of, with_branch}
use Rattle.lake_model.specs.Steps.{seal_causes}
use Rattle.call_placement.specs.Rules.{Caller}
use Rattle.call_placement.specs.Points.{AreOfOtherCalls, Came, HavePassed, replay}
use Rattle.call_placement.specs.Served.{Broken, ByCause, ByLateCause, ByMemory, ByState, Done, Ends, Faulted, Hinders, IsOfFault, Stopped}
use Rattle.lake_calls.specs.CallExceptions.{CallMet, HasBlockFault, HasTriedEnough, IsException, last_guard}
use Rattle.lake_calls.specs.CallRefusals.{CallNames, IsToldOf, PointRefused, chosen_parent, expression_of, names_of, nth_parent, parent_number}
use Rattle.lake_calls.specs.CallRefusals.{resolved, told as told_of}
use Rattle.lake_calls.specs.Courses.{CallPoint, ResolvesParent, ResolvesSource, made_by}
use Rattle.lake_calls.specs.DoneReplies.{is_upload}
use Rattle.lake_calls.specs.LakeRules.{lake_rules}
use Rattle.lake_calls.specs.Requests.{Asks}
use Rattle.lake_calls.specs.declared.call.Call.{Call}
use Rattle.lake_calls.specs.declared.reply.CallReply.TheVariants as reply
use Rattle.lake_calls.specs.declared.reply.MissingParent.TheVariants.{OfNumber}
use Rattle.lake_calls.specs.declared.reply.Refusal.{Refusal}
use Rattle.lake_calls.specs.declared.reply.Refusal.TheVariants as refusal
use Rattle.commit_laws.specs.OwnSeals.{ComesBehindSeal, HasOwnSeal, AskedHead}
use Rattle.commit_laws.proofs.EndingLemmas.{answered_refused, fault_told, given_up, hindered_left, not_starved, same_cause, stopped_sealed}
use Rattle.commit_laws.proofs.PointLemmas.{AllRead, Far, Ready, Sealed, Unsealed, Whole, how_far, owes_nothing, points_of, ready_point, seal_point}

-- a refusal that may come before
abbrev ComesBefore : Refusal → Type 0
ComesBefore cause = ComesBehindSeal cause → ⊥

-- a fault that is told by one
abbrev IsToldBefore : CallNames → StepFault → Type 0
IsToldBefore names fault = IfSome (told_of names fault) ComesBefore

told_before : (names : CallNames) (fault : StepFault) (cause : Refusal) → IsToldBefore names fault → IsToldOf names fault (reply.Refused cause)
    → ComesBefore cause
told_before names fault cause before is =
    subst ComesBefore (sym (same_cause cause is.0 is.2)) (subst (λ o. IfSome o ComesBefore) is.1 before)

-- ---- the causes at a seal

abbrev AllHave : (StepFault → Type 0) → List (Option StepFault) → Type 0
AllHave P [] = Unit {0}
AllHave P (fault ∷ faults) = IfSome fault P × AllHave P faults

first_has : (P : StepFault → Type 0) (faults : List (Option StepFault)) → AllHave P faults → IfSome (first_of faults) P
first_has P [] all = tt
first_has P (None ∷ faults) all = first_has P faults all.1
first_has P (Some fault ∷ faults) all = all.0

cause_has : (P : StepFault → Type 0) (holds : Bool) (fault : StepFault) → P fault → IfSome (cause_if holds fault) P
cause_has P true fault is = is
cause_has P false fault is = tt

pattern_has : (P : StepFault → Type 0) → ((pattern : ℕ) → P (step.Protected pattern)) → (o : Option ℕ) → IfSome (option_map step.Protected o) P
pattern_has P is None = tt
pattern_has P is (Some pattern) = is pattern

protection_has : (P : StepFault → Type 0) → ((pattern : ℕ) → P (step.Protected pattern)) → (branch : List ℕ) (o : Option Repository)
    → IfSome (option_and_then (λ (r : Repository). option_map step.Protected (protected_by r.notes.protection branch)) o) P
protection_has P is branch None = tt
protection_has P is branch (Some r) = pattern_has P is (protected_by r.notes.protection branch)

-- the causes in their order
abbrev in_order : Causes → List (Option StepFault)
in_order c =
    c.stopped ∷ c.full ∷ c.repository ∷ c.reference ∷ c.parent ∷ c.note ∷ c.exists ∷ c.default_branch ∷ c.protected
    ∷ c.version ∷ c.path ∷ c.expired ∷ c.clash ∷ []

-- each is told before
branch_told : (names : CallNames) (state : State) (repo branch : List ℕ) (protected : Option StepFault) → IfSome protected (IsToldBefore names)
    → AllHave (IsToldBefore names) (in_order (record (with_branch state repo branch (causes_of_change state)) { protected = protected }))
branch_told names state repo branch protected told =
    let P = IsToldBefore names in (
      cause_has P state.stopped step.Stopped (λ behind. behind),
      (
        cause_has P (not (nat_lt state.entries 4194304)) step.HistoryFull (λ behind. behind),
        (
          cause_has P (not (contains_key state.repositories repo)) step.NoRepo (λ behind. behind),
          (
            cause_has P (not (is_some (branch_of state repo branch))) (step.NoRef reference.Named) (λ behind. behind),
            (tt, (tt, (tt, (tt, (told, (tt, (tt, (tt, (tt, tt))))))))),
          ),
        ),
      ),
    )

seal_told : (names : CallNames) (why : SealFor) (state : State) (repo branch : List ℕ)
    → IfSome (first_cause (seal_causes why state repo branch)) (IsToldBefore names)
seal_told names seal.Commit state repo branch =
    first_has (IsToldBefore names) (in_order (seal_causes seal.Commit state repo branch))
    (branch_told names state repo branch (protection_of state repo branch)
    (protection_has (IsToldBefore names) (λ pattern behind. behind) branch (get state.repositories repo)))
seal_told names seal.Other state repo branch =
    first_has (IsToldBefore names) (in_order (seal_causes seal.Other state repo branch)) (branch_told names state repo branch None tt)

-- ---- the readings before a seal

-- no exception behind the seal comes while it is left
either_before : (seat : ℕ) (uploads : Bool) (left : List CallPoint) (met : CallMet) (from : ℕ) (found : List HistoryEntry) (cause : Refusal)
    → last_guard left ≡ None
    → (HasTriedEnough seat left met from found × (reply.Refused cause ≡ reply.Refused refusal.TooManyTries))
    ⊎ (HasBlockFault uploads left met × (reply.Refused cause ≡ reply.Refused refusal.BlockFault))
    → ComesBefore cause
either_before seat uploads left met from found cause none (inl is) behind = absurd (let guarded = is.0.guarded in cc (none, guarded))
either_before seat uploads left met from found cause none (inr is) behind = subst ComesBehindSeal (same_cause cause refusal.BlockFault is.1) behind

-- what an expression doesn't resolve for is told so
parent_told : (names : CallNames) (moved : Result Digest ℕ) → IfErr (parent_fault moved) (IsToldBefore names)
parent_told names (Ok id) = tt
parent_told names (Err number) = λ behind. behind

moved_told : (names : CallNames) (r : Repository) (e : RefExprValue) (target : Option Digest) → IfErr (moved_target r e target) (IsToldBefore names)
moved_told names r e None = λ behind. behind
moved_told names r e (Some id) = parent_told names (moves_target r.commits 0 id e.moves)

then_told : (names : CallNames) (f : Digest → Point) (one : Result Digest StepFault) → IfErr one (IsToldBefore names)
    → IfErr (one then λ id. Ok (f id)) (IsToldBefore names)
then_told names f (Ok id) told = tt
then_told names f (Err fault) told = told

repository_told : (names : CallNames) (state : State) (e : RefExprValue) (o : Option Repository)
    → IfErr (option_map_or (λ (r : Repository). expression_target r e then λ id. Ok (point_of state r e id)) o (Err step.NoRepo)) (IsToldBefore names)
repository_told names state e None = λ behind. behind
repository_told names state e (Some r) = then_told names (point_of state r e) (expression_target r e) (moved_told names r e (name_target r e.name))

resolving_before : (call : Call) (state : State) (fault : StepFault) (cause : Refusal) → resolved state call ≡ Err fault
    → IsToldOf (names_of call) fault (reply.Refused cause) → ComesBefore cause
resolving_before call state fault cause is =
    told_before (names_of call) fault cause
    (subst (λ r. IfErr r (IsToldBefore (names_of call))) is
    (repository_told (names_of call) state (expression_of call) (get state.repositories (names_of call).repo)))

-- and what a parent isn't chosen for
parent_or : (o : Option Digest) (refused : Refusal) → ComesBefore refused → IfErr (option_map_or Ok o (Err refused)) ComesBefore
parent_or None refused is = is
parent_or (Some id) refused is = tt

several_before : (several : Bool) (one : Result Digest Refusal) → IfErr one ComesBefore
    → IfErr (if several then Err refusal.NeedsParentNumber else one) ComesBefore
several_before true one is = λ behind. behind
several_before false one is = is

chosen_before : (parents : List Digest) (number : Option ℕ) → IfErr (chosen_parent parents number) ComesBefore
chosen_before parents (Some number) = parent_or (nth_parent parents number) (refusal.NoParent (OfNumber number)) (λ behind. behind)
chosen_before parents None =
    several_before (nat_lt 1 (length parents)) _ (parent_or (nth_parent parents 1) (refusal.NoParent (OfNumber 1)) (λ behind. behind))

-- a reading whose refusals, and whose exceptions, may come before
pub record IsEarly (call : Call) (point : CallPoint) : Type 0 where
  pub reads : made_by point ≡ None
  pub refused : (state : State) (cause : Refusal) → PointRefused call point state (reply.Refused cause) → ComesBefore cause
  pub excepted : (seat : ℕ) (uploads : Bool) (later : List CallPoint) (met : CallMet) (opened : State) (from : ℕ) (found : List HistoryEntry) (cause : Refusal)
      → IsException seat uploads (point ∷ later) met opened from found (reply.Refused cause) → ComesBefore cause

abbrev pub AllEarly : Call → List CallPoint → Type 0
AllEarly call [] = Unit {0}
AllEarly call (point ∷ points) = IsEarly call point × AllEarly call points

pub early_read : (call : Call) (reads : List CallPoint) → AllEarly call reads → AllRead reads
early_read call [] all = tt
early_read call (read ∷ reads) all = (all.0.reads, early_read call reads all.1)

-- so are those that resolve an expression
pub source_early : (call : Call) (commit : Digest) → AllEarly call (ResolvesSource commit ∷ [])
source_early call commit = (
  record {
    reads = refl;
    refused = λ state cause is. resolving_before call state is.0 cause is.1 is.2;
    excepted = λ seat uploads later met opened from found cause. either_before seat uploads (ResolvesSource commit ∷ later) met from found cause refl;
  },
  tt,
)

resolves_before : (call : Call) (commit parent : Digest) (message : List ℕ) (state : State) (cause : Refusal)
    → PointRefused call (ResolvesParent commit parent message) state (reply.Refused cause) → ComesBefore cause
resolves_before call commit parent message state cause (inl is) = resolving_before call state is.0 cause is.1 is.2
resolves_before call commit parent message state cause (inr is) =
    subst ComesBefore (sym (same_cause cause is.1 is.4))
    (subst (λ r. IfErr r ComesBefore) is.3 (chosen_before is.0.parents (parent_number call)))

pub parent_early : (call : Call) (commit parent : Digest) (message : List ℕ) → AllEarly call (ResolvesParent commit parent message ∷ [])
parent_early call commit parent message = (
  record {
    reads = refl;
    refused = resolves_before call commit parent message;
    excepted = λ seat uploads later met opened from found cause.
        either_before seat uploads (ResolvesParent commit parent message ∷ later) met from found cause refl;
  },
  tt,
)

-- ---- before a seal, and behind it

module _ (opened : State) (by : Caller) (call : Call) (moment : ℕ) (met : CallMet) (before : List HistoryEntry) (head : AskedHead) where
  -- a seal is refused so
  seal_before : (state : State) (cause : Refusal) → PointRefused call (seal_point head) state (reply.Refused cause) → ComesBefore cause
  seal_before state cause is =
      told_before (names_of call) is.fault cause
      (subst (λ o. IfSome o (IsToldBefore (names_of call))) is.first (seal_told (names_of call) head.why state head.repo head.branch)) is.told_so

  -- so is what hinders a call before its seal
  state_before : (reads later : List CallPoint) (point : CallPoint) (state : State) (cause : Refusal) → AllEarly call reads
      → reads ++ points_of head ≡ point ∷ later → PointRefused call point state (reply.Refused cause) → ComesBefore cause
  state_before [] later point state cause all is refuses =
      let same : point ≡ seal_point head = cc in
      seal_before state cause (subst (λ p. PointRefused call p state (reply.Refused cause)) same refuses)
  state_before (read ∷ reads) later point state cause all is refuses =
      let same : point ≡ read = cc in
      all.0.refused state cause (subst (λ p. PointRefused call p state (reply.Refused cause)) same refuses)

  exception_before : (reads : List CallPoint) (found : List HistoryEntry) (cause : Refusal) → AllEarly call reads
      → IsException by.seat (is_upload call) (reads ++ points_of head) met opened (length before) found (reply.Refused cause) → ComesBefore cause
  exception_before [] found cause all = either_before by.seat (is_upload call) (points_of head) met (length before) found cause refl
  exception_before (read ∷ reads) found cause all = all.0.excepted by.seat (is_upload call) (reads ++ points_of head) met opened (length before) found cause

  pub hindered_before : (found : List HistoryEntry) (reads points : List CallPoint) (cause : Refusal) → AllEarly call reads
      → points ≡ reads ++ points_of head
      → Hinders lake_rules opened by (record { asked = Asks call; moment = moment }) met (length before) points found (reply.Refused cause)
      → ComesBefore cause
  hindered_before found reads points cause all is (ByState point later also refuses) =
      state_before reads later point (replay lake_rules opened found) cause all (sym is ∙ also) refuses
  hindered_before found reads points cause all is (ByCause some excepts) =
      exception_before reads found cause all
      (subst (λ ps. IsException by.seat (is_upload call) ps met opened (length before) found (reply.Refused cause)) is excepts)
  hindered_before found reads points cause all is (ByLateCause none excepts) = absurd excepts
  hindered_before found reads points cause all is (ByMemory want) = absurd (not_starved cause want)

  -- where only readings passed, none of these points did, and of the readings before them the rest is left with them
  all_left : (passed left : List CallPoint) → points_of head ≡ passed ++ left → AllRead passed → left ≡ points_of head
  all_left [] left is all = sym is
  all_left (point ∷ passed) left is all =
      let same : seal_point head ≡ point = cc in
      let none : made_by (seal_point head) ≡ None = ap made_by same ∙ all.0 in
      absurd (cc (none))

  rest_left : (reads passed left : List CallPoint) → AllEarly call reads → reads ++ points_of head ≡ passed ++ left → AllRead passed
      → (rest : List CallPoint) × AllEarly call rest × (left ≡ rest ++ points_of head)
  rest_left [] passed left early is all = ([], tt, all_left passed left is all)
  rest_left (read ∷ reads) [] left early is all = (read ∷ reads, early, sym is)
  rest_left (read ∷ reads) (point ∷ passed) left early is all =
      let same : reads ++ points_of head ≡ passed ++ left = cc in
      rest_left reads passed left early.1 same all.1

  module _ (after later : List HistoryEntry) (position next_edge : ℕ) (apart : AreOfOtherCalls lake_rules by later) where
    stopped_behind : (front passed left : List CallPoint) (seen found next : List HistoryEntry) (cause : Refusal) → AllEarly call front
        → front ++ points_of head ≡ passed ++ left → Far head passed left → ComesBehindSeal cause
        → Hinders lake_rules opened by (record { asked = Asks call; moment = moment }) met (length before) left found (reply.Refused cause)
        → HavePassed lake_rules opened by (record { asked = Asks call; moment = moment }) passed before seen
        → Came lake_rules by seen found → position ≡ length found → Came lake_rules by found next × (next_edge ≡ length found) → after ≡ next ++ later
        → HasOwnSeal by before after head [] position next_edge
    stopped_behind front passed left seen found next cause early course (Unsealed all _ _ _) behind hinders walked came place on whole =
        let rest = rest_left front passed left early course all in
        absurd (hindered_before found rest.0 left cause rest.1 rest.2 hinders behind)
    stopped_behind front passed left seen found next cause early course (Sealed reads all passed_is left_is) behind hinders walked came place on whole =
        stopped_sealed opened by call moment met before head after later position next_edge apart reads [] passed seen found next all tt passed_is
        walked came place on whole
    stopped_behind front passed left seen found next cause early course (Ready reads all passed_is left_is) behind hinders walked came place on whole =
        stopped_sealed opened by call moment met before head after later position next_edge apart reads (ready_point head ∷ []) passed seen found next
        all (refl, tt) passed_is walked came place on whole
    stopped_behind front passed left seen found next cause early course (Whole reads all passed_is left_is) behind hinders walked came place on whole =
        absurd (hindered_left opened by call moment met before left found cause hinders left_is)

    no_fault : (cause : Refusal) → ComesBehindSeal cause → IsOfFault lake_rules met (reply.Refused cause) → ⊥
    no_fault cause behind says = subst ComesBehindSeal (fault_told opened by call moment met before cause says) behind

    pub behind_left : (front course passed left : List CallPoint) (seen next : List HistoryEntry) (cause : Refusal) → AllEarly call front
        → front ++ points_of head ≡ passed ++ left
        → HavePassed lake_rules opened by (record { asked = Asks call; moment = moment }) passed before seen
        → Ends lake_rules opened by (record { asked = Asks call; moment = moment }) met (length before) course passed left seen (reply.Refused cause)
        position next_edge next
        → ComesBehindSeal cause → after ≡ next ++ later → HasOwnSeal by before after head [] position next_edge
    behind_left front course passed left seen next cause early is walked (Done _ found _ _ _ answers _ _ _) behind whole =
        absurd (answered_refused opened by call moment met before head after later position next_edge apart course
        (replay lake_rules opened found) cause answers)
    behind_left front course passed left seen next cause early is walked (Stopped found came hinders place gives) behind whole =
        let there = how_far head front passed left (early_read call front early) is in
        stopped_behind front passed left seen found next cause early is there behind hinders walked came place
        (given_up opened by call moment met before _ (reply.Refused cause) found next next_edge (owes_nothing head passed left there) gives) whole
    behind_left front course passed left seen next cause early is walked (Faulted _ _ _ _ _ _ _ _ says _ _ _) behind whole =
        absurd (no_fault cause behind says)
    behind_left front course passed left seen next cause early is walked (Broken _ _ _ _ _ _ _ _ _ says _ _ _) behind whole =
        absurd (no_fault cause behind says)
