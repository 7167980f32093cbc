-- How the four calls of a new head are answered.
use Rattle.std.proofs.Common.{◌≡◌, inl, inr, ℕ, Bool, true, false, nat_lt, List, [], ◌∷◌, length, Option, Some, None, Result, Ok, Err, refl, sym, subst, ◌∙◌}
use Rattle.std.specs.Prelude.{if◌then◌else◌}
use Rattle.std.specs.Option.{option_map_or}
use Rattle.lake_base.specs.declared.digest.Digest.{Digest}
use Rattle.lake_values.specs.Commit.{CommitRecordValue}
use Rattle.lake_values.specs.declared.commit.Strategy.TheVariants.{Refuse}
use Rattle.commit_graph.specs.Expressions.{RefExprValue}
use Rattle.lake_model.specs.declared.history.SealFor.TheVariants as why
use Rattle.lake_model.specs.declared.reply.Point.{Point}
use Rattle.lake_model.specs.declared.reply.SwapKind.TheVariants as kind
use Rattle.lake_model.specs.State.{State}
use Rattle.shared_lake.specs.SeatSteps.{LakeSeat}
use Rattle.lake_calls.specs.Calls.{CommitCall, MergeCall, PickCall}
use Rattle.lake_calls.specs.CallReadings.{known_commit}
use Rattle.lake_calls.specs.CallRefusals.{CallNames, chosen_parent, names_of, nth_parent, parent_number, resolved}
use Rattle.lake_calls.specs.Courses.{CallPoint, ResolvesParent, ResolvesSource, call_course, commit_about, merge_about, nothing_fixed, pick_about, revert_about}
use Rattle.lake_calls.specs.declared.call.Call.{Call}
use Rattle.lake_calls.specs.declared.call.Call.TheVariants.{Heads}
use Rattle.lake_calls.specs.declared.heads.HeadCall.TheVariants as heads
use Rattle.lake_calls.specs.declared.reply.CallReply.TheVariants as reply
use Rattle.lake_calls.specs.declared.reply.Done.{Done as DoneReply}
use Rattle.lake_calls.specs.declared.reply.Done.TheVariants as done
use Rattle.lake_calls.specs.declared.reply.MissingParent.TheVariants.{OfNumber}
use Rattle.lake_calls.specs.declared.reply.Refusal.{Refusal}
use Rattle.lake_calls.specs.declared.reply.Refusal.TheVariants as refusal
use Rattle.lake_model.specs.Readings.{resolve_reply}
use Rattle.flow_steps.specs.declared.answer.FlowAnswer.{FlowAnswer}
use Rattle.flow_steps.specs.FlowAnswers.{BlockCounts}
use Rattle.flow_steps.specs.FlowSeats.{state_at}
use Rattle.head_steps.specs.HeadTries.{MadeHead}
use Rattle.head_steps.specs.NewHeads.{NewHead}
use Rattle.head_steps.proofs.HeadServingLemmas.{MakesHead, commits, merges, picks, reverts}
use Rattle.commit_flow.specs.declared.answer.CommitFault.{CommitFault}
use Rattle.commit_flow.specs.declared.answer.CommitFault.TheVariants.{NoMemory}
use Rattle.commit_flow.specs.CommitFaults.{IsCommitTold, fault_of_parent, fault_of_step}
use Rattle.commit_flow.specs.CommitFlows.{HasMadeHead, HasMerged, HasPicked, IsAnswered, IsHeadAnswer, Merging, NoCommit, NoSource, NotChosen, NotSaid, Picking}
use Rattle.commit_flow.specs.CommitFlows.{Went, answered_at}
use Rattle.commit_flow.proofs.HeadAnswerLemmas.{made_so}
use Rattle.commit_flow.proofs.MergeLemmas.{begun_at_once, begun_behind, refused_first, starved_first, unresolved}

-- a flow that went so and answered so, by what it answers
pub answered : (HasGone : Went) (telling : Digest × CommitRecordValue → DoneReply) (old new : LakeSeat) (number : ℕ) (call : Call) (moment : ℕ)
    (blocks : BlockCounts) (versions : List ℕ) (result : Result MadeHead CommitFault) (answer : FlowAnswer MadeHead CommitFault)
    → answer ≡ answered_at result new → HasGone versions result
    → IsHeadAnswer telling old new number call moment blocks (length versions) (answered_at result new)
    → IsAnswered HasGone telling old new number call moment blocks answer
answered HasGone telling old new number call moment blocks versions result answer is went answers =
    subst (IsAnswered HasGone telling old new number call moment blocks) (sym is) (record { versions = versions; went = went; answers = answers })

-- ---- a parent that isn't chosen

abbrev chosen_by : Refusal → Option Digest → Result Digest Refusal
chosen_by refused o = option_map_or Ok o (Err refused)

not_found : (o : Option Digest) (missing refused : Refusal) → chosen_by missing o ≡ Err refused → missing ≡ refused
not_found (Some parent) missing refused is = absurd cc
not_found None missing refused is = let same : chosen_by missing None ≡ Err refused = is in cc

-- a client is told of what such a refusal is answered as
abbrev IsToldSo : CallNames → Refusal → Type 0
IsToldSo names refused = IsCommitTold names (fault_of_parent refused) (reply.Refused refused)

no_parent : (names : CallNames) (number : ℕ) → IsToldSo names (refusal.NoParent (OfNumber number))
no_parent names number = refl

by_only : (names : CallNames) (ids : List Digest) (several : Bool) (refused : Refusal)
    → (if several then Err refusal.NeedsParentNumber else chosen_by (refusal.NoParent (OfNumber 1)) (nth_parent ids 1)) ≡ Err refused → IsToldSo names refused
by_only names ids true refused is =
    let same : refusal.NeedsParentNumber ≡ refused = cc (is) in subst (IsToldSo names) same refl
by_only names ids false refused is =
    subst (IsToldSo names) (not_found (nth_parent ids 1) (refusal.NoParent (OfNumber 1)) refused is) (no_parent names 1)

not_chosen : (names : CallNames) (ids : List Digest) (number : Option ℕ) (refused : Refusal) → chosen_parent ids number ≡ Err refused → IsToldSo names refused
not_chosen names ids (Some number) refused is =
    subst (IsToldSo names) (not_found (nth_parent ids number) (refusal.NoParent (OfNumber number)) refused is) (no_parent names number)
not_chosen names ids None refused is = by_only names ids (nat_lt 1 (length ids)) refused is

-- ---- the heads of the calls

abbrev pub committing : (moment : ℕ) → CommitCall → NewHead
committing moment c = record { repo = c.repo; branch = c.branch; kind = kind.Commit; about = commit_about c moment }

abbrev pub merging : (moment : ℕ) → MergeCall → Digest → NewHead
merging moment c commit = record { repo = c.repo; branch = c.branch; kind = kind.Merge commit c.strategy; about = merge_about c moment }

abbrev pub undoing : (moment : ℕ) → PickCall → Point → (parent : Digest) → NewHead
undoing moment c point parent =
    record { repo = c.repo; branch = c.branch; kind = kind.Pick point.commit parent Refuse; about = revert_about c moment point.commit }

abbrev pub taking : (moment : ℕ) → PickCall → Point → (parent : Digest) → NewHead
taking moment c point parent =
    record { repo = c.repo; branch = c.branch; kind = kind.Pick parent point.commit Refuse; about = pick_about c moment point.message }

module _ (number moment : ℕ) (blocks : BlockCounts) (old new : LakeSeat) (paused pauses : Option ℕ) (versions : List ℕ)
    (result : Result MadeHead CommitFault) where
  abbrev AnswersBy : Call → (Digest × CommitRecordValue → DoneReply) → (changed : ℕ) → Result MadeHead CommitFault → Type 0
  AnswersBy call telling changed outcome = IsHeadAnswer telling old new number call moment blocks changed (answered_at outcome new)

  -- an answer of no tries
  at_once : (call : Call) (telling : Digest × CommitRecordValue → DoneReply) (fault : CommitFault) → versions ≡ [] → result ≡ Err fault
      → AnswersBy call telling 0 (Err fault) → AnswersBy call telling (length versions) result
  at_once call telling fault none is answers =
      subst (λ (vs : List ℕ). AnswersBy call telling (length vs) result) (sym none) (subst (AnswersBy call telling 0) (sym is) answers)

  -- ---- a commit

  pub commit_so : (c : CommitCall) → HasMadeHead (committing moment c) why.Commit number old new paused pauses versions result
      → AnswersBy (Heads (heads.Commit c)) (λ one. done.Committed (known_commit one)) (length versions) result
  commit_so c made =
      made_so (λ one. done.Committed (known_commit one)) number (Heads (heads.Commit c)) moment blocks [] why.Commit (committing moment c) (commits c moment)
      old old
      (λ origin from. begun_at_once origin number (Heads (heads.Commit c)) moment old) paused pauses new versions result made

  -- ---- a merge

  pub merge_so : (c : MergeCall) → HasMerged c.repo c.source.e (merging moment c) number old new paused pauses versions result
      → AnswersBy (Heads (heads.Merge c)) (λ one. done.Merged one.0) (length versions) result
  merge_so c (NoSource fault so unpaused none is) =
      let call = Heads (heads.Merge c) in
      at_once call (λ one. done.Merged one.0) (fault_of_step fault) none is
      (unresolved (λ one. done.Merged one.0) number call moment blocks (ResolvesSource nothing_fixed.commit) _ refl old new
      (λ s other told leads tells. (other, leads, tells)) c.repo c.source.e (λ s. refl) fault so)
  merge_so c (Merging point behind so made) =
      let call = Heads (heads.Merge c) in
      made_so (λ one. done.Merged one.0) number call moment blocks (ResolvesSource point.commit ∷ []) why.Other (merging moment c point.commit)
      (merges c moment point.commit) old behind
      (begun_behind number c.repo c.source.e point old behind so call moment (ResolvesSource point.commit) refl (point, so.ends, refl))
      paused pauses new versions result made

  -- ---- a revert or a cherry-pick

  module _ (call : Call) (telling : Digest × CommitRecordValue → DoneReply) (repo : List ℕ) (e : RefExprValue) (picking : Point → Digest → NewHead)
      (asks : (s : State) → resolved s call ≡ resolve_reply s repo e) (later : List CallPoint)
      (course : call_course call moment nothing_fixed ≡ ResolvesParent nothing_fixed.commit nothing_fixed.parent nothing_fixed.message ∷ later)
      (makes : (point : Point) (parent : Digest) → MakesHead call moment (ResolvesParent point.commit parent point.message ∷ []) why.Other
      (picking point parent) telling) where
    abbrev first : CallPoint
    first = ResolvesParent nothing_fixed.commit nothing_fixed.parent nothing_fixed.message

    pub pick_so : HasPicked repo e (parent_number call) picking number old new paused pauses versions result → AnswersBy call telling (length versions) result
    pick_so (NoCommit fault so unpaused none is) =
        at_once call telling (fault_of_step fault) none is
        (unresolved telling number call moment blocks first later course old new (λ s other told leads tells. inl (other, leads, tells)) repo e asks fault so)
    pick_so (NotChosen point refused so unchosen unpaused none is) =
        let told = not_chosen (names_of call) point.parents (parent_number call) refused unchosen in
        at_once call telling (fault_of_parent refused) none is
        (refused_first telling number call moment blocks first later course old new so.origin so.goes so.came (fault_of_parent refused) (reply.Refused refused)
        told (inr (point, refused, asks (state_at so.origin new.seen) ∙ so.ends, unchosen, refl)))
    pick_so (NotSaid point so unpaused none is) =
        at_once call telling NoMemory none is (starved_first telling number call moment blocks first later course old new so.origin so.goes so.came)
    pick_so (Picking point parent behind so chosen made) =
        made_so telling number call moment blocks (ResolvesParent point.commit parent point.message ∷ []) why.Other (picking point parent)
        (makes point parent) old behind
        (begun_behind number repo e point old behind so call moment (ResolvesParent point.commit parent point.message) refl
        (point, asks (state_at so.origin behind.seen) ∙ so.ends, refl, refl, chosen))
        paused pauses new versions result made

  pub revert_so : (c : PickCall) → HasPicked c.repo c.at.e c.parent (undoing moment c) number old new paused pauses versions result
      → AnswersBy (Heads (heads.Revert c)) (λ one. done.Reverted (known_commit one)) (length versions) result
  revert_so c went =
      pick_so (Heads (heads.Revert c)) (λ one. done.Reverted (known_commit one)) c.repo c.at.e (undoing moment c) (λ s. refl) _ refl
      (λ point parent. reverts c moment point.commit parent point.message) went

  pub take_so : (c : PickCall) → HasPicked c.repo c.at.e c.parent (taking moment c) number old new paused pauses versions result
      → AnswersBy (Heads (heads.CherryPick c)) (λ one. done.CherryPicked (known_commit one)) (length versions) result
  take_so c went =
      pick_so (Heads (heads.CherryPick c)) (λ one. done.CherryPicked (known_commit one)) c.repo c.at.e (taking moment c) (λ s. refl) _ refl
      (λ point parent. picks c moment point.commit parent point.message) went
