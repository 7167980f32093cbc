-- Tries of a new head, one after the other.
use Rattle.std.proofs.Common.{◌≡◌, ◌≤◌, ◌+◌, ◌<◌, ℕ, List, ◌++◌, length, drop, Option, Result, Ok, Err, refl, sym, ap, subst, ◌∙◌, arith}
use Rattle.std.specs.Prelude.{◌==◌, Bool, if◌then◌else◌}
use Rattle.lake_model.specs.declared.fault.StepFault.TheVariants as step
use Rattle.lake_model.specs.declared.history.HistoryEntry.{HistoryEntry}
use Rattle.core_state.specs.Counts.{versions_of}
use Rattle.core_state.specs.LakeStates.{lake_value}
use Rattle.lake_laws.specs.VersionGivers.{branch_and_settings, count_of, gives_branch_or_settings, of_other_seat}
use Rattle.lake_laws.proofs.GiverLemmas.{both_left, count_append, count_others, given_between}
use Rattle.lake_core.specs.declared.standing.LakeOrigin.{LakeOrigin}
use Rattle.shared_lake.specs.SeatSteps.{LakeSeat}
use Rattle.call_placement.specs.Rules.{Caller}
use Rattle.call_placement.specs.Points.{Came}
use Rattle.call_placement.specs.Sessions.{caller}
use Rattle.call_placement.proofs.WalkLemmas.{came_on, drop_front, further}
use Rattle.lake_calls.specs.LakeRules.{lake_rules}
use Rattle.flow_steps.specs.Retries.{FoundInTurn, HasPaused}
use Rattle.flow_steps.proofs.RetryLemmas.{LastBehind, UnderWay, came_in_turn, changed_behind, given_in_turn, last_behind, ten_tried}
use Rattle.head_drafts.specs.declared.fault.DraftFault.TheVariants as draft
use Rattle.head_drafts.specs.declared.fault.HeadFault.{HeadFault}
use Rattle.head_drafts.specs.declared.fault.HeadFault.TheVariants as attempt
use Rattle.head_steps.specs.HeadTries.{FoundHeadVersions, HasTriedHead, HeadTryEnds, MadeHead}
use Rattle.head_steps.specs.NewHeads.{NewHead}
use Rattle.head_steps.proofs.HeadBehindLemmas.{head_ends_before}
use Rattle.commit_flow.specs.declared.answer.CommitFault.{CommitFault}
use Rattle.commit_flow.specs.declared.answer.CommitFault.TheVariants.{Step, TooManyTries, Head, NoParent, NeedsParentNumber, NoMemory}
use Rattle.commit_flow.specs.declared.tries.TriedHead.TheVariants.{Made, Changed, Refused}
use Rattle.commit_flow.specs.CommitFaults.{fault_of_try}
use Rattle.commit_flow.specs.CommitTries.{HaveTriedHead, HeadTriesEnd, LastAnswers, tried_of}

-- the versions that tries of a new head find
abbrev pub Found : NewHead → LakeOrigin → Caller → ℕ → List HistoryEntry → List HistoryEntry → Type 0
Found head origin by version from next = FoundHeadVersions origin by head version from next

pub came_by : (head : NewHead) (origin : LakeOrigin) (by : Caller) (version : ℕ) (from next : List HistoryEntry) → Found head origin by version from next
    → Came lake_rules by from next
came_by head origin by version from next found = came_on lake_rules by from found.0 next found.1 found.2

module _ (origin : LakeOrigin) (by : Caller) (head : NewHead) where
  abbrev pub counted : HistoryEntry → Bool
  counted = of_other_seat by.seat (gives_branch_or_settings head.repo head.branch)

  -- a try that found other versions is one entry of others more that gave one
  one_more : (version : ℕ) (from next : List HistoryEntry) → FoundHeadVersions origin by head version from next
      → (more : List HistoryEntry) × (next ≡ from ++ more) × (1 ≤ count_of counted more)
  one_more version from next found =
      let to_read = found.1 in
      let to_step = found.2 in
      let some = given_between (branch_and_settings head.repo head.branch) (gives_branch_or_settings head.repo head.branch)
      (both_left head.repo head.branch) (versions_of (lake_value origin.opened)) next found.0 to_step.0 to_step.2 found.3 in
      let others = count_others by.seat (gives_branch_or_settings head.repo head.branch) to_step.0 to_step.1 in
      let sum = count_append counted to_read.0 to_step.0 in (
        to_read.0 ++ to_step.0,
        further from found.0 to_read.0 to_step.0 next to_step.2 to_read.2,
        omega (arith, some, others, sum),
      )

  -- ten tries found other versions: only others' entries came, ten of which at least gave one
  pub record HaveChanged (from next : List HistoryEntry) : Type 0 where
    pub came : Came lake_rules by from next
    pub given : 10 ≤ count_of counted (drop (length from) next)

  ten_changed : (versions : List ℕ) (from next : List HistoryEntry) → FoundInTurn (FoundHeadVersions origin by head) versions from next → length versions ≡ 10
      → HaveChanged from next
  ten_changed versions from next found ten =
      let given = given_in_turn (FoundHeadVersions origin by head) counted one_more versions from next found in
      let behind = ap (count_of counted) (drop_front from given.0 next given.1) in
      record {
        came = came_in_turn (FoundHeadVersions origin by head) by (came_by head origin by) versions from next found;
        given = omega (arith, given.2, ten, behind);
      }

  -- how tries ended, from where they began
  abbrev pub AllEnd : Result MadeHead CommitFault → (from next : List HistoryEntry) → Type 0
  AllEnd (Err (TooManyTries first last)) from next = HaveChanged from next
  AllEnd result from next = LastAnswers origin by head result from next

  pub ends_of : (versions : List ℕ) (result : Result MadeHead CommitFault) (from between next : List HistoryEntry)
      → FoundInTurn (FoundHeadVersions origin by head) versions from between → HeadTriesEnd origin by head versions result between next
      → AllEnd result from next
  ends_of versions result from between next found ends =
      by_result result (came_in_turn (FoundHeadVersions origin by head) by (came_by head origin by) versions from between found) ends
    where
      by_result : (result : Result MadeHead CommitFault) → Came lake_rules by from between → HeadTriesEnd origin by head versions result between next
          → AllEnd result from next
      by_result (Ok made) came ends = head_ends_before origin by head from between came (Ok made) next ends.1
      by_result (Err (TooManyTries first last)) came ends = subst (HaveChanged from) (sym ends.2) (ten_changed versions from between found ends.0)
      by_result (Err (Head cause)) came ends = head_ends_before origin by head from between came (Err (attempt.Draft (draft.Refused cause))) next ends.1
      by_result (Err NoMemory) came ends = came_on lake_rules by from between next came ends.1
      by_result (Err (Step (step.Changed version settings))) came ends = absurd ends.1
      by_result (Err (Step step.NoMemory)) came ends = absurd ends.1
      by_result (Err (Step fault)) came ends = head_ends_before origin by head from between came (Err (attempt.Step fault)) next ends.1
      by_result (Err (NoParent number)) came ends = absurd ends.1
      by_result (Err NeedsParentNumber) came ends = absurd ends.1

-- ---- the loop

-- a try's refusal isn't that versions changed
abbrev pub IsSettled : HeadFault → Type 0
IsSettled (attempt.Step (step.Changed version settings)) = ⊥
IsSettled fault = Unit {0}

-- a try's end, which found no other versions, is how the tries end
as_tries : (origin : LakeOrigin) (by : Caller) (head : NewHead) (versions : List ℕ) (fault : HeadFault) (from next : List HistoryEntry)
    → length versions < 10 → IsSettled fault → HeadTryEnds origin by head (Err fault) from next
    → HeadTriesEnd origin by head versions (Err (fault_of_try fault)) from next
as_tries origin by head versions (attempt.Step step.NoMemory) from next few settled ends = (few, ends)
as_tries origin by head versions (attempt.Step (step.Changed version settings)) from next few settled ends = absurd settled
as_tries origin by head versions (attempt.Step fault) from next few settled ends = (few, ends)
as_tries origin by head versions (attempt.Draft draft.NoMemory) from next few settled ends = (few, ends)
as_tries origin by head versions (attempt.Draft (draft.Refused cause)) from next few settled ends = (few, ends)

module _ (head : NewHead) (call changed first last : ℕ) (old now : LakeSeat) (way : UnderWay (Found head) call changed first last old now)
    (paused : Option ℕ) where
  abbrev Ended : Result MadeHead HeadFault → LakeOrigin → Caller → List HistoryEntry → List HistoryEntry → Type 0
  Ended result origin by from next = HeadTryEnds origin by head result from next

  behind : (result : Result MadeHead HeadFault) (next : LakeSeat) → HasTriedHead head call now next result
      → LastBehind (Found head) call (Ended result) changed old next
  behind result next tried =
      last_behind (Found head) call changed first last old now (Ended result) tried.origin next way tried.goes tried.ends

  -- the head was made
  pub made_behind : (made : MadeHead) (next : LakeSeat) (pauses : Option ℕ) → changed < 10 → HasPaused 10 changed paused pauses
      → HasTriedHead head call now next (Ok made) → HaveTriedHead head call old next paused pauses (Ok made)
  made_behind made next pauses few pause tried =
      let all = behind (Ok made) next tried in
      record {
        origin = all.origin;
        goes = all.goes;
        versions = all.versions;
        between = all.between;
        found = all.found;
        ends = (subst (λ n. n < 10) (sym all.count) few, all.last);
        pause = subst (λ n. HasPaused 10 n paused pauses) (sym all.count) pause;
      }

  -- it was refused
  pub refused_behind : (fault : HeadFault) (next : LakeSeat) (pauses : Option ℕ) → changed < 10 → HasPaused 10 changed paused pauses → IsSettled fault
      → HasTriedHead head call now next (Err fault) → HaveTriedHead head call old next paused pauses (Err (fault_of_try fault))
  refused_behind fault next pauses few pause settled tried =
      let all = behind (Err fault) next tried in
      record {
        origin = all.origin;
        goes = all.goes;
        versions = all.versions;
        between = all.between;
        found = all.found;
        ends = as_tries all.origin (caller old.number call) head all.versions fault all.between next.seen (subst (λ n. n < 10) (sym all.count) few)
            settled all.last;
        pause = subst (λ n. HasPaused 10 n paused pauses) (sym all.count) pause;
      }

  -- other versions were found, once more
  pub version_behind : (version settings : ℕ) (next : LakeSeat) → HasTriedHead head call now next (Err (attempt.Step (step.Changed version settings)))
      → UnderWay (Found head) call (changed + 1) (if changed == 0 then version else first) version old next
  version_behind version settings next tried =
      changed_behind (Found head) call changed first last old now version tried.origin next way tried.goes tried.ends

  -- ten tries are all
  pub all_changed : (pauses : Option ℕ) → changed ≡ 10 → HasPaused 10 changed paused pauses
      → HaveTriedHead head call old now paused pauses (Err (TooManyTries first last))
  all_changed pauses ten pause =
      let all = ten_tried (Found head) call changed first last old now ten way in
      record {
        origin = all.origin;
        goes = all.goes;
        versions = all.have.versions;
        between = now.seen;
        found = all.have.found;
        ends = (all.have.count, all.have.ends, refl);
        pause = subst (λ n. HasPaused 10 n paused pauses) (ten ∙ sym all.have.count) pause;
      }

-- ---- what came of a try, told apart

pub was_made : (result : Result MadeHead HeadFault) (made : MadeHead) → tried_of result ≡ Made made → result ≡ Ok made
was_made (Ok other) made is = cc
was_made (Err (attempt.Step (step.Changed version settings))) made is = absurd cc
was_made (Err (attempt.Step fault)) made is = absurd cc
was_made (Err (attempt.Draft fault)) made is = absurd cc

pub was_changed : (result : Result MadeHead HeadFault) (version : ℕ) → tried_of result ≡ Changed version
    → (settings : ℕ) × (result ≡ Err (attempt.Step (step.Changed version settings)))
was_changed (Ok other) version is = absurd cc
was_changed (Err (attempt.Step (step.Changed other settings))) version is = (settings, cc)
was_changed (Err (attempt.Step fault)) version is = absurd cc
was_changed (Err (attempt.Draft fault)) version is = absurd cc

pub was_refused : (result : Result MadeHead HeadFault) (fault : HeadFault) → tried_of result ≡ Refused fault → IsSettled fault × (result ≡ Err fault)
was_refused (Ok other) fault is = absurd cc
was_refused (Err (attempt.Step (step.Changed version settings))) fault is = absurd cc
was_refused (Err (attempt.Step other)) fault is = let same : attempt.Step other ≡ fault = cc in (subst IsSettled same tt, ap Err same)
was_refused (Err (attempt.Draft other)) fault is = let same : attempt.Draft other ≡ fault = cc in (subst IsSettled same tt, ap Err same)
