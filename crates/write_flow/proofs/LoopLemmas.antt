-- Tries of a guarded change, one after the other.
use Rattle.std.proofs.Common.{◌≡◌, ◌≢◌, ◌≤◌, ◌+◌, ◌<◌, ℕ, List, ◌++◌, length, drop, Option, Result, Ok, Err, refl, sym, ap}
use Rattle.std.proofs.Common.{subst, ◌∙◌}
use Rattle.std.proofs.Common.{inl, inr, arith}
use Rattle.std.specs.Prelude.{◌==◌, Bool, IfSome, if◌then◌else◌}
use Rattle.lake_values.specs.Entry.{EntryValue}
use Rattle.lake_model.specs.declared.fault.StepFault.{StepFault}
use Rattle.lake_model.specs.declared.fault.StepFault.TheVariants as step
use Rattle.lake_model.specs.declared.history.HistoryEntry.{HistoryEntry}
use Rattle.lake_model.specs.Versions.{VersionsGiven, branch_version}
use Rattle.core_state.specs.Counts.{versions_of}
use Rattle.core_state.specs.LakeStates.{lake_value}
use Rattle.lake_laws.specs.VersionGivers.{count_of, gives_branch, of_other_seat}
use Rattle.lake_laws.proofs.GiverLemmas.{branch_left, count_append, count_others, given_between}
use Rattle.lake_core.specs.declared.standing.LakeOrigin.{LakeOrigin}
use Rattle.lake_model.specs.Uncommitted.{HasTicket}
use Rattle.core_puts.specs.KeeperViews.{KeeperView}
use Rattle.lake_core.specs.Lakes.{LakeValue, state}
use Rattle.shared_lake.specs.SeatSteps.{Finds, LakeSeat}
use Rattle.call_placement.specs.Rules.{Caller}
use Rattle.call_placement.specs.Points.{Came}
use Rattle.call_placement.specs.Sessions.{caller}
use Rattle.call_placement.proofs.WalkLemmas.{came_on, drop_front, further}
use Rattle.lake_calls.specs.LakeRules.{lake_rules}
use Rattle.flow_steps.specs.FlowSeats.{given_at}
use Rattle.flow_steps.specs.FlowTries.{FoundVersion, Guarded, HasTried, IsRefused, Steps, TryEnds}
use Rattle.flow_steps.specs.Retries.{FoundInTurn, HasPaused}
use Rattle.flow_steps.proofs.RetryLemmas.{LastBehind, UnderWay, came_in_turn, changed_behind, finds_then, given_in_turn, last_behind, same_number, ten_tried}
use Rattle.flow_steps.proofs.VersionCauseLemmas.{IsUnversioned}
use Rattle.write_flow.specs.declared.answer.FlowFault.{FlowFault}
use Rattle.write_flow.specs.declared.answer.FlowFault.TheVariants.{Step, TooManyTries, NoPath, NoMemory}
use Rattle.write_flow.specs.FlowFaults.{fault_of_step}
use Rattle.write_flow.specs.declared.tries.Tried.TheVariants.{Told, Changed as FoundAnother, Refused}
use Rattle.write_flow.specs.WriteTries.{HaveTried, LastAnswers, TriesEnd, guarded_of, tried_of}
use Rattle.write_flow.specs.declared.tries.What.{What}
use Rattle.write_flow.specs.declared.tries.What.TheVariants.{Change as WhatChange, Copy as WhatCopy}

-- ---- a try behind entries that came

module _ (origin : LakeOrigin) (by : Caller) (guarded : Guarded) (from now : List HistoryEntry) (came : Came lake_rules by from now) where
  before_read : (read : List HistoryEntry) → Came lake_rules by now read → Came lake_rules by from read
  before_read read more = came_on lake_rules by from now read came more

  steps_before : (told : Option EntryValue) (operation : _) (found : List HistoryEntry) → Steps origin by guarded told operation now found
      → Steps origin by guarded told operation from found
  steps_before told operation found steps = record {
    read = steps.read;
    to_reading = before_read steps.read steps.to_reading;
    early = steps.early;
    to_step = steps.to_step;
    late = steps.late;
    makes = steps.makes;
    same = steps.same;
  }

  refused_before : (fault : StepFault) (next : List HistoryEntry) → IsRefused origin by guarded fault now next → IsRefused origin by guarded fault from next
  refused_before fault next is = elim is [
    | inl early ↦ inl (before_read next early.0, early.1)
    | inr late ↦ inr (late.0, before_read late.0 late.1, late.2, late.3, late.4)
  ]

  -- so it ended, from where they came on
  pub ends_before : (result : Result (Option EntryValue) StepFault) (next : List HistoryEntry) → TryEnds origin by guarded result now next
      → TryEnds origin by guarded result from next
  ends_before (Ok told) next ends = (ends.0, ends.1, steps_before told ends.0 ends.1 ends.2, ends.3)
  ends_before (Err step.StoreFault) next ends = (ends.0, ends.1, ends.2, steps_before ends.0 ends.1 ends.2 ends.3, ends.4)
  ends_before (Err step.NoMemory) next ends = before_read next ends
  ends_before (Err (step.Changed version settings)) next ends = (ends.0, before_read ends.0 ends.1, ends.2, ends.3, ends.4, ends.5, ends.6)
  ends_before (Err fault) next ends = refused_before fault next ends

-- ---- tries that found another version

-- the versions that tries of a guarded change find
abbrev pub Found : Guarded → LakeOrigin → Caller → ℕ → List HistoryEntry → List HistoryEntry → Type 0
Found guarded origin by version from next = FoundVersion origin by guarded version from next

pub came_by : (guarded : Guarded) (origin : LakeOrigin) (by : Caller) (version : ℕ) (from next : List HistoryEntry) → Found guarded origin by version from next
    → Came lake_rules by from next
came_by guarded origin by version from next found = came_on lake_rules by from found.0 next found.1 found.2

module _ (origin : LakeOrigin) (by : Caller) (guarded : Guarded) (repo branch : List ℕ)
    (guards : (given : VersionsGiven) → guarded.version given ≡ branch_version given repo branch) where
  abbrev counted : HistoryEntry → Bool
  counted = of_other_seat by.seat (gives_branch repo branch)

  -- a try that found another version is one entry of others more that gave it
  one_more : (version : ℕ) (from next : List HistoryEntry) → FoundVersion origin by guarded version from next
      → (more : List HistoryEntry) × (next ≡ from ++ more) × (1 ≤ count_of counted more)
  one_more version from next found =
      let to_read = found.1 in
      let to_step = found.2 in
      let differ : branch_version (given_at origin next) repo branch ≢ branch_version (given_at origin found.0) repo branch =
      λ same. found.3 (guards (given_at origin next) ∙ same ∙ sym (guards (given_at origin found.0))) in
      let some = given_between (λ given. branch_version given repo branch) (gives_branch repo branch) (branch_left repo branch)
      (versions_of (lake_value origin.opened)) next found.0 to_step.0 to_step.2 differ in
      let others = count_others by.seat (gives_branch repo branch) to_step.0 to_step.1 in
      let sum = count_append counted to_read.0 to_step.0 in (
        to_read.0 ++ to_step.0,
        further from found.0 to_read.0 to_step.0 next to_step.2 to_read.2,
        omega (arith, some, others, sum),
      )

  -- ten tries found another version: only others' entries came, ten of which at least gave the branch one
  pub record HaveChanged (from next : List HistoryEntry) : Type 0 where
    pub came : Came lake_rules by from next
    pub given : 10 ≤ count_of counted (drop (length from) next)

  ten_changed : (versions : List ℕ) (from next : List HistoryEntry) → FoundInTurn (FoundVersion origin by guarded) versions from next → length versions ≡ 10
      → HaveChanged from next
  ten_changed versions from next found ten =
      let given = given_in_turn (FoundVersion origin by guarded) counted one_more versions from next found in
      let behind = ap (count_of counted) (drop_front from given.0 next given.1) in
      record {
        came = came_in_turn (FoundVersion origin by guarded) by (came_by guarded origin by) versions from next found;
        given = omega (arith, given.2, ten, behind);
      }

  -- how tries ended, from where they began
  abbrev pub AllEnd : Result (Option EntryValue) FlowFault → (from next : List HistoryEntry) → Type 0
  AllEnd (Err (TooManyTries first last)) from next = HaveChanged from next
  AllEnd result from next = LastAnswers origin by guarded result from next

  pub ends_of : (versions : List ℕ) (result : Result (Option EntryValue) FlowFault) (from between next : List HistoryEntry)
      → FoundInTurn (FoundVersion origin by guarded) versions from between → TriesEnd origin by guarded versions result between next → AllEnd result from next
  ends_of versions result from between next found ends =
      by_result result (came_in_turn (FoundVersion origin by guarded) by (came_by guarded origin by) versions from between found) ends
    where
      by_result : (result : Result (Option EntryValue) FlowFault) → Came lake_rules by from between → TriesEnd origin by guarded versions result between next
          → AllEnd result from next
      by_result (Ok told) came ends = ends_before origin by guarded from between came (Ok told) next ends.1
      by_result (Err (TooManyTries first last)) came ends = subst (HaveChanged from) (sym ends.2) (ten_changed versions from between found ends.0)
      by_result (Err NoPath) came ends = ends_before origin by guarded from between came (Err step.NoPath) next ends.1
      by_result (Err NoMemory) came ends = ends_before origin by guarded from between came (Err step.NoMemory) next ends.1
      by_result (Err (Step (step.Changed version settings))) came ends = absurd ends.1
      by_result (Err (Step step.NoPath)) came ends = absurd ends.1
      by_result (Err (Step step.NoMemory)) came ends = absurd ends.1
      by_result (Err (Step fault)) came ends = ends_before origin by guarded from between came (Err fault) next ends.1
      by_result (Err fault) came ends = absurd ends.1

-- ---- the loop

-- a try's end, which found no other version, is how the tries end
as_tries : (origin : LakeOrigin) (by : Caller) (guarded : Guarded) (versions : List ℕ) (fault : StepFault) (from next : List HistoryEntry)
    → length versions < 10 → IsUnversioned fault → TryEnds origin by guarded (Err fault) from next
    → TriesEnd origin by guarded versions (Err (fault_of_step fault)) from next
as_tries origin by guarded versions step.NoPath from next few u ends = (few, ends)
as_tries origin by guarded versions step.NoMemory from next few u ends = (few, ends)
as_tries origin by guarded versions (step.Changed version settings) from next few u ends = absurd u
as_tries origin by guarded versions fault from next few u ends = (few, ends)

module _ (guarded : Guarded) (call changed first last : ℕ) (old now : LakeSeat) (way : UnderWay (Found guarded) call changed first last old now)
    (paused : Option ℕ) where
  abbrev Ended : Result (Option EntryValue) StepFault → LakeOrigin → Caller → List HistoryEntry → List HistoryEntry → Type 0
  Ended result origin by from next = TryEnds origin by guarded result from next

  behind : (result : Result (Option EntryValue) StepFault) (next : LakeSeat) → HasTried guarded call now next result
      → LastBehind (Found guarded) call (Ended result) changed old next
  behind result next tried =
      last_behind (Found guarded) call changed first last old now (Ended result) tried.origin next way tried.goes tried.ends

  -- the entry is told
  pub told_behind : (told : Option EntryValue) (next : LakeSeat) (pauses : Option ℕ) → changed < 10 → HasPaused 10 changed paused pauses
      → HasTried guarded call now next (Ok told) → HaveTried guarded call old next paused pauses (Ok told)
  told_behind told next pauses few pause tried =
      let all = behind (Ok told) next tried in
      record {
        origin = all.origin;
        goes = all.goes;
        versions = all.versions;
        between = all.between;
        found = all.found;
        ends = (subst (λ n. n < 10) (sym all.count) few, all.last);
        pause = subst (λ n. HasPaused 10 n paused pauses) (sym all.count) pause;
      }

  -- the refusal is
  pub refused_behind : (fault : StepFault) (next : LakeSeat) (pauses : Option ℕ) → changed < 10 → HasPaused 10 changed paused pauses → IsUnversioned fault
      → HasTried guarded call now next (Err fault) → HaveTried guarded call old next paused pauses (Err (fault_of_step fault))
  refused_behind fault next pauses few pause unversioned tried =
      let all = behind (Err fault) next tried in
      record {
        origin = all.origin;
        goes = all.goes;
        versions = all.versions;
        between = all.between;
        found = all.found;
        ends = as_tries all.origin (caller old.number call) guarded all.versions fault all.between next.seen (subst (λ n. n < 10) (sym all.count) few)
            unversioned all.last;
        pause = subst (λ n. HasPaused 10 n paused pauses) (sym all.count) pause;
      }

  -- another version was found, once more
  pub version_behind : (version settings : ℕ) (next : LakeSeat) → HasTried guarded call now next (Err (step.Changed version settings))
      → UnderWay (Found guarded) call (changed + 1) (if changed == 0 then version else first) version old next
  version_behind version settings next tried =
      changed_behind (Found guarded) call changed first last old now version tried.origin next way tried.goes tried.ends

  -- ten tries are all
  pub all_changed : (pauses : Option ℕ) → changed ≡ 10 → HasPaused 10 changed paused pauses
      → HaveTried guarded call old now paused pauses (Err (TooManyTries first last))
  all_changed pauses ten pause =
      let all = ten_tried (Found guarded) call changed first last old now ten way in
      record {
        origin = all.origin;
        goes = all.goes;
        versions = all.have.versions;
        between = now.seen;
        found = all.have.found;
        ends = (all.have.count, all.have.ends, refl);
        pause = subst (λ n. HasPaused 10 n paused pauses) (ten ∙ sym all.have.count) pause;
      }

  -- so its ticket is there still
  pub ticket_then : {K : Type 0} (view : KeeperView K) (number : Option ℕ)
      → ((found : LakeValue K) → Finds view old found → IfSome number (HasTicket (state found) old.number))
      → (found : LakeValue K) → Finds view now found → IfSome number (HasTicket (state found) now.number)
  ticket_then view number ticket found finds =
      subst (λ n. IfSome number (HasTicket (state found) n)) (sym (same_number (Found guarded) call changed first last old now way))
      (ticket found (finds_then (Found guarded) call changed first last old now view (came_by guarded) way found finds))

-- ---- what came of a try, told apart

pub was_told : (result : Result (Option EntryValue) StepFault) (copied : Option EntryValue) → tried_of result ≡ Told copied → result ≡ Ok copied
was_told (Ok other) copied is = cc
was_told (Err (step.Changed version settings)) copied is = absurd cc
was_told (Err fault) copied is = absurd cc

pub was_changed : (result : Result (Option EntryValue) StepFault) (version : ℕ) → tried_of result ≡ FoundAnother version
    → (settings : ℕ) × (result ≡ Err (step.Changed version settings))
was_changed (Ok other) version is = absurd cc
was_changed (Err (step.Changed other settings)) version is = (settings, cc)
was_changed (Err fault) version is = absurd cc

pub was_refused : (result : Result (Option EntryValue) StepFault) (fault : StepFault) → tried_of result ≡ Refused fault
    → IsUnversioned fault × (result ≡ Err fault)
was_refused (Ok other) fault is = absurd cc
was_refused (Err (step.Changed version settings)) fault is = absurd cc
was_refused (Err other) fault is = let same : other ≡ fault = cc in (subst IsUnversioned same tt, ap Err same)

-- what is made at a path is guarded by its branch's version
pub guards_of : (what : What) (repo branch path : List ℕ) (given : VersionsGiven)
    → (guarded_of repo branch path what).version given ≡ branch_version given repo branch
guards_of (WhatChange change) repo branch path given = refl
guards_of (WhatCopy e from) repo branch path given = refl
