-- An upload is served by what its steps tell.
use Rattle.std.proofs.Common.{◌≡◌, ◌≤◌, ℕ, zero, suc, Bool, true, false, not, ◌||◌, List, [], ◌∷◌, ◌++◌, length, drop, refl, ap, sym, ◌∙◌}
use Rattle.std.proofs.Common.{subst, arith}
use Rattle.std.specs.Prelude.{nat_lt, Some, None}
use mathlib.Core.Logic.{inl}
use Rattle.std.proofs.lemmas.List.{append-nil}
use Rattle.std.proofs.lemmas.List.Elements.{All-nil, All-cons}
use Rattle.lake_model.specs.declared.fault.StepFault.TheVariants as step
use Rattle.lake_model.specs.declared.history.HistoryEntry.{HistoryEntry}
use Rattle.lake_model.specs.declared.history.Operation.{Operation}
use Rattle.lake_model.specs.declared.history.Operation.TheVariants.{TicketDrop}
use Rattle.lake_model.specs.State.{State}
use Rattle.lake_model.specs.History.{accepted_entry, after, replay}
use Rattle.lake_model.specs.Refusals.{Causes, cause_if, causes_of_change, first_cause, no_causes}
use Rattle.lake_model.specs.Steps.{write_causes}
use Rattle.lake_model.specs.Versions.{VersionsGiven, branch_version, count_versions}
use Rattle.lake_laws.specs.VersionGivers.{AreOthersBetween, EachFoundAnother, Try, count_of, entries_of_tries, gives_branch, of_other_seat}
use Rattle.lake_laws.specs.OtherSeats.{AreOfOtherSeats}
use Rattle.lake_laws.proofs.GiverLemmas.{branch_left, count_append, tries_given_by_others, versions_append}
use Rattle.call_placement.specs.Rules.{Caller}
use Rattle.call_placement.specs.Points.{replay as along, Came, HavePassed}
use Rattle.call_placement.specs.Served.{IsOfFault, ByState, ByCause, ByMemory, OwesNothing, GivenUp, Shut, Keeps}
use Rattle.call_placement.specs.Served.{Ends, Done, Stopped, Faulted, Broken, IsServed}
use Rattle.call_placement.proofs.WalkLemmas.{nothing_came, came_on, further, drop_front, one_point_more}
use Rattle.lake_calls.specs.Calls.{UploadCall}
use Rattle.lake_calls.specs.CallExceptions.{CallMet, ByBranch, HasTriedEnough}
use Rattle.lake_calls.specs.CallRefusals.{IsClashOf, PointPasses, StepRefused, step_causes}
use Rattle.lake_calls.specs.Courses.{CallPoint, Fixed, Looks, Makes, nothing_fixed}
use Rattle.lake_calls.specs.LakeRules.{by_caller, is_closed, lake_rules}
use Rattle.lake_calls.specs.declared.reply.CallReply.{CallReply}
use Rattle.lake_calls.specs.declared.reply.CallReply.TheVariants as reply
use Rattle.lake_calls.specs.declared.reply.Refusal.TheVariants as refusal
use Rattle.law_examples.specs.UploadSteps.{Failed, FoundStopped, GaveBack, Looked, NothingRefuses, StagedBody, TookNumber, Tried}
use Rattle.law_examples.specs.UploadSteps.{asked, met_tries, staging, taking, upload_call, uploaded}

-- the rules' replay is the lake's
pub same_replay : (state : State) (entries : List HistoryEntry) → along lake_rules state entries ≡ replay state entries
same_replay state [] = refl
same_replay state (entry ∷ entries) = same_replay (after state entry) entries

-- what holds of the lake's holds of the rules'
pub moved : (P : State → Type 0) (state : State) (entries : List HistoryEntry) → P (replay state entries) → P (along lake_rules state entries)
moved P state entries = subst P (sym (same_replay state entries))

-- ---- a lake that takes no more changes

-- a lake that is stopped is closed, and refuses a write first for that
closed_of : (s : State) → s.stopped ≡ true → is_closed s ≡ true
closed_of s is = ap (λ b. b || not (nat_lt s.entries 4194304)) is

abbrev Stops : Causes → Bool → Type 0
Stops c stopped = first_cause (record c { stopped = cause_if stopped step.Stopped }) ≡ Some step.Stopped

pub stops_first : (s : State) (repo branch : List ℕ) → s.stopped ≡ true → first_cause (write_causes s repo branch) ≡ Some step.Stopped
stops_first s repo branch is = subst (Stops (write_causes s repo branch)) (sym is) refl

-- where nothing refuses a change it is open
open_by : (stopped room : Bool)
    → first_cause (record no_causes { stopped = cause_if stopped step.Stopped; full = cause_if (not room) step.HistoryFull }) ≡ None
    → (stopped || not room) ≡ false
open_by true room is = absurd cc
open_by false true is = refl
open_by false false is = absurd cc

pub open_of : (s : State) → first_cause (causes_of_change s) ≡ None → is_closed s ≡ false
open_of s is = open_by s.stopped (nat_lt s.entries 4194304) is

-- ---- tries

module _ (given : VersionsGiven) (by : Caller) (u : UploadCall) where
  -- tries that added nothing are others' entries that came
  pub tried_came : (tries : ℕ) (seen found : List HistoryEntry) → Tried given by u tries seen found → Came lake_rules by seen found
  tried_came zero seen found is = subst (λ w. Came lake_rules by seen w) (sym is) (nothing_came lake_rules by seen)
  tried_came (suc tries) seen found tried =
      came_on lake_rules by seen tried.0 found tried.1
      (came_on lake_rules by tried.0 tried.2 found tried.3 (tried_came tries tried.2 found tried.5))

  -- they are tries as the law of tries has them
  abbrev tries_of : (tries : ℕ) (seen found : List HistoryEntry) → Tried given by u tries seen found → List Try
  tries_of zero seen found is = []
  tries_of (suc tries) seen found tried =
      record { before = tried.1.0; between = tried.3.0 } ∷ tries_of tries tried.2 found tried.5

  as_many : (tries : ℕ) (seen found : List HistoryEntry) (tried : Tried given by u tries seen found)
      → length (tries_of tries seen found tried) ≡ tries
  as_many zero seen found is = refl
  as_many (suc tries) seen found tried = ap suc (as_many tries tried.2 found tried.5)

  all_entries : (tries : ℕ) (seen found : List HistoryEntry) (tried : Tried given by u tries seen found)
      → found ≡ seen ++ entries_of_tries (tries_of tries seen found tried)
  all_entries zero seen found is = is ∙ sym (append-nil seen)
  all_entries (suc tries) seen found tried =
      let rest = entries_of_tries (tries_of tries tried.2 found tried.5) in
      further seen tried.0 tried.1.0 (tried.3.0 ++ rest) found
      (further tried.0 tried.2 tried.3.0 rest found (all_entries tries tried.2 found tried.5) tried.3.2) tried.1.2

  others_between : (tries : ℕ) (seen found : List HistoryEntry) (tried : Tried given by u tries seen found)
      → AreOthersBetween by.seat (tries_of tries seen found tried)
  others_between zero seen found is = All-nil _
  others_between (suc tries) seen found tried =
      All-cons (λ (one : Try). AreOfOtherSeats by.seat one.between) _ _ tried.3.1 (others_between tries tried.2 found tried.5)

  abbrev version : VersionsGiven → ℕ
  version versions = branch_version versions u.repo u.branch

  -- the versions behind more entries
  on : (from : VersionsGiven) (seen more next : List HistoryEntry) → from ≡ count_versions given seen → next ≡ seen ++ more
      → count_versions from more ≡ count_versions given next
  on from seen more next is next_is =
      ap (λ v. count_versions v more) is ∙ sym (versions_append given seen more) ∙ ap (count_versions given) (sym next_is)

  found_another : (tries : ℕ) (seen found : List HistoryEntry) (tried : Tried given by u tries seen found) (from : VersionsGiven)
      → from ≡ count_versions given seen → EachFoundAnother version from (tries_of tries seen found tried)
  found_another zero seen found is from from_is = tt
  found_another (suc tries) seen found tried from from_is =
      let read = on from seen tried.1.0 tried.0 from_is tried.1.2 in
      let stepped = on (count_versions from tried.1.0) tried.0 tried.3.0 tried.2 read tried.3.2 in (
        (λ same. tried.4 (ap version (sym stepped) ∙ same ∙ ap version read)),
        found_another tries tried.2 found tried.5 (count_versions (count_versions from tried.1.0) tried.3.0) stepped,
      )

  -- others gave the branch as many versions
  abbrev counted : HistoryEntry → Bool
  counted = of_other_seat by.seat (gives_branch u.repo u.branch)

  pub given_by_others : (tries : ℕ) (before taken added found : List HistoryEntry) → taken ≡ before ++ added → Tried given by u tries taken found
      → tries ≤ count_of counted (drop (length before) found)
  given_by_others tries before taken added found front tried =
      let these = tries_of tries taken found tried in
      let many = as_many tries taken found tried in
      let some = tries_given_by_others version (gives_branch u.repo u.branch) (branch_left u.repo u.branch) (count_versions given taken) these by.seat
      (others_between tries taken found tried) (found_another tries taken found tried (count_versions given taken) refl) in
      let behind : found ≡ before ++ (added ++ entries_of_tries these) =
      further before taken added (entries_of_tries these) found (all_entries tries taken found tried) front in
      let dropped = ap (count_of counted) (drop_front before (added ++ entries_of_tries these) found behind) in
      let sum = count_append counted added (entries_of_tries these) in
      omega (arith, many, some, dropped, sum)

-- ---- an upload's course

module _ (opened : State) (by : Caller) (u : UploadCall) (moment : ℕ) where
  -- what fixes this number
  abbrev pub fixing : ℕ → Fixed
  fixing number = record nothing_fixed { number = number }

  abbrev pub to_take : ℕ → CallPoint
  to_take number = Makes (taking u number)

  abbrev pub to_look : CallPoint
  to_look = Looks u.repo u.branch

  abbrev pub to_stage : ℕ → CallPoint
  to_stage number = Makes (staging u moment number)

  abbrev pub whole_course : ℕ → List CallPoint
  whole_course number = to_take number ∷ to_look ∷ to_stage number ∷ []

  take_passes : (number : ℕ) (found : List HistoryEntry) → NothingRefuses opened u (taking u number) found → number ≡ (replay opened found).next_number
      → PointPasses (upload_call u) (to_take number) (along lake_rules opened found)
  take_passes number found none next = moved (PointPasses (upload_call u) (to_take number)) opened found
      (record { none = none; no_clash = refl; worth = tt; fixes = next })

  stage_passes : (number : ℕ) (found : List HistoryEntry) → NothingRefuses opened u (staging u moment number) found
      → PointPasses (upload_call u) (to_stage number) (along lake_rules opened found)
  stage_passes number found none = moved (PointPasses (upload_call u) (to_stage number)) opened found
      (record { none = none; no_clash = refl; worth = tt; fixes = tt })

  -- its number was taken
  taken_passed : (before taken : List HistoryEntry) (number : ℕ) → TookNumber opened by u before taken number
      → HavePassed lake_rules opened by (asked (upload_call u) moment) (to_take number ∷ []) before taken
  taken_passed before taken number took =
      (taken, (took.0.0, took.0.1, take_passes number took.0.0 took.0.2 took.1, took.0.3), refl)

  -- and the branch was found
  looked : (before taken seen read : List HistoryEntry) (number : ℕ) → TookNumber opened by u before taken number → Came lake_rules by taken seen
      → Looked opened by u seen read
      → HavePassed lake_rules opened by (asked (upload_call u) moment) (to_take number ∷ to_look ∷ []) before read
  looked before taken seen read number took came found = (
    taken,
    (took.0.0, took.0.1, take_passes number took.0.0 took.0.2 took.1, took.0.3),
    (
      read,
      (
        read,
        came_on lake_rules by taken seen read came found.0,
        moved (PointPasses (upload_call u) to_look) opened read found.1,
        sym (append-nil read),
      ),
      refl,
    ),
  )

  -- an upload that ended so, behind these points
  served : (number : ℕ) (met : CallMet) (before seen after : List HistoryEntry) (passed left : List CallPoint) (told : CallReply) (position next_edge : ℕ)
      → whole_course number ≡ passed ++ left → HavePassed lake_rules opened by (asked (upload_call u) moment) passed before seen
      → Ends lake_rules opened by (asked (upload_call u) moment) met (length before) (whole_course number) passed left seen told position next_edge after
      → IsServed lake_rules opened by before after (asked (upload_call u) moment) met told position next_edge
  served number met before seen after passed left told position next_edge course points ends = record {
    fixed = fixing number;
    passed = passed;
    left = left;
    course = course;
    seen = seen;
    points = points;
    next = after;
    ended = ends;
    later = [];
    apart = All-nil _;
    whole = sym (append-nil after);
  }

  -- ---- tries

  pub staged : (given : VersionsGiven) (before taken found after : List HistoryEntry) (number tries : ℕ)
      → TookNumber opened by u before taken number → Tried given by u tries taken found → StagedBody opened by u moment number found after
      → IsServed lake_rules opened by before after (asked (upload_call u) moment) (met_tries tries) (uploaded u moment number) (length after) (length after)
  staged given before taken found after number tries took tried body =
      served number (met_tries tries) before body.0 after (to_take number ∷ to_look ∷ []) (to_stage number ∷ []) (uploaded u moment number)
      (length after) (length after) refl
      (looked before taken found body.0 number took (tried_came given by u tries taken found tried) body.1)
      (Done (to_stage number) body.2.0 refl body.2.1 (stage_passes number body.2.0 body.2.2) (fixing number, refl, _, refl, refl) body.2.3 refl refl)

  -- ten tries are too many
  too_many : (given : VersionsGiven) (before taken found : List HistoryEntry) (number : ℕ) → TookNumber opened by u before taken number
      → Tried given by u 10 taken found
      → HasTriedEnough by.seat (to_look ∷ to_stage number ∷ []) (met_tries 10) (length before) found
  too_many given before taken found number took tried =
      let entry = accepted_entry (by_caller by) (taking u number) in
      let behind : taken ≡ before ++ (took.0.1.0 ++ entry ∷ []) = further before took.0.0 took.0.1.0 (entry ∷ []) taken took.0.3 took.0.1.2 in
      record {
        guard = ByBranch u.repo u.branch;
        guarded = refl;
        ten = refl;
        entries = given_by_others given by u 10 before taken (took.0.1.0 ++ entry ∷ []) found behind tried;
      }

  pub gave_up : (given : VersionsGiven) (before taken found after : List HistoryEntry) (number : ℕ)
      → TookNumber opened by u before taken number → Tried given by u 10 taken found → GaveBack opened by u number found after
      → IsServed lake_rules opened by before after (asked (upload_call u) moment) (met_tries 10) (reply.Refused refusal.TooManyTries)
      (length found) (length after)
  gave_up given before taken found after number took tried gave =
      served number (met_tries 10) before taken after (to_take number ∷ []) (to_look ∷ to_stage number ∷ []) (reply.Refused refusal.TooManyTries)
      (length found) (length after) refl
      (taken_passed before taken number took)
      (Stopped found (tried_came given by u 10 taken found tried)
      (ByCause (λ none. absurd (cc (none))) (inl (too_many given before taken found number took tried, refl))) refl
      (GivenUp (TicketDrop number) gave.0 refl gave.1 (moved (λ s. is_closed s ≡ false) opened gave.0 (open_of (replay opened gave.0) gave.2)) gave.3 refl))

  -- ---- faults

  pub fault_ticket : (before after : List HistoryEntry) (number : ℕ) (met : CallMet) (told : CallReply)
      → (note : Failed opened by u (taking u number) before after) → number ≡ (replay opened note.0).next_number → IsOfFault lake_rules met told
      → IsServed lake_rules opened by before after (asked (upload_call u) moment) met told (length after) (length after)
  fault_ticket before after number met told note next says =
      served number met before before after [] (whole_course number) told (length after) (length after) refl refl
      (Faulted (to_take number) (to_look ∷ to_stage number ∷ []) (taking u number) note.0 refl refl note.1
      (take_passes number note.0 note.2 next) says note.3 refl refl)

  pub fault_stage : (given : VersionsGiven) (before taken found read after : List HistoryEntry) (number tries : ℕ) (met : CallMet) (told : CallReply)
      → TookNumber opened by u before taken number → Tried given by u tries taken found → Looked opened by u found read
      → Failed opened by u (staging u moment number) read after → IsOfFault lake_rules met told
      → IsServed lake_rules opened by before after (asked (upload_call u) moment) met told (length after) (length after)
  fault_stage given before taken found read after number tries met told took tried look note says =
      served number met before read after (to_take number ∷ to_look ∷ []) (to_stage number ∷ []) told (length after) (length after) refl
      (looked before taken found read number took (tried_came given by u tries taken found tried) look)
      (Faulted (to_stage number) [] (staging u moment number) note.0 refl refl note.1 (stage_passes number note.0 note.2) says note.3 refl refl)

  pub fault_giving_up : (given : VersionsGiven) (before taken found after : List HistoryEntry) (number tries : ℕ) (met : CallMet) (told : CallReply)
      → TookNumber opened by u before taken number → Tried given by u tries taken found
      → Failed opened by u (TicketDrop number) found after → IsOfFault lake_rules met told
      → IsServed lake_rules opened by before after (asked (upload_call u) moment) met told (length after) (length after)
  fault_giving_up given before taken found after number tries met told took tried note says =
      served number met before taken after (to_take number ∷ []) (to_look ∷ to_stage number ∷ []) told (length after) (length after) refl
      (taken_passed before taken number took)
      (Broken reply.NoMemory (TicketDrop number) found note.0 (tried_came given by u tries taken found tried) (ByMemory refl) refl note.1
      (moved (λ s. is_closed s ≡ false) opened note.0 (open_of (replay opened note.0) note.2)) says note.3 refl refl)

  -- ---- refusals

  is_refused : (operation : Operation) (found : List HistoryEntry)
      → first_cause (step_causes (replay opened found) (upload_call u) operation None) ≡ Some step.Stopped → ((s : State) → IsClashOf s operation None)
      → StepRefused (along lake_rules opened found) (upload_call u) operation (reply.Refused refusal.Stopped)
  is_refused operation found first plain = moved (λ s. StepRefused s (upload_call u) operation (reply.Refused refusal.Stopped)) opened found
      (record { clash = None; is_clash = plain (replay opened found); fault = step.Stopped; first = first; told_so = (refusal.Stopped, refl, refl) })

  shut_at : (found : List HistoryEntry) → (replay opened found).stopped ≡ true → is_closed (along lake_rules opened found) ≡ true
  shut_at found is = moved (λ s. is_closed s ≡ true) opened found (closed_of (replay opened found) is)

  pub ends_early : (before found : List HistoryEntry) (met : CallMet) → FoundStopped opened by before found
      → IsServed lake_rules opened by before found (asked (upload_call u) moment) met (reply.Refused refusal.Stopped) (length found) (length found)
  ends_early before found met stop =
      served 0 met before before found [] (whole_course 0) (reply.Refused refusal.Stopped) (length found) (length found) refl refl
      (Stopped found stop.0
      (ByState (to_take 0) (to_look ∷ to_stage 0 ∷ []) refl
      (is_refused (taking u 0) found (stops_first (replay opened found) u.repo u.branch stop.1) (λ s. refl))) refl
      (OwesNothing refl refl refl))

  pub ends_late : (given : VersionsGiven) (before taken tried read found : List HistoryEntry) (number tries : ℕ) (met : CallMet)
      → TookNumber opened by u before taken number → Tried given by u tries taken tried → Looked opened by u tried read → FoundStopped opened by read found
      → IsServed lake_rules opened by before found (asked (upload_call u) moment) met (reply.Refused refusal.Stopped) (length found) (length found)
  ends_late given before taken tried read found number tries met took these look stop =
      served number met before read found (to_take number ∷ to_look ∷ []) (to_stage number ∷ []) (reply.Refused refusal.Stopped)
      (length found) (length found) refl
      (looked before taken tried read number took (tried_came given by u tries taken tried these) look)
      (Stopped found stop.0
      (ByState (to_stage number) [] refl
      (is_refused (staging u moment number) found (stops_first (replay opened found) u.repo u.branch stop.1) (λ s. refl))) refl
      (Shut (nothing_came lake_rules by found) (shut_at found stop.1) refl))

  -- ---- want of memory

  pub ends_memory : (before : List HistoryEntry) (met : CallMet)
      → IsServed lake_rules opened by before before (asked (upload_call u) moment) met reply.NoMemory (length before) (length before)
  ends_memory before met =
      served 0 met before before before [] (whole_course 0) reply.NoMemory (length before) (length before) refl refl
      (Stopped before (nothing_came lake_rules by before) (ByMemory refl) refl (OwesNothing refl refl refl))

  pub ends_kept : (before taken : List HistoryEntry) (number : ℕ) (met : CallMet) → TookNumber opened by u before taken number
      → IsServed lake_rules opened by before taken (asked (upload_call u) moment) met reply.NoMemory (length taken) (length taken)
  ends_kept before taken number met took =
      served number met before taken taken (to_take number ∷ []) (to_look ∷ to_stage number ∷ []) reply.NoMemory (length taken) (length taken) refl
      (taken_passed before taken number took)
      (Stopped taken (nothing_came lake_rules by taken) (ByMemory refl) refl (Keeps refl refl refl))

  pub ends_gave : (before taken after : List HistoryEntry) (number : ℕ) (met : CallMet)
      → TookNumber opened by u before taken number → GaveBack opened by u number taken after
      → IsServed lake_rules opened by before after (asked (upload_call u) moment) met reply.NoMemory (length taken) (length after)
  ends_gave before taken after number met took gave =
      served number met before taken after (to_take number ∷ []) (to_look ∷ to_stage number ∷ []) reply.NoMemory (length taken) (length after) refl
      (taken_passed before taken number took)
      (Stopped taken (nothing_came lake_rules by taken) (ByMemory refl) refl
      (GivenUp (TicketDrop number) gave.0 refl gave.1 (moved (λ s. is_closed s ≡ false) opened gave.0 (open_of (replay opened gave.0) gave.2)) gave.3 refl))

  pub ends_printing : (before taken after : List HistoryEntry) (number : ℕ) (met : CallMet)
      → TookNumber opened by u before taken number → StagedBody opened by u moment number taken after
      → IsServed lake_rules opened by before after (asked (upload_call u) moment) met reply.NoMemory (length after) (length after)
  ends_printing before taken after number met took body =
      served number met before after after (whole_course number) [] reply.NoMemory (length after) (length after) refl
      (one_point_more lake_rules opened by (asked (upload_call u) moment) (to_take number ∷ to_look ∷ []) (to_stage number) before body.0 after
      (looked before taken taken body.0 number took (nothing_came lake_rules by taken) body.1)
      (body.2.0, body.2.1, stage_passes number body.2.0 body.2.2, body.2.3))
      (Stopped after (nothing_came lake_rules by after) (ByMemory refl) refl (OwesNothing refl refl refl))
