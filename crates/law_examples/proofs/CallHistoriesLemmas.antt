-- Where the histories of two seats lead, and how a call is served in them.
use Rattle.std.proofs.Common.{◌≡◌, ◌≢◌, ◌<◌, ℕ, true, false, List, [], ◌∷◌, ◌++◌, length, map, refl, sym, ap, subst, ◌∙◌, arith}
use Rattle.std.specs.Prelude.{nat_lt, Some, None}
use Rattle.std.specs.FinMap.{entries as rows, get, insert, empty, remove, get-insert, get-empty, get-remove, len, len-empty, len-entries}
use Rattle.std.specs.Cmp.{nat_cmp_total}
use Rattle.std.specs.Cmp.Lexicographic.{nat_list_cmp_total}
use Rattle.std.proofs.lemmas.List.{append-nil}
use Rattle.std.proofs.lemmas.List.Elements.{All-nil, All-cons}
use Rattle.lake_base.specs.Maps.{ByteMap, byte_order}
use Rattle.lake_values.specs.Commit.{AboutValue}
use Rattle.lake_values.specs.KeyMap.{KeyMapValue, differences}
use Rattle.lake_values.specs.declared.entry.Change.{Change}
use Rattle.lake_values.specs.declared.settings.NoteName.TheVariants as name
use Rattle.lake_values.proofs.KeyMapLemmas.{no_difference, same}
use Rattle.lake_format.specs.declared.cut.Cut.{Cut}
use Rattle.lake_model.specs.declared.fault.HeadRefusal.TheVariants as unmade
use Rattle.lake_model.specs.declared.fault.Reference.TheVariants as reference
use Rattle.lake_model.specs.declared.fault.StepFault.TheVariants as step
use Rattle.lake_model.specs.declared.history.By.{By}
use Rattle.lake_model.specs.declared.history.HistoryEntry.{HistoryEntry}
use Rattle.lake_model.specs.declared.history.Operation.{Operation}
use Rattle.lake_model.specs.declared.history.Operation.TheVariants.{BranchDelete, TicketTake, TicketDrop, Seal, Commit, NoteSet}
use Rattle.lake_model.specs.declared.history.SealFor.TheVariants as seal
use Rattle.lake_model.specs.declared.reply.SwapKind.TheVariants as kind
use Rattle.lake_model.specs.State.{Branch, Repository, State, HasBranch, head_map, sealed_map}
use Rattle.lake_model.specs.Branches.{IsUnprotected, MayEnd, protected_by}
use Rattle.lake_model.specs.HeadRefusals.{Head, first_path, least_difference, reading_refusal}
use Rattle.lake_model.specs.History.{Allows, IsLegal, IsPossible, accepted_entry, after}
use Rattle.lake_model.specs.Refusals.{first_cause, no_causes, with_branch}
use Rattle.lake_model.specs.Soundness.{fresh}
use Rattle.lake_model.specs.Steps.{write_causes}
use Rattle.lake_model.specs.Uncommitted.{after_ticket_take}
use Rattle.lake_model.specs.Versions.{fresh_versions}
use Rattle.call_placement.specs.Rules.{Caller}
use Rattle.call_placement.specs.Points.{AreOfOtherSeats, HavePassed}
use Rattle.call_placement.specs.Served.{ByState, OwesNothing, Ends, Stopped, IsServed}
use Rattle.call_placement.specs.Placed.{ArePlaced}
use Rattle.call_placement.proofs.WalkLemmas.{nothing_came}
use Rattle.lake_calls.specs.CallExceptions.{CallMet, nothing_met}
use Rattle.lake_calls.specs.Courses.{CallPoint, Looks, Makes, Prepares, call_course, nothing_fixed}
use Rattle.lake_calls.specs.LakeRules.{by_caller, lake_rules}
use Rattle.lake_calls.specs.declared.call.Call.{Call}
use Rattle.lake_calls.specs.declared.reply.CallReply.{CallReply}
use Rattle.lake_calls.specs.declared.reply.CallReply.TheVariants as reply
use Rattle.lake_calls.specs.declared.reply.Refusal.TheVariants as refusal
use Rattle.law_examples.specs.HistoryWords.{quickstart, main, IsCommitAdmissible}
use Rattle.law_examples.specs.Merges.{dev, lake_with_dev}
use Rattle.law_examples.specs.RefusedLakes.{ma_protected}
use Rattle.law_examples.specs.TwoSeals.{lake_of_their_commit}
use Rattle.law_examples.specs.UploadSteps.{asked, item_of, staging, taking, upload_call, uploaded}
use Rattle.law_examples.specs.CallHistories.{commit_of_main, delete_of_a, deleted_and_stopped, lake_of_both, numbers_beside, other_call, other_entry}
use Rattle.law_examples.specs.CallHistories.{other_fault, other_seal, own_call, own_entry, own_seal, protected_by_other, put_by_other}
use Rattle.law_examples.specs.CallHistories.{taken_and_dropped, taken_by_other, upload_to_a}
use Rattle.law_examples.proofs.BranchesLemmas.{in_one, spread, with_branches, repo_there}
use Rattle.law_examples.proofs.SceneLemmas.{scene, counted, in_quickstart, main_there, on_main}
use Rattle.law_examples.proofs.EntriesLemmas.{first_repository, first_branch}
use Rattle.law_examples.proofs.LakesLemmas.{main_matches, with_notes}
use Rattle.law_examples.proofs.StaysStagedLemmas.{first_entry, with_a}
use Rattle.law_examples.proofs.TwoSealsLemmas as two
use Rattle.law_examples.proofs.UploadStepsLemmas.{ends_gave, staged, stops_first}

-- ---- the other seat

-- an entry of it is another's
others_more : (entry : HistoryEntry) (later : List HistoryEntry) → entry.by.seat ≡ 1 → AreOfOtherSeats lake_rules 0 later
    → AreOfOtherSeats lake_rules 0 (entry ∷ later)
others_more entry later is others = All-cons (λ e. (lake_rules.maker e).seat ≢ 0) entry later (λ same. absurd (omega (arith, is, same))) others

no_others : AreOfOtherSeats lake_rules 0 []
no_others = All-nil (λ e. (lake_rules.maker e).seat ≢ 0)

-- ---- scenes

module _ (s : State) (r : Repository) (b : Branch) where
  -- nothing refuses a write
  writable : s.stopped ≡ false → nat_lt s.entries 4194304 ≡ true → protected_by r.notes.protection main ≡ None
      → first_cause (write_causes (scene s r b) quickstart main) ≡ None
  writable running room unguarded = simp (running, room, repo_there, main_there, unguarded)

  -- the branch is there
  is_there : first_cause (with_branch (scene s r b) quickstart main no_causes) ≡ None
  is_there = simp (repo_there, main_there)

  may_by : (by : Caller) (operation : Operation) → s.stopped ≡ false → s.entries < 4194304 → IsPossible (scene s r b) by.seat operation
      → Allows (scene s r b) (accepted_entry (by_caller by) operation)
  may_by by operation running room possible = record { running = running; room = room; possible = possible }

-- ---- a call of the seat 0

module _ (opened : State) (before : List HistoryEntry) (call : Call) (moment : ℕ) where
  -- it is served where it ended so, behind these points
  served_so : (passed left : List CallPoint) (seen after : List HistoryEntry) (told : CallReply) (position next_edge : ℕ)
      → call_course call moment nothing_fixed ≡ passed ++ left
      → HavePassed lake_rules opened own_call (asked call moment) passed before seen
      → Ends lake_rules opened own_call (asked call moment) nothing_met (length before) (call_course call moment nothing_fixed) passed left seen told
      position next_edge after
      → IsServed lake_rules opened own_call before after (asked call moment) nothing_met told position next_edge
  served_so passed left seen after told position next_edge course points ends = record {
    fixed = nothing_fixed;
    passed = passed;
    left = left;
    course = course;
    seen = seen;
    points = points;
    next = after;
    ended = ends;
    later = [];
    apart = All-nil _;
    whole = sym (append-nil after);
  }

module _ (cut : Cut) where
  abbrev r0 : Repository
  r0 = first_repository cut

  abbrev b0 : Branch
  b0 = first_branch cut

  -- ---- an upload beside another seat's ticket

  abbrev out_to_other : State
  out_to_other = counted (after_ticket_take 1 0 (fresh cut))

  abbrev out_to_both : State
  out_to_both = counted (after_ticket_take 0 1 out_to_other)

  takes_first : Allows (fresh cut) (other_entry (TicketTake quickstart main 0))
  takes_first = may_by (fresh cut) r0 b0 other_call (TicketTake quickstart main 0) refl (omega arith)
      (on_main (λ r b. IsUnprotected r main) (fresh cut) r0 b0 refl, refl)

  module _ (body : List ℕ) (moment : ℕ) where
    takes_second : Allows (scene out_to_other r0 b0) (own_entry (taking (upload_to_a body) 1))
    takes_second = may_by out_to_other r0 b0 own_call (taking (upload_to_a body) 1) refl (omega arith)
        (on_main (λ r b. IsUnprotected r main) out_to_other r0 b0 refl, refl)

    on_ticket : get out_to_both.tickets 1 ≡ Some 0
    on_ticket = get-insert nat_cmp_total out_to_other.tickets 1 0 1

    puts : Allows (scene out_to_both r0 b0) (own_entry (staging (upload_to_a body) moment 1))
    puts = may_by out_to_both r0 b0 own_call (staging (upload_to_a body) moment 1) refl (omega arith)
        (on_main (λ r b. IsUnprotected r main) out_to_both r0 b0 refl, on_ticket)

    pub beside_legal : IsLegal (fresh cut) (numbers_beside body moment)
    beside_legal = (takes_first, (takes_second, (puts, tt)))

    pub beside_served : IsServed lake_rules (fresh cut) own_call [] (numbers_beside body moment) (asked (upload_call (upload_to_a body)) moment) nothing_met
        (uploaded (upload_to_a body) moment 1) 3 3
    beside_served =
        let others = other_entry (TicketTake quickstart main 0) ∷ [] in
        let first_other = others_more (other_entry (TicketTake quickstart main 0)) [] refl no_others in
        let taken = others ++ own_entry (taking (upload_to_a body) 1) ∷ [] in
        staged (fresh cut) own_call (upload_to_a body) moment fresh_versions [] taken taken (numbers_beside body moment) 1 0
        ((others, (others, first_other, refl), writable out_to_other r0 b0 refl refl refl, refl), refl)
        refl (
          taken,
          (nothing_came lake_rules own_call taken, is_there out_to_both r0 b0),
          (taken, nothing_came lake_rules own_call taken, writable out_to_both r0 b0 refl refl refl, refl),
        )

    -- ---- an upload that gave up

    pub dropped_legal : IsLegal (fresh cut) (taken_and_dropped body)
    dropped_legal = (
      may_by (fresh cut) r0 b0 own_call (taking (upload_to_a body) 0) refl (omega arith) (on_main (λ r b. IsUnprotected r main) (fresh cut) r0 b0 refl, refl),
      (
        may_by (counted (after_ticket_take 0 0 (fresh cut))) r0 b0 own_call (TicketDrop 0) refl (omega arith)
            (get-insert nat_cmp_total (fresh cut).tickets 0 0 0),
        tt,
      ),
    )

    pub dropped_served : IsServed lake_rules (fresh cut) own_call [] (taken_and_dropped body) (asked (upload_call (upload_to_a body)) moment) nothing_met
        reply.NoMemory 1 2
    dropped_served =
        let taken = own_entry (taking (upload_to_a body) 0) ∷ [] in
        ends_gave (fresh cut) own_call (upload_to_a body) moment [] taken (taken_and_dropped body) 0 nothing_met
        (([], nothing_came lake_rules own_call [], writable (fresh cut) r0 b0 refl refl refl, refl), refl)
        (taken, nothing_came lake_rules own_call taken, refl, refl)

  -- ---- a branch that went, and a fault

  abbrev with_dev : ByteMap Branch
  with_dev = insert (insert empty main b0) dev b0

  abbrev without_dev : ByteMap Branch
  without_dev = remove with_dev dev

  begun : lake_with_dev cut ≡ spread (counted (fresh cut)) r0 with_dev
  begun = ap counted (in_one (λ r. record r { branches = insert r.branches dev b0 }) (fresh cut) r0)

  gone : after (lake_with_dev cut) (other_entry (BranchDelete quickstart dev)) ≡ spread (counted (counted (fresh cut))) r0 without_dev
  gone = ap (λ (x : State). after x (other_entry (BranchDelete quickstart dev))) begun
      ∙ ap counted (in_one (λ r. record r { branches = remove r.branches dev }) (counted (fresh cut)) (with_branches r0 with_dev))

  dev_there : get with_dev dev ≡ Some b0
  dev_there = get-insert nat_list_cmp_total (insert empty main b0) dev b0 dev

  dev_gone : get without_dev dev ≡ None
  dev_gone = get-remove nat_list_cmp_total with_dev dev dev

  main_stays : get without_dev main ≡ Some b0
  main_stays =
      get-remove nat_list_cmp_total with_dev dev main ∙ get-insert nat_list_cmp_total (insert empty main b0) dev b0 main
      ∙ get-insert nat_list_cmp_total empty main b0 main

  may_go : HasBranch (spread (counted (fresh cut)) r0 with_dev) quickstart dev (λ r b. MayEnd dev r)
  may_go = (with_branches r0 with_dev, repo_there (with_branches r0 with_dev), (b0, dev_there, record { other = λ is. absurd (cc (is)); unprotected = refl }))

  may_fail : HasBranch (spread (counted (counted (fresh cut))) r0 without_dev) quickstart main (λ r b. Unit {0})
  may_fail = (with_branches r0 without_dev, repo_there (with_branches r0 without_dev), (b0, main_stays, tt))

  pub stopped_legal : IsLegal (lake_with_dev cut) deleted_and_stopped
  stopped_legal = (
    record {
      running = refl;
      room = omega arith;
      possible = subst (λ (x : State). HasBranch x quickstart dev (λ r b. MayEnd dev r)) (sym begun) may_go;
    },
    (
      record {
        running = refl;
        room = omega arith;
        possible = subst (λ (x : State). HasBranch x quickstart main (λ r b. Unit {0})) (sym gone) may_fail;
      },
      tt,
    ),
  )

  looked_at_dev : first_cause (with_branch (lake_with_dev cut) quickstart dev no_causes) ≡ None
  looked_at_dev = subst (λ (x : State). first_cause (with_branch x quickstart dev no_causes) ≡ None) (sym begun) (simp (repo_there, dev_there))

  -- a branch isn't there, in a lake that is stopped or not
  abbrev Misses : State → Type 0
  Misses x = first_cause (with_branch x quickstart dev no_causes) ≡ Some (step.NoRef reference.Named)

  missed_dev : Misses (after (lake_with_dev cut) (other_entry (BranchDelete quickstart dev)))
  missed_dev = subst Misses (sym gone) (simp (repo_there, dev_gone))

  both_others : AreOfOtherSeats lake_rules 0 deleted_and_stopped
  both_others = others_more (other_entry (BranchDelete quickstart dev)) (other_fault ∷ []) refl (others_more other_fault [] refl no_others)

  module _ (moment : ℕ) where
    abbrev delete_course : List ℕ → List CallPoint
    delete_course branch = call_course (delete_of_a branch) moment nothing_fixed

    pub told_no_ref : IsServed lake_rules (lake_with_dev cut) own_call [] deleted_and_stopped (asked (delete_of_a dev) moment) nothing_met
        (reply.Refused (refusal.NoRef dev)) 2 2
    told_no_ref =
        served_so (lake_with_dev cut) [] (delete_of_a dev) moment [] (delete_course dev) [] deleted_and_stopped (reply.Refused (refusal.NoRef dev)) 2 2
        refl refl
        (Stopped deleted_and_stopped (deleted_and_stopped, both_others, refl)
        (ByState (Looks quickstart dev) _ refl (step.NoRef reference.Named, missed_dev, (refusal.NoRef dev, refl, refl))) refl (OwesNothing refl refl refl))

    pub told_stopped : IsServed lake_rules (lake_with_dev cut) own_call [] deleted_and_stopped (asked (delete_of_a dev) moment) nothing_met
        (reply.Refused refusal.Stopped) 2 2
    told_stopped =
        served_so (lake_with_dev cut) [] (delete_of_a dev) moment (Looks quickstart dev ∷ []) _ [] deleted_and_stopped (reply.Refused refusal.Stopped) 2 2 refl
        ([], ([], nothing_came lake_rules own_call [], looked_at_dev, refl), refl)
        (Stopped deleted_and_stopped (deleted_and_stopped, both_others, refl)
        (ByState _ [] refl (record {
          clash = None;
          is_clash = refl;
          fault = step.Stopped;
          first = stops_first (after (after (lake_with_dev cut) (other_entry (BranchDelete quickstart dev))) other_fault) quickstart dev refl;
          told_so = (refusal.Stopped, refl, refl);
        })) refl (OwesNothing refl refl refl))

    -- ---- a branch that is protected

    abbrev protecting : HistoryEntry
    protecting = other_entry (NoteSet quickstart name.Protection (Some ma_protected))

    abbrev guarded : Repository
    guarded = with_notes ma_protected name.Protection r0

    protects : after (fresh cut) (other_entry (NoteSet quickstart name.Protection (Some ma_protected))) ≡ scene (counted (fresh cut)) guarded b0
    protects = ap counted (in_quickstart (with_notes ma_protected name.Protection) (fresh cut) r0 b0)

    abbrev Guards : State → Type 0
    Guards x = first_cause (write_causes x quickstart main) ≡ Some (step.Protected 0)

    is_guarded : Guards (after (fresh cut) (other_entry (NoteSet quickstart name.Protection (Some ma_protected))))
    is_guarded = subst Guards (sym protects) (simp (repo_there, main_there, main_matches))

    pub told_protected : IsServed lake_rules (fresh cut) own_call [] protected_by_other (asked (delete_of_a main) moment) nothing_met
        (reply.Refused (refusal.Protected 0)) 1 1
    told_protected =
        served_so (fresh cut) [] (delete_of_a main) moment (Looks quickstart main ∷ []) _ [] protected_by_other (reply.Refused (refusal.Protected 0)) 1 1 refl
        ([], ([], nothing_came lake_rules own_call [], is_there (fresh cut) r0 b0, refl), refl)
        (Stopped protected_by_other (protected_by_other, others_more protecting [] refl no_others, refl)
        (ByState _ [] refl (record {
          clash = None;
          is_clash = refl;
          fault = step.Protected 0;
          first = is_guarded;
          told_so = (refusal.Protected 0, refl, refl);
        })) refl (OwesNothing refl refl refl))

  pub protected_legal : IsLegal (fresh cut) protected_by_other
  protected_legal = (
    record {
      running = refl;
      room = omega arith;
      possible = (with_branches r0 (insert empty main b0), repo_there (with_branches r0 (insert empty main b0)), refl);
    },
    tt,
  )

-- ---- a commit of what another committed

-- a map differs from itself nowhere
no_rows : (list : List (List ℕ × Change)) → length list ≡ 0 → first_path (map (λ row. row.0) list) ≡ None
no_rows [] none = refl
no_rows (row ∷ list) none = absurd cc

nowhere : (m : KeyMapValue) → least_difference m m ≡ None
nowhere m =
    let none : differences m m ≡ empty = same (differences m m) empty (λ q. (no_difference m m q).1 refl ∙ sym (get-empty byte_order q)) in
    no_rows (rows (differences m m)) (sym (len-entries (differences m m)) ∙ (ap len none ∙ len-empty byte_order Change))

-- nothing is left to commit on a scene
no_changes_on : (s : State) (r : Repository) (b : Branch) (about : AboutValue) → sealed_map r b ≡ head_map r b
    → reading_refusal (scene s r b) quickstart main kind.Commit about ≡ Some (Head (unmade.NoChanges b.head))
no_changes_on s r b about same = simp (repo_there, main_there, same, nowhere)

-- an entry of another maker, where that makes no difference
again : (s : State) (by other : By) (operation : Operation) → (IsPossible s by.seat operation → IsPossible s other.seat operation)
    → Allows s (accepted_entry by operation) → Allows s (accepted_entry other operation)
again s by other operation also may = record { running = may.running; room = may.room; possible = also may.possible }

module _ (cut : Cut) (about : AboutValue) where
  pub taken_legal : IsCommitAdmissible (lake_of_both cut) about → IsLegal (fresh cut) (taken_by_other about)
  taken_legal admissible =
      let l = two.legal cut about admissible in (
        again _ _ _ _ (λ p. p) l.0,
        (again _ _ _ _ (λ p. p) l.1.0, (again _ _ _ _ (λ p. p) l.1.1.0, (again _ _ _ _ (λ p. p) l.1.1.1.0, tt))),
      )

  module _ (mine : AboutValue) (moment : ℕ) where
    abbrev said : AboutValue
    said = record { committer = mine.committer; message = mine.message; metadata = mine.metadata; date = moment }

    abbrev Leaves : State → Type 0
    Leaves x = reading_refusal x quickstart main kind.Commit said ≡ Some (Head (unmade.NoChanges (two.new_branch cut about).head))

    nothing_left : Leaves (lake_of_their_commit cut about)
    nothing_left = subst Leaves (sym (two.comes cut about))
        (no_changes_on (counted (two.third_state cut)) (two.new_repository cut about) (two.new_branch cut about) said (two.nothing_sealed cut about))

    abbrev committed : HistoryEntry
    committed = other_entry (Commit quickstart main about)

    abbrev Writes : State → Type 0
    Writes x = first_cause (write_causes x quickstart main) ≡ None

    pub taken_served : IsServed lake_rules (fresh cut) own_call put_by_other (taken_by_other about) (asked (commit_of_main mine) moment) nothing_met
        (reply.Refused refusal.NoChanges) 4 4
    taken_served =
        served_so (fresh cut) put_by_other (commit_of_main mine) moment (Makes (Seal quickstart main seal.Commit) ∷ []) _ (put_by_other ++ own_seal ∷ [])
        (taken_by_other about) (reply.Refused refusal.NoChanges) 4 4 refl (
          put_by_other ++ own_seal ∷ [],
          (
            put_by_other,
            nothing_came lake_rules own_call put_by_other,
            record {
              none = subst Writes (sym (first_entry cut).comes) (writable (counted (fresh cut)) (first_repository cut) (with_a cut) refl refl refl);
              no_clash = refl;
              worth = tt;
              fixes = tt;
            },
            refl,
          ),
          refl,
        )
        (Stopped (taken_by_other about) (
          other_seal ∷ committed ∷ [],
          others_more other_seal (committed ∷ []) refl (others_more committed [] refl no_others),
          refl,
        )
        (ByState (Prepares quickstart main kind.Commit said) _ refl (Head (unmade.NoChanges (two.new_branch cut about).head), nothing_left, refl)) refl
        (OwesNothing refl refl refl))

-- ---- a position before the edge

pub before_edge : (cut : Cut) (body : List ℕ) (moment later : ℕ) (call : Call) (met : CallMet) (told : CallReply)
    → ArePlaced lake_rules (fresh cut) 0 1 0 [] (numbers_beside body moment)
    (item_of (asked (upload_call (upload_to_a body)) moment) nothing_met (uploaded (upload_to_a body) moment 1) 3
    ∷ item_of (asked call later) met told 2 ∷ []) → ⊥
before_edge cut body moment later call met told placed = absurd (omega (arith, placed.1.after_position, placed.2.1.begins))
