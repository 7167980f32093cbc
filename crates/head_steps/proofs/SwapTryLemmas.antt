-- One try of a new head, by what its reading and its step told.
use Rattle.std.proofs.Common.{◌≡◌, ◌+◌, inl, inr, ℕ, List, [], ◌∷◌, ◌++◌, Option, Some, None, Result, Ok, Err, refl, sym, ap, subst, ◌∙◌}
use Rattle.std.proofs.Common.{arith, length, length-append}
use Rattle.std.specs.Prelude.{IsSomeAnd, option_map}
use Rattle.std.proofs.lemmas.List.{append-nil}
use Rattle.lake_base.specs.declared.digest.Digest.{Digest}
use Rattle.lake_values.specs.Commit.{AboutValue, CommitRecordValue}
use Rattle.lake_format.specs.Spelling.{commit_id}
use Rattle.lake_model.specs.declared.fault.StepFault.{StepFault}
use Rattle.lake_model.specs.declared.fault.StepFault.TheVariants as step
use Rattle.lake_model.specs.declared.history.By.{By}
use Rattle.lake_model.specs.declared.history.HistoryEntry.{HistoryEntry}
use Rattle.lake_model.specs.History.{accepted_entry, faulted_entry}
use Rattle.lake_model.specs.Refusals.{Clash, IsRefusal, first_cause}
use Rattle.lake_model.specs.State.{State}
use Rattle.lake_model.specs.Steps.{IsSwapReply, swap_causes, swap_rule}
use Rattle.core_commits.specs.Making.{head_answer, head_making}
use Rattle.core_commits.specs.Testing.{drafted_in}
use Rattle.core_puts.specs.KeeperViews.{KeeperView}
use Rattle.core_changes.specs.LakeChanges.{after_new_head}
use Rattle.core_puts.specs.KeptChanges.{Making, unmade}
use Rattle.core_puts.specs.Puts.{new_head_puts}
use Rattle.core_standing.proofs.PresentLemmas.{present_entries}
use Rattle.core_state.specs.LakeStates.{lake_value}
use Rattle.core_state.specs.NewCommits.{NewCommit}
use Rattle.lake_core.specs.declared.standing.LakeOrigin.{LakeOrigin}
use Rattle.lake_core.specs.HeadConditions.{IsReadyFor}
use Rattle.lake_core.specs.Lakes.{LakeValue, state, versions}
use Rattle.shared_lake.specs.SeatSteps.{Finds, IsChanged, IsRead, LakeSeat, origin_of}
use Rattle.call_placement.specs.Points.{Came}
use Rattle.call_placement.specs.Rules.{Caller}
use Rattle.call_placement.specs.Sessions.{caller}
use Rattle.call_placement.proofs.WalkLemmas.{came_on}
use Rattle.lake_calls.specs.LakeRules.{by_caller, lake_rules}
use Rattle.flow_steps.specs.FlowSeats.{GoesOn, given_at, state_at}
use Rattle.flow_steps.proofs.SeatFlowLemmas.{answer_changed, answer_read, as_found, came_to_change, came_to_reading, entries_by, entry_stands}
use Rattle.flow_steps.proofs.SeatFlowLemmas.{goes_by_change, goes_by_reading, goes_further}
use Rattle.head_drafts.specs.HeadDrafts.{IsReadingReply}
use Rattle.head_drafts.specs.declared.fault.DraftFault.{DraftFault}
use Rattle.head_drafts.specs.declared.fault.DraftFault.TheVariants as draft
use Rattle.head_drafts.specs.declared.fault.HeadFault.{HeadFault}
use Rattle.head_drafts.specs.declared.fault.HeadFault.TheVariants.{Step, Draft}
use Rattle.head_drafts.specs.declared.heads.HeadDraft.{HeadDraft}
use Rattle.head_drafts.proofs.WaitingLemmas.{later_swap}
use Rattle.head_steps.specs.HeadPauses.{times_changed}
use Rattle.head_steps.specs.HeadTries.{HasTriedHead, HeadSteps, HeadTryEnds, IsHeadRefused, MadeHead}
use Rattle.head_steps.specs.NewHeads.{IsClashIn, IsDraftedIn, NewHead, commit_in, early_refusal, operation_of, rule_of}
use Rattle.head_steps.proofs.HeadCauseLemmas.{IsTold, is_free, reading_told, refused_by, versions_same}

-- a refusal, as the result of a try
abbrev pub refusal_of : HeadFault → Result MadeHead HeadFault
refusal_of fault = Err fault

-- ---- a refusal of a try

module _ (origin : LakeOrigin) (by : Caller) (head : NewHead) (from next : List HistoryEntry) where
  abbrev Ends : HeadFault → Type 0
  Ends fault = HeadTryEnds origin by head (refusal_of fault) from next

  refused_as : (fault : StepFault) → IsTold fault → IsHeadRefused origin by head fault from next → Ends (Step fault)
  refused_as (step.Changed version settings) told is = absurd told.0
  refused_as step.StoreFault told is = absurd told.1
  refused_as step.NoMemory told is = absurd told.1
  refused_as fault told is = is

  -- at its reading
  unread : (fault : StepFault) → Came lake_rules by from next → IsReadingReply (early_refusal head (state_at origin next)) (Err (Step fault))
      → Ends (Step fault)
  unread step.NoMemory came says = came
  unread fault came says = refused_as fault (reading_told head (state_at origin next) fault says) (inl (came, says))

  undrafted : (fault : DraftFault) → Came lake_rules by from next → IsReadingReply (early_refusal head (state_at origin next)) (Err (Draft fault))
      → Ends (Draft fault)
  undrafted draft.NoMemory came says = came
  undrafted (draft.Refused cause) came says = (came, says)

-- ---- a reading that was refused, or whose draft was

module _ {K : Type 0} (view : KeeperView K) (old new : LakeSeat) (head : NewHead) (call : ℕ) where
  abbrev pub Drafts : Result HeadDraft HeadFault → LakeValue K → Type 0
  Drafts result l = IsDraftedIn head (state l) (versions l) result

  module _ (fault : HeadFault) (read : IsRead view old new (Drafts (Err fault))) where
    abbrev unread_origin : LakeOrigin
    unread_origin = origin_of view read.found

    told_there : IsReadingReply (early_refusal head (state_at unread_origin new.seen)) (Err fault)
    told_there = answer_read view old new (Drafts (Err fault)) read (λ s given. IsReadingReply (early_refusal head s) (Err fault)) unread_origin
        read.finds.origin (λ l says. says.reading)

    came_there : Came lake_rules (caller old.number call) old.seen new.seen
    came_there = came_to_reading view old new (Drafts (Err fault)) read call

    went_there : GoesOn unread_origin call old new
    went_there = goes_by_reading view old new (Drafts (Err fault)) read call unread_origin read.finds.origin

  pub not_drafted_tried : (fault : HeadFault) → IsRead view old new (Drafts (Err fault)) → HasTriedHead head call old new (Err fault)
  not_drafted_tried (Step fault) read = record {
    origin = unread_origin (Step fault) read;
    goes = went_there (Step fault) read;
    ends = unread (unread_origin (Step fault) read) (caller old.number call) head old.seen new.seen fault (came_there (Step fault) read)
        (told_there (Step fault) read);
  }
  not_drafted_tried (Draft fault) read = record {
    origin = unread_origin (Draft fault) read;
    goes = went_there (Draft fault) read;
    ends = undrafted (unread_origin (Draft fault) read) (caller old.number call) head old.seen new.seen fault (came_there (Draft fault) read)
        (told_there (Draft fault) read);
  }

  -- what its reading is refused for is no version
  pub none_changed : (fault : HeadFault) → IsRead view old new (Drafts (Err fault)) → times_changed (refusal_of fault) ≡ 0
  none_changed (Step (step.Changed version settings)) read =
      absurd (reading_told head (state read.found) (step.Changed version settings) read.answer.reading).0
  none_changed fault read = refl

-- ---- a head that was made, or noted

-- the place of an entry behind others
place_behind : (xs : List HistoryEntry) (entry : HistoryEntry) (next : List HistoryEntry) (entries at : ℕ) → entries ≡ length xs → at ≡ entries + 1
    → next ≡ xs ++ entry ∷ [] → at ≡ length next
place_behind xs entry next entries at counted is stands =
    let whole : length next ≡ length xs + 1 = ap length stands ∙ length-append xs (entry ∷ []) in
    omega (arith, counted, is, whole)

-- what was found to be of a commit
abbrev told_of : CommitRecordValue → Digest × CommitRecordValue
told_of commit = (commit_id commit, commit)

commit_told : (found : Option CommitRecordValue) (id : Digest) (commit : CommitRecordValue) → option_map told_of found ≡ Some (id, commit)
    → (found ≡ Some commit) × (id ≡ commit_id commit)
commit_told (Some other) id commit is =
    let same : told_of other ≡ (id, commit) = cc (is) in
    let one : other ≡ commit = ap (λ (p : Digest × CommitRecordValue). p.1) same in
    (ap Some one, sym (ap (λ (p : Digest × CommitRecordValue). p.0) same) ∙ ap commit_id one)
commit_told None id commit is = absurd cc

-- what a change makes that makes something
some_made : {X : Type 0} (make : X → Making) (found : Option X) (P : Making → Type 0) → IsSomeAnd (option_map make found) P
    → (x : X) × (found ≡ Some x) × P (make x)
some_made make (Some x) P is = (x, refl, is)
some_made make None P is = absurd is

-- ---- a step behind a reading

module _ {K : Type 0} (view : KeeperView K) (old mid new : LakeSeat) (head : NewHead) (call : ℕ) (drafted : HeadDraft)
    (read : IsRead view old mid (Drafts view old mid head call (Ok drafted))) where
  abbrev ReadAnswers : LakeValue K → Type 0
  ReadAnswers = Drafts view old mid head call (Ok drafted)

  abbrev origin : LakeOrigin
  origin = origin_of view read.found

  mid_origin : mid.origin ≡ Some origin
  mid_origin = ap (λ (s : LakeSeat). s.origin) read.seat ∙ read.finds.origin

  mid_number : mid.number ≡ old.number
  mid_number = ap (λ (s : LakeSeat). s.number) read.seat

  was_read : IsDraftedIn head (state_at origin mid.seen) (given_at origin mid.seen) (Ok drafted)
  was_read = answer_read view old mid ReadAnswers read (λ s given. IsDraftedIn head s given (Ok drafted)) origin read.finds.origin (λ l says. says)

  to_reading : Came lake_rules (caller old.number call) old.seen mid.seen
  to_reading = came_to_reading view old mid ReadAnswers read call

  went : GoesOn origin call old mid
  went = goes_by_reading view old mid ReadAnswers read call origin read.finds.origin

  -- the draft is ready in each lake that the seat may find
  ready_found : (found : LakeValue K) → Finds view mid found
      → IsReadyFor (state found) (versions found) head.repo head.branch drafted.version drafted.settings head.kind head.about drafted.tree
  ready_found found finds =
      let both : Some (origin_of view found) ≡ Some origin = sym finds.origin ∙ mid_origin in
      let same : origin_of view found ≡ origin = cc (both) in
      later_swap read.found found finds.others head.repo head.branch head.kind head.about drafted read.answer.waits
      (ap (λ (o : LakeOrigin). o.opened) same)
      (finds.begins ∙ ap (λ xs. xs ++ finds.others) (ap (λ (s : LakeSeat). s.seen) read.seat)) finds.holds.stands.legal

  abbrev SwapMaking : LakeValue K → Option Making
  SwapMaking l = head_making head.repo head.branch head.kind head.about l.present

  abbrev SwapAnswers : Result MadeHead StepFault → LakeValue K → Type 0
  SwapAnswers result l = IsSwapReply (state l) (versions l) head.repo head.branch drafted.version drafted.settings (rule_of head) (head_answer result)

  abbrev pub Swaps : Result MadeHead StepFault → Type 0
  Swaps result = IsChanged view (record { seat = mid.number; call = call }) mid new SwapMaking (SwapAnswers result) result

  abbrev pub SwapsAs : Result MadeHead StepFault → Type 0
  SwapsAs (Ok made) = HasTriedHead head call old new (Ok made)
  SwapsAs (Err fault) = HasTriedHead head call old new (Err (Step fault))

  module _ (result : Result MadeHead StepFault) (changed : Swaps result) where
    abbrev found : List HistoryEntry
    found = changed.found.history

    abbrev by : By
    by = record { seat = mid.number; call = call }

    to_step : Came lake_rules (caller old.number call) mid.seen found
    to_step = subst (λ n. Came lake_rules (caller n call) mid.seen found) mid_number
        (came_to_change view mid new call SwapMaking (SwapAnswers result) result changed)

    goes : GoesOn origin call old new
    goes = goes_further origin call old mid new went (goes_by_change view mid new call SwapMaking (SwapAnswers result) result changed origin mid_origin)

    stands : new.seen ≡ found ++ entries_by view by (SwapMaking changed.found) result
    stands = entry_stands view mid new call SwapMaking (SwapAnswers result) result changed

    answered : IsSwapReply (state_at origin found) (given_at origin found) head.repo head.branch drafted.version drafted.settings (rule_of head)
        (head_answer result)
    answered = answer_changed view mid new call SwapMaking (SwapAnswers result) result changed
        (λ s given. IsSwapReply s given head.repo head.branch drafted.version drafted.settings (rule_of head) (head_answer result)) origin mid_origin
        (λ l says. says)

    ready : IsReadyFor (state_at origin found) (given_at origin found) head.repo head.branch drafted.version drafted.settings head.kind head.about drafted.tree
    ready = as_found view origin mid changed.found mid_origin changed.finds
        (λ s given. IsReadyFor s given head.repo head.branch drafted.version drafted.settings head.kind head.about drafted.tree) found refl
        (ready_found changed.found changed.finds)

    counted : (state_at origin found).entries ≡ length found
    counted = as_found view origin mid changed.found mid_origin changed.finds (λ s given. s.entries ≡ length found) found refl
        (ap (λ (s : State). s.entries) changed.finds.holds.stands.replayed
        ∙ present_entries (lake_value changed.found.opened) found (lake_value changed.found.present) changed.finds.holds.stands)

    -- where no cause holds, nothing refuses the head at the step
    abbrev NoCause : Option Clash → Type 0
    NoCause clash = first_cause (swap_causes (state_at origin found) (given_at origin found) head.repo head.branch drafted.version drafted.settings
        (rule_of head) clash) ≡ None

    steps : (clash : Option Clash) → IsClashIn head (state_at origin found) clash → NoCause clash
        → HeadSteps origin (caller old.number call) head old.seen found
    steps clash is_clash none = record {
      read = mid.seen;
      to_reading = to_reading;
      early = was_read.reading;
      to_step = to_step;
      free = is_free head (state_at origin found) (given_at origin found) drafted.version drafted.settings drafted.tree ready clash none is_clash;
      same = versions_same head (state_at origin found) (given_at origin found) drafted.version drafted.settings drafted.tree ready clash none
          (given_at origin mid.seen) was_read.version was_read.settings;
    }

    -- the entry of what it makes, whether it was accepted or the store failed
    abbrev making_of : NewCommit → Making
    making_of commit = record {
      operation = operation_of head;
      after = after_new_head head.repo head.branch commit;
      puts = new_head_puts head.repo head.branch commit changed.found.present.names.files (lake_value changed.found.present);
    }

    abbrev commit_drafted : Option NewCommit
    commit_drafted = drafted_in head.repo head.branch head.kind head.about (lake_value changed.found.present)

    own_entries : (P : Making → Type 0) → IsSomeAnd (SwapMaking changed.found) P → (entry : By → HistoryEntry)
        → entries_by view by (Some (unmade (operation_of head) [])) result ≡ entry by ∷ []
        → ((commit : NewCommit) → entries_by view by (Some (making_of commit)) result ≡ entries_by view by (Some (unmade (operation_of head) [])) result)
        → new.seen ≡ found ++ entry (by_caller (caller old.number call)) ∷ []
    own_entries P some entry is same =
        let made = some_made making_of commit_drafted P some in
        stands
        ∙ ap (λ es. found ++ es) (ap (λ (o : Option NewCommit). entries_by view by (option_map making_of o) result) made.1 ∙ same made.0 ∙ is)
        ∙ ap (λ n. found ++ entry (record { seat = n; call = call }) ∷ []) mid_number

    nothing_added : entries_by view by (SwapMaking changed.found) result ≡ [] → found ≡ new.seen
    nothing_added none = sym (stands ∙ ap (λ es. found ++ es) none ∙ append-nil found)

    came_further : Came lake_rules (caller old.number call) old.seen found
    came_further = came_on lake_rules (caller old.number call) old.seen mid.seen found to_reading to_step

    -- a refusal of the step
    abbrev EndsAt : StepFault → List HistoryEntry → Type 0
    EndsAt fault next = HeadTryEnds origin (caller old.number call) head (refusal_of (Step fault)) old.seen next

    not_made : (clash : Option Clash) (fault : StepFault) → IsRefusal fault → IsClashIn head (state_at origin found) clash
        → first_cause (swap_causes (state_at origin found) (given_at origin found) head.repo head.branch drafted.version drafted.settings
        (rule_of head) clash) ≡ Some fault
        → EndsAt fault found
    not_made clash fault is_refusal is_clash first =
        elim (refused_by head (state_at origin found) (given_at origin found) (given_at origin mid.seen) drafted.version drafted.settings
        was_read.version was_read.settings clash fault first) [
          | inl changed_so ↦ subst (λ f. EndsAt f found) (sym changed_so.2)
              (mid.seen, to_reading, to_step, changed_so.0, refl, was_read.reading, changed_so.1)
          | inr plain ↦ refused_as origin (caller old.number call) head old.seen found fault (plain.1, is_refusal)
              (inr (mid.seen, to_reading, was_read.reading, to_step, clash, is_clash, plain.0))
        ]

  pub swap_tried : (result : Result MadeHead StepFault) → Swaps result → SwapsAs result
  swap_tried (Ok made) changed =
      let by : By = record { seat = mid.number; call = call } in
      let reply = answered (Ok made) changed in
      let commit = commit_told (commit_in head (state_at origin changed.found.history)) made.1 made.2 reply.2.1.1 in
      let entry = own_entries (Ok made) changed _ changed.leaves.1 (λ by. accepted_entry by (operation_of head)) refl (λ commit. refl) in
      record {
        origin = origin;
        goes = goes (Ok made) changed;
        ends = record {
          found = changed.found.history;
          steps = steps (Ok made) changed reply.0 reply.1 reply.2.0;
          stands = entry;
          place = place_behind changed.found.history _ new.seen (state_at origin changed.found.history).entries made.0 (counted (Ok made) changed)
              reply.2.1.0 entry;
          commit = commit.0;
          id = commit.1;
        };
      }
  swap_tried (Err step.StoreFault) changed =
      let reply = answered (Err step.StoreFault) changed in
      record {
        origin = origin;
        goes = goes (Err step.StoreFault) changed;
        ends = (
          changed.found.history,
          steps (Err step.StoreFault) changed reply.0 reply.1 reply.2,
          own_entries (Err step.StoreFault) changed _ changed.leaves.1 (λ by. faulted_entry by (operation_of head)) refl (λ commit. refl),
        );
      }
  swap_tried (Err step.NoMemory) changed = record {
    origin = origin;
    goes = goes (Err step.NoMemory) changed;
    ends = subst (λ es. Came lake_rules (caller old.number call) old.seen es) (nothing_added (Err step.NoMemory) changed refl)
        (came_further (Err step.NoMemory) changed);
  }
  swap_tried (Err fault) changed =
      let reply = answered (Err fault) changed in
      record {
        origin = origin;
        goes = goes (Err fault) changed;
        ends = subst (λ es. EndsAt (Err fault) changed fault es) (nothing_added (Err fault) changed refl)
            (not_made (Err fault) changed reply.0 fault tt reply.1 reply.2);
      }

  -- so it is of a copy of what is said of it
  abbrev pub Swapped : AboutValue → Result MadeHead StepFault → Type 0
  Swapped about result = IsChanged view (record { seat = mid.number; call = call }) mid new
      (λ (l : LakeValue K). head_making head.repo head.branch head.kind about l.present)
      (λ (l : LakeValue K). IsSwapReply (state l) (versions l) head.repo head.branch drafted.version drafted.settings (swap_rule head.kind about)
      (head_answer result)) result

  pub copy_tried : (about : AboutValue) → about ≡ head.about → (result : Result MadeHead StepFault) → Swapped about result → SwapsAs result
  copy_tried about is result changed = swap_tried result (subst (λ a. Swapped a result) is changed)

  pub copy_ready : (about : AboutValue) → about ≡ head.about → (found : LakeValue K) → Finds view mid found
      → IsReadyFor (state found) (versions found) head.repo head.branch drafted.version drafted.settings head.kind about drafted.tree
  copy_ready about is found finds =
      subst (λ a. IsReadyFor (state found) (versions found) head.repo head.branch drafted.version drafted.settings head.kind a drafted.tree) (sym is)
      (ready_found found finds)
