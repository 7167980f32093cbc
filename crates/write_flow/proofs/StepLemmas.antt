-- One try, by what its reading and its step told.
use Rattle.std.proofs.Common.{◌≡◌, ◌+◌, ℕ, List, [], ◌∷◌, ◌++◌, Option, Some, None, Result, Ok, Err, refl, sym, ap}
use Rattle.std.proofs.Common.{subst, ◌∙◌}
use Rattle.std.specs.Prelude.{IsSomeAnd, ◌==◌, option_and_then, option_map}
use Rattle.std.proofs.lemmas.Bool.{eqb-true}
use Rattle.std.proofs.lemmas.List.{append-nil}
use Rattle.lake_values.specs.Entry.{EntryValue}
use Rattle.lake_values.specs.declared.entry.Change.{Change}
use Rattle.commit_graph.specs.Expressions.{RefExprValue}
use Rattle.lake_model.specs.declared.fault.StepFault.{StepFault}
use Rattle.lake_model.specs.declared.fault.StepFault.TheVariants.{StoreFault, NoMemory}
use Rattle.lake_model.specs.declared.history.By.{By}
use Rattle.lake_model.specs.declared.history.HistoryEntry.{HistoryEntry}
use Rattle.lake_model.specs.declared.history.Operation.{Operation}
use Rattle.lake_model.specs.declared.history.Operation.TheVariants.{Stage, Copy}
use Rattle.lake_model.specs.declared.history.CopySource.{CopySource}
use Rattle.lake_model.specs.declared.reply.Versions.{Versions}
use Rattle.lake_model.specs.State.{State}
use Rattle.lake_model.specs.History.{accepted_entry, faulted_entry}
use Rattle.lake_model.specs.Readings.{versions_reply}
use Rattle.lake_model.specs.Refusals.{Causes, GivesOrFails, IsRefusal, first_cause, no_causes, with_branch}
use Rattle.lake_model.specs.Steps.{IsCopyReply, copied_entry, copy_causes_of, copy_source, in_it, stage_reply, with_current_branch, write_causes}
use Rattle.lake_model.specs.Versions.{VersionsGiven, branch_version, settings_version}
use Rattle.lake_laws.proofs.HeadStepLemmas.{without_versions}
use Rattle.core_state.specs.LakeStates.{LakeStateValue, lake_value, state_of}
use Rattle.core_puts.specs.KeeperViews.{KeeperView}
use Rattle.core_puts.specs.KeptChanges.{Making}
use Rattle.lake_core.specs.declared.standing.LakeOrigin.{LakeOrigin}
use Rattle.lake_core.specs.Lakes.{LakeValue, state, versions}
use Rattle.lake_core.specs.Makings.{copy, copy_making, stage}
use Rattle.shared_lake.specs.SeatSteps.{IsChanged, IsRead, LakeSeat, origin_of}
use Rattle.call_placement.specs.Points.{Came}
use Rattle.call_placement.specs.Sessions.{caller}
use Rattle.call_placement.proofs.WalkLemmas.{came_on}
use Rattle.lake_calls.specs.LakeRules.{lake_rules}
use Rattle.flow_steps.specs.FlowSeats.{GoesOn, given_at, state_at}
use Rattle.flow_steps.specs.FlowTries.{Guarded, HasTried, TryEnds, copying, first_before_versions, staging}
use Rattle.flow_steps.proofs.SeatFlowLemmas.{answer_changed, answer_read, came_to_change, came_to_reading, entries_by, entry_stands, goes_by_change}
use Rattle.flow_steps.proofs.SeatFlowLemmas.{goes_by_reading}
use Rattle.flow_steps.proofs.SeatFlowLemmas.{as_found, goes_further}
use Rattle.flow_steps.proofs.TryLemmas.{IsVersionRead, accepted, faulted, not_made, reading_refusal_is, unread, version_read}
use Rattle.flow_steps.proofs.VersionCauseLemmas.{AsksNone, Decides, copy_asks, current_where_none, decided, write_asks}

-- ---- a reading that was refused

module _ {K : Type 0} (view : KeeperView K) (old new : LakeSeat) (call : ℕ) (guarded : Guarded) (repo branch : List ℕ) (fault : StepFault)
    (early : (s : State) → guarded.early s ≡ first_cause (with_branch s repo branch no_causes))
    (read : IsRead view old new (λ (l : LakeValue K). Err fault ≡ versions_reply (state l) (versions l) repo branch)) where
  abbrev Answers : LakeValue K → Type 0
  Answers l = Err fault ≡ versions_reply (state l) (versions l) repo branch

  pub not_read : HasTried guarded call old new (Err fault)
  not_read =
      let origin = origin_of view read.found in
      let from = read.finds.origin in
      let first = answer_read view old new Answers read
      (λ s given. first_cause (with_branch s repo branch no_causes) ≡ Some fault) origin from
      (λ l says. version_read (state l) (versions l) repo branch (Err fault) says) in
      let kind = reading_refusal_is (state_at origin new.seen) repo branch fault first in
      record {
        origin = origin;
        goes = goes_by_reading view old new Answers read call origin from;
        ends = unread origin (caller old.number call) guarded old.seen new.seen (came_to_reading view old new Answers read call) fault kind.0 kind.1
            (early (state_at origin new.seen) ∙ first);
      }

-- ---- a step behind a reading

module _ {K : Type 0} (view : KeeperView K) (old mid new : LakeSeat) (call : ℕ) (guarded : Guarded) (repo branch : List ℕ) (read_versions : Versions)
    (early : (s : State) → guarded.early s ≡ first_cause (with_branch s repo branch no_causes))
    (guards : (given : VersionsGiven) → guarded.version given ≡ branch_version given repo branch)
    (read : IsRead view old mid (λ (l : LakeValue K). Ok read_versions ≡ versions_reply (state l) (versions l) repo branch)) where
  abbrev ReadAnswers : LakeValue K → Type 0
  ReadAnswers l = Ok read_versions ≡ versions_reply (state l) (versions l) repo branch

  abbrev origin : LakeOrigin
  origin = origin_of view read.found

  mid_origin : mid.origin ≡ Some origin
  mid_origin = ap (λ (s : LakeSeat). s.origin) read.seat ∙ read.finds.origin

  mid_number : mid.number ≡ old.number
  mid_number = ap (λ (s : LakeSeat). s.number) read.seat

  was_read : IsVersionRead (state_at origin mid.seen) (given_at origin mid.seen) repo branch (Ok read_versions)
  was_read = answer_read view old mid ReadAnswers read (λ s given. IsVersionRead s given repo branch (Ok read_versions)) origin read.finds.origin
      (λ l says. version_read (state l) (versions l) repo branch (Ok read_versions) says)

  to_reading : Came lake_rules (caller old.number call) old.seen mid.seen
  to_reading = came_to_reading view old mid ReadAnswers read call

  reading_none : guarded.early (state_at origin mid.seen) ≡ None
  reading_none = early (state_at origin mid.seen) ∙ was_read.0

  went : GoesOn origin call old mid
  went = goes_by_reading view old mid ReadAnswers read call origin read.finds.origin

  -- memory ran out behind the reading
  pub stays_read : HasTried guarded call old mid (Err NoMemory)
  stays_read = record { origin = origin; goes = went; ends = to_reading }

  module _ {X : Type 0} (making : LakeValue K → Option Making) (StepAnswers : LakeValue K → Type 0) (result : Result X StepFault)
      (changed : IsChanged view (record { seat = mid.number; call = call }) mid new making StepAnswers result)
      (c : State → Causes) (asks : (s : State) → AsksNone (c s)) (ahead : (s : State) → first_before_versions (c s) ≡ guarded.ahead s)
      (late : (s : State) → first_cause (c s) ≡ guarded.late s)
      (decides : Decides (with_current_branch (given_at origin changed.found.history) repo branch read_versions.version
      (c (state_at origin changed.found.history))) result) where
    abbrev found : List HistoryEntry
    found = changed.found.history

    abbrev by : By
    by = record { seat = mid.number; call = call }

    to_step : Came lake_rules (caller old.number call) mid.seen found
    to_step = subst (λ n. Came lake_rules (caller n call) mid.seen found) mid_number
        (came_to_change view mid new call making StepAnswers result changed)

    goes : GoesOn origin call old new
    goes = goes_further origin call old mid new went (goes_by_change view mid new call making StepAnswers result changed origin mid_origin)

    stands : new.seen ≡ found ++ entries_by view by (making changed.found) result
    stands = entry_stands view mid new call making StepAnswers result changed

    -- nothing refuses the step where no cause holds by the version
    late_none : first_cause (with_current_branch (given_at origin found) repo branch read_versions.version (c (state_at origin found))) ≡ None
        → guarded.late (state_at origin found) ≡ None
    late_none none =
        sym (late (state_at origin found))
        ∙ without_versions (c (state_at origin found)) (read_versions.version == branch_version (given_at origin found) repo branch)
        (branch_version (given_at origin found) repo branch) (settings_version (given_at origin found) repo) (asks (state_at origin found)).unasked none

    -- and the version is the one that was read
    same_version : first_cause (with_current_branch (given_at origin found) repo branch read_versions.version (c (state_at origin found))) ≡ None
        → guarded.version (given_at origin found) ≡ guarded.version (given_at origin mid.seen)
    same_version none =
        guards (given_at origin found)
        ∙ sym (eqb-true read_versions.version (branch_version (given_at origin found) repo branch)
        (current_where_none (c (state_at origin found)) (read_versions.version == branch_version (given_at origin found) repo branch)
        (branch_version (given_at origin found) repo branch) (settings_version (given_at origin found) repo) none))
        ∙ was_read.1
        ∙ sym (guards (given_at origin mid.seen))

    own_by : (operation : Operation) → accepted_entry by operation ≡ accepted_entry (record { seat = old.number; call = call }) operation
    own_by operation = ap (λ n. accepted_entry (record { seat = n; call = call }) operation) mid_number

    pub step_accepted : (told : Option EntryValue) (operation : Operation)
        → first_cause (with_current_branch (given_at origin found) repo branch read_versions.version (c (state_at origin found))) ≡ None
        → guarded.Makes (state_at origin found) told operation
        → entries_by view by (making changed.found) result ≡ accepted_entry by operation ∷ [] → HasTried guarded call old new (Ok told)
    step_accepted told operation none makes is = record {
      origin = origin;
      goes = goes;
      ends = accepted origin (caller old.number call) guarded old.seen mid.seen to_reading reading_none found to_step told operation new.seen
          (late_none none) makes (same_version none)
          (stands ∙ ap (λ es. found ++ es) (is ∙ ap (λ e. e ∷ []) (own_by operation)));
    }

    pub step_faulted : (told : Option EntryValue) (operation : Operation)
        → first_cause (with_current_branch (given_at origin found) repo branch read_versions.version (c (state_at origin found))) ≡ None
        → guarded.Makes (state_at origin found) told operation
        → entries_by view by (making changed.found) result ≡ faulted_entry by operation ∷ [] → HasTried guarded call old new (Err StoreFault)
    step_faulted told operation none makes is = record {
      origin = origin;
      goes = goes;
      ends = faulted origin (caller old.number call) guarded old.seen mid.seen to_reading reading_none found to_step told operation new.seen
          (late_none none) makes (same_version none)
          (stands
          ∙ ap (λ es. found ++ es) (is ∙ ap (λ n. faulted_entry (record { seat = n; call = call }) operation ∷ []) mid_number));
    }

    pub step_without_memory : entries_by view by (making changed.found) result ≡ [] → HasTried guarded call old new (Err NoMemory)
    step_without_memory none = record {
      origin = origin;
      goes = goes;
      ends = subst (λ es. Came lake_rules (caller old.number call) old.seen es) (sym (stands ∙ ap (λ es. found ++ es) none ∙ append-nil found))
          (came_on lake_rules (caller old.number call) old.seen mid.seen found to_reading to_step);
    }

    pub step_refused : (fault : StepFault) → IsRefusal fault
        → first_cause (with_current_branch (given_at origin found) repo branch read_versions.version (c (state_at origin found))) ≡ Some fault
        → entries_by view by (making changed.found) result ≡ [] → HasTried guarded call old new (Err fault)
    step_refused fault is_refusal first none = record {
      origin = origin;
      goes = goes;
      ends = subst (λ es. TryEnds origin (caller old.number call) guarded (Err fault) old.seen es)
          (sym (stands ∙ ap (λ es. found ++ es) none ∙ append-nil found))
          (not_made origin (caller old.number call) guarded old.seen mid.seen to_reading reading_none found to_step (c (state_at origin found)) repo branch
          read_versions.version fault is_refusal (asks (state_at origin found)) (late (state_at origin found))
          (ahead (state_at origin found)) guards
          (was_read.1 ∙ sym (guards (given_at origin mid.seen))) first);
    }

-- ---- a change that is staged

module _ {K : Type 0} (view : KeeperView K) (old mid new : LakeSeat) (call : ℕ) (repo branch path : List ℕ) (change : Change) (read_versions : Versions)
    (read : IsRead view old mid (λ (l : LakeValue K). Ok read_versions ≡ versions_reply (state l) (versions l) repo branch)) where
  abbrev version : ℕ
  version = read_versions.version

  abbrev Stages : Result ℕ StepFault → Type 0
  Stages result = IsChanged view (record { seat = mid.number; call = call }) mid new
      (λ (l : LakeValue K). Some (stage repo branch path change (lake_value l.present)))
      (λ (l : LakeValue K). GivesOrFails result (stage_reply (state l) (versions l) repo branch version)) result

  abbrev StagesAs : Result ℕ StepFault → Type 0
  StagesAs (Ok at) = HasTried (staging repo branch path change) call old new (Ok None)
  StagesAs (Err fault) = HasTried (staging repo branch path change) call old new (Err fault)

  decides_stage : (result : Result ℕ StepFault) (changed : Stages result)
      → Decides (with_current_branch (given_at (origin_of view read.found) changed.found.history) repo branch version
      (write_causes (state_at (origin_of view read.found) changed.found.history) repo branch)) result
  decides_stage result changed =
      answer_changed view mid new call (λ (l : LakeValue K). Some (stage repo branch path change (lake_value l.present)))
      (λ (l : LakeValue K). GivesOrFails result (stage_reply (state l) (versions l) repo branch version)) result changed
      (λ s given. Decides (with_current_branch given repo branch version (write_causes s repo branch)) result)
      (origin_of view read.found) (mid_origin view old mid new call (staging repo branch path change) repo branch read_versions (λ s. refl)
      (λ given. refl) read)
      (λ l says. decided (state l) (with_current_branch (versions l) repo branch version (write_causes (state l) repo branch))
      ((state l).entries + 1) result says)

  pub stage_tried : (result : Result ℕ StepFault) → Stages result → StagesAs result
  stage_tried (Ok at) changed =
      step_accepted view old mid new call (staging repo branch path change) repo branch read_versions (λ s. refl) (λ given. refl) read
      (λ (l : LakeValue K). Some (stage repo branch path change (lake_value l.present))) _ (Ok at) changed
      (λ s. write_causes s repo branch) (λ s. write_asks s repo branch) (λ s. refl) (λ s. refl) (decides_stage (Ok at) changed)
      None (Stage repo branch path change) (decides_stage (Ok at) changed) (refl, refl) refl
  stage_tried (Err StoreFault) changed =
      step_faulted view old mid new call (staging repo branch path change) repo branch read_versions (λ s. refl) (λ given. refl) read
      (λ (l : LakeValue K). Some (stage repo branch path change (lake_value l.present))) _ (Err StoreFault) changed
      (λ s. write_causes s repo branch) (λ s. write_asks s repo branch) (λ s. refl) (λ s. refl) (decides_stage (Err StoreFault) changed)
      None (Stage repo branch path change) (decides_stage (Err StoreFault) changed) (refl, refl) refl
  stage_tried (Err NoMemory) changed =
      step_without_memory view old mid new call (staging repo branch path change) repo branch read_versions (λ s. refl) (λ given. refl) read
      (λ (l : LakeValue K). Some (stage repo branch path change (lake_value l.present))) _ (Err NoMemory) changed
      (λ s. write_causes s repo branch) (λ s. write_asks s repo branch) (λ s. refl) (λ s. refl) (decides_stage (Err NoMemory) changed) refl
  stage_tried (Err fault) changed =
      step_refused view old mid new call (staging repo branch path change) repo branch read_versions (λ s. refl) (λ given. refl) read
      (λ (l : LakeValue K). Some (stage repo branch path change (lake_value l.present))) _ (Err fault) changed
      (λ s. write_causes s repo branch) (λ s. write_asks s repo branch) (λ s. refl) (λ s. refl) (decides_stage (Err fault) changed)
      fault tt (decides_stage (Err fault) changed) refl

-- ---- an entry that is copied

module _ {K : Type 0} (view : KeeperView K) (by : By) (repo branch path from : List ℕ) (e : RefExprValue) (l : LakeStateValue) where
  -- what is copied from where, and the entry by which it is, whether it was accepted or the store failed
  pub record IsCopied (told : Option EntryValue) : Type 0 where
    pub operation : Operation
    pub makes : (copying repo branch path e from).Makes (state_of l) told operation
    pub making : Making
    pub made : copy repo branch path e from l ≡ Some making
    pub is : making.operation ≡ operation

  copied_by : (P : Making → Type 0) (source : Option CopySource) (entry : Option EntryValue)
      → in_it (state_of l) repo (λ r. copy_source r e) ≡ source → copied_entry (state_of l) repo e from ≡ entry
      → IsSomeAnd (option_and_then (λ source. option_map (λ entry. copy_making repo branch path source from entry l) entry) source) P
      → IsCopied entry
  copied_by P None entry none is some = absurd some
  copied_by P (Some source) None leads none some = absurd some
  copied_by P (Some source) (Some entry) leads there some = record {
    operation = Copy repo branch path source from entry;
    makes = (source, entry, leads, there, refl, refl);
    making = copy_making repo branch path source from entry l;
    made = (λ i. option_and_then (λ (s : CopySource). option_map (λ (x : EntryValue). copy_making repo branch path s from x l) (there i)) (leads i));
    is = refl;
  }

  pub copied_where : (P : Making → Type 0) → IsSomeAnd (copy repo branch path e from l) P → IsCopied (copied_entry (state_of l) repo e from)
  copied_where P some = copied_by P (in_it (state_of l) repo (λ r. copy_source r e)) (copied_entry (state_of l) repo e from) refl refl some

module _ {K : Type 0} (view : KeeperView K) (old mid new : LakeSeat) (call : ℕ) (repo branch path : List ℕ) (e : RefExprValue) (from : List ℕ)
    (read_versions : Versions)
    (read : IsRead view old mid (λ (l : LakeValue K). Ok read_versions ≡ versions_reply (state l) (versions l) repo branch)) where
  abbrev copied_version : ℕ
  copied_version = read_versions.version

  abbrev CopyMaking : LakeValue K → Option Making
  CopyMaking l = copy repo branch path e from (lake_value l.present)

  abbrev CopyAnswers : Result (ℕ × EntryValue) StepFault → LakeValue K → Type 0
  CopyAnswers result l = IsCopyReply (state l) (versions l) repo branch copied_version e from result

  abbrev Copies : Result (ℕ × EntryValue) StepFault → Type 0
  Copies result = IsChanged view (record { seat = mid.number; call = call }) mid new CopyMaking (CopyAnswers result) result

  abbrev CopiesAs : Result (ℕ × EntryValue) StepFault → Type 0
  CopiesAs (Ok copied) = HasTried (copying repo branch path e from) call old new (Ok (Some copied.1))
  CopiesAs (Err fault) = HasTried (copying repo branch path e from) call old new (Err fault)

  abbrev copy_causes_by : State → VersionsGiven → Causes
  copy_causes_by s given = with_current_branch given repo branch copied_version (copy_causes_of s repo branch e from)

  abbrev copy_origin : LakeOrigin
  copy_origin = origin_of view read.found

  copy_mid : mid.origin ≡ Some copy_origin
  copy_mid = mid_origin view old mid new call (copying repo branch path e from) repo branch read_versions (λ s. refl) (λ given. refl) read

  decides_copy : (result : Result (ℕ × EntryValue) StepFault) (s : State) (given : VersionsGiven)
      → IsCopyReply s given repo branch copied_version e from result → Decides (copy_causes_by s given) result
  decides_copy (Ok copied) s given says = says.0
  decides_copy (Err StoreFault) s given says = says
  decides_copy (Err NoMemory) s given says = tt
  decides_copy (Err fault) s given says = says

  decided_copy : (result : Result (ℕ × EntryValue) StepFault) (changed : Copies result)
      → Decides (copy_causes_by (state_at copy_origin changed.found.history) (given_at copy_origin changed.found.history)) result
  decided_copy result changed = answer_changed view mid new call CopyMaking (CopyAnswers result) result changed
      (λ s given. Decides (copy_causes_by s given) result) copy_origin copy_mid (λ l says. decides_copy result (state l) (versions l) says)

  -- what was found in memory is so in the state of the history
  makes_found : (result : Result (ℕ × EntryValue) StepFault) (changed : Copies result) (told : Option EntryValue) (operation : Operation)
      → (copying repo branch path e from).Makes (state_of (lake_value changed.found.present)) told operation
      → (copying repo branch path e from).Makes (state_at copy_origin changed.found.history) told operation
  makes_found result changed told operation makes =
      as_found view copy_origin mid changed.found copy_mid changed.finds (λ s given. (copying repo branch path e from).Makes s told operation)
      changed.found.history refl
      (subst (λ s. (copying repo branch path e from).Makes s told operation) (sym changed.finds.holds.stands.replayed) makes)

  same_told : (result : Result (ℕ × EntryValue) StepFault) (changed : Copies result)
      → copied_entry (state_of (lake_value changed.found.present)) repo e from ≡ copied_entry (state changed.found) repo e from
  same_told result changed = ap (λ s. copied_entry s repo e from) (sym changed.finds.holds.stands.replayed)

  pub copy_tried : (result : Result (ℕ × EntryValue) StepFault) → Copies result → CopiesAs result
  copy_tried (Ok copied) changed =
      let l = lake_value changed.found.present in
      let by : By = record { seat = mid.number; call = call } in
      let where_from = copied_where view by repo branch path from e l _ changed.leaves.1 in
      let told = same_told (Ok copied) changed ∙ changed.answer.1.1 in
      subst (λ o. HasTried (copying repo branch path e from) call old new (Ok o)) told
      (step_accepted view old mid new call (copying repo branch path e from) repo branch read_versions (λ s. refl) (λ given. refl) read
      CopyMaking (CopyAnswers (Ok copied)) (Ok copied) changed (λ s. copy_causes_of s repo branch e from) (λ s. copy_asks s repo branch e from) (λ s. refl)
      (λ s. refl)
      (decided_copy (Ok copied) changed) (copied_entry (state_of l) repo e from) where_from.operation (decided_copy (Ok copied) changed)
      (makes_found (Ok copied) changed (copied_entry (state_of l) repo e from) where_from.operation where_from.makes)
      (ap (λ m. entries_by view by m (Ok copied)) where_from.made ∙ ap (λ o. accepted_entry by o ∷ []) where_from.is))
  copy_tried (Err StoreFault) changed =
      let l = lake_value changed.found.present in
      let by : By = record { seat = mid.number; call = call } in
      let where_from = copied_where view by repo branch path from e l _ changed.leaves.1 in
      step_faulted view old mid new call (copying repo branch path e from) repo branch read_versions (λ s. refl) (λ given. refl) read
      CopyMaking (CopyAnswers (Err StoreFault)) (Err StoreFault) changed (λ s. copy_causes_of s repo branch e from) (λ s. copy_asks s repo branch e from)
      (λ s. refl) (λ s. refl) (decided_copy (Err StoreFault) changed) (copied_entry (state_of l) repo e from) where_from.operation
      (decided_copy (Err StoreFault) changed)
      (makes_found (Err StoreFault) changed (copied_entry (state_of l) repo e from) where_from.operation where_from.makes)
      (ap (λ m. entries_by view {X = ℕ × EntryValue} by m (Err StoreFault)) where_from.made ∙ ap (λ o. faulted_entry by o ∷ []) where_from.is)
  copy_tried (Err NoMemory) changed =
      step_without_memory view old mid new call (copying repo branch path e from) repo branch read_versions (λ s. refl) (λ given. refl) read
      CopyMaking (CopyAnswers (Err NoMemory)) (Err NoMemory) changed (λ s. copy_causes_of s repo branch e from) (λ s. copy_asks s repo branch e from)
      (λ s. refl) (λ s. refl) (decided_copy (Err NoMemory) changed) refl
  copy_tried (Err fault) changed =
      step_refused view old mid new call (copying repo branch path e from) repo branch read_versions (λ s. refl) (λ given. refl) read
      CopyMaking (CopyAnswers (Err fault)) (Err fault) changed (λ s. copy_causes_of s repo branch e from) (λ s. copy_asks s repo branch e from)
      (λ s. refl) (λ s. refl) (decided_copy (Err fault) changed) fault tt (decided_copy (Err fault) changed) refl
