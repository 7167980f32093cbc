-- What each change leaves: the lake stands for its history, and the answer is the reply.
use Rattle.std.proofs.Common.{◌≡◌, ◌++◌, ◌∷◌, [], ◌+◌, ℕ, List, refl, sym, ap, ◌∙◌, subst, inl, inr}
use Rattle.std.specs.Prelude.{◌⊎◌, Option, Some, None, IfSome, Result, Ok, Err, IsErrAnd, IsOk, IsSomeAnd, MatchResult}
use Rattle.std.specs.FinMap.{get}
use Rattle.std.specs.Option.{option_map_or}
use Rattle.keeper.specs.Keepers.{MayHaveMade, pairs_after}
use Rattle.keeper.specs.declared.put.Put.{Put}
use Rattle.lake_values.specs.declared.entry.Change.{Change}
use Rattle.lake_model.specs.declared.fault.StepFault.{StepFault}
use Rattle.lake_model.specs.declared.fault.StepFault.TheVariants.{StoreFault, NoMemory}
use Rattle.lake_model.specs.declared.history.By.{By}
use Rattle.lake_model.specs.declared.history.HistoryEntry.{HistoryEntry}
use Rattle.lake_model.specs.declared.history.Operation.{Operation}
use Rattle.lake_model.specs.State.{State}
use Rattle.lake_model.specs.History.{accepted_entry, faulted_entry}
use Rattle.lake_model.specs.Refusals.{Causes, GivesOrFails, IsRefusal, first_cause, unless_refused}
use Rattle.lake_model.specs.Steps.{IsReplyOf}
use Rattle.lake_model.specs.Uncommitted.{put_number}
use Rattle.lake_model.specs.Versions.{VersionsGiven, settings_version}
use Rattle.core_state.specs.Counts.{HasVersions}
use Rattle.core_state.specs.RepositoryStates.{RepositoryStateValue}
use Rattle.core_state.specs.declared.lake.LakeState.{LakeState}
use Rattle.core_state.specs.LakeStates.{LakeStateValue, lake_value}
use Rattle.core_changes.specs.LakeChanges.{after_fault, after_stage, without_ticket}
use Rattle.core_standing.specs.Standing.{MayMake, Stands}
use Rattle.lake_core.specs.Lakes.{LakeValue, state, versions}
use Rattle.core_puts.specs.KeeperViews.{KeeperView}
use Rattle.lake_core.specs.Leaving.{IsOpenedAs, Leaves, parts_of}
use Rattle.core_puts.specs.KeptChanges.{IsAsBefore, IsMade, Keeps, LeavesParts, Making, Parts, unmade}
use Rattle.core_puts.proofs.KeptLemmas.{refused_parts, same_before, starved_parts}

module _ {opened : LakeStateValue} {history : List HistoryEntry} {l : LakeStateValue} {by : By} {operation : Operation}
    {make : LakeStateValue → LakeStateValue} (may : MayMake opened history l by operation make) where
  -- an operation was made, and its entry stands
  pub made_stands : (made : Operation) (new : List HistoryEntry) (next : LakeStateValue)
      → made ≡ operation → new ≡ history ++ accepted_entry by made ∷ [] → next ≡ make l → Stands opened new next
  made_stands made new next is entries makes =
      subst (λ n. Stands opened n next) (sym (entries ∙ ap (λ o. history ++ accepted_entry by o ∷ []) is))
      (subst (λ n. Stands opened (history ++ accepted_entry by operation ∷ []) n) (sym makes) may.accepted)

  -- it wasn't made, and its fault stands, where the store failed
  pub refused_stands : {K : Type 0} (view : KeeperView K) (made : Operation) (puts : List Put) (old new : Parts K) (fault : StepFault)
      → Stands opened history l → made ≡ operation → old.history ≡ history → lake_value old.present ≡ l
      → Keeps {X = Unit {0}} view by (unmade made puts) (Err fault) old new → Stands opened new.history (lake_value new.present)
  refused_stands view made puts old new StoreFault stands is entries same keeps =
      subst (λ n. Stands opened n (lake_value new.present)) (sym (keeps.history
      ∙ ap (λ h. h ++ faulted_entry by made ∷ []) entries ∙ ap (λ o. history ++ faulted_entry by o ∷ []) is))
      (subst (λ n. Stands opened (history ++ faulted_entry by operation ∷ []) n) (sym (keeps.present ∙ ap after_fault same)) may.faulted)
  refused_stands view made puts old new NoMemory stands is entries same keeps =
      subst (λ n. Stands opened n (lake_value new.present)) (sym (keeps.history ∙ entries))
      (subst (λ n. Stands opened history n) (sym (keeps.present ∙ same)) stands)
  refused_stands view made puts old new fault stands is entries same keeps = absurd keeps

-- an answer that nothing refuses
pub accepted : {X : Type 0} {cause : Option StepFault} {answer reply : X} → cause ≡ None → answer ≡ reply → Ok answer ≡ unless_refused cause reply
accepted {X} {cause} {answer} {reply} none same = ap Ok same ∙ ap (λ c. unless_refused c reply) (sym none)

-- a staged change is one entry
one_more : (l : LakeStateValue) (number : Option ℕ) → (option_map_or (λ n. without_ticket n l) number l).entries ≡ l.entries
one_more l None = refl
one_more l (Some number) = refl

pub staged_entries : (repo branch path : List ℕ) (change : Change) (l : LakeStateValue)
    → (after_stage repo branch path change l).entries ≡ l.entries + 1
staged_entries repo branch path change l = ap (λ n. n + 1) (one_more l (put_number change))

-- the version of the settings of a repository, where it is there, is the one given
pub settings_at : (given : VersionsGiven) (l : LakeStateValue) → HasVersions given l → (repo : List ℕ)
    → (o : Option RepositoryStateValue) → get l.repositories repo ≡ o
    → option_map_or (λ r. r.settings) o 0 ≡ settings_version given repo
settings_at given l has repo (Some r) is = sym (has.settings repo r is)
settings_at given l has repo None is = sym (has.unset repo is)

-- what is told of the state and the versions now is told of the lake
pub at_present : {K X : Type 0} (f : State → VersionsGiven → X) {v w : LakeValue K} {s : State}
    → w ≡ v → state w ≡ s → f s (versions w) ≡ f (state v) (versions v)
at_present f {v} {w} is replayed = ap (λ s. f s (versions w)) (sym replayed) ∙ ap (λ v. f (state v) (versions v)) is

-- what holds of the state and the versions now holds of the lake, and the other way round
pub holds_now : {K : Type 0} (P : State → VersionsGiven → Type 0) {v w : LakeValue K} {s : State}
    → w ≡ v → state w ≡ s → P s (versions w) → P (state v) (versions v)
holds_now P {v} {w} is replayed holds = subst (λ v. P (state v) (versions v)) is (subst (λ s. P s (versions w)) (sym replayed) holds)

pub held_then : {K : Type 0} (P : State → VersionsGiven → Type 0) {v w : LakeValue K} {s : State}
    → w ≡ v → state w ≡ s → P (state v) (versions v) → P s (versions w)
held_then P {v} {w} is replayed holds = subst (λ s. P s (versions w)) replayed (subst (λ v. P (state v) (versions v)) (sym is) holds)

-- ---- answers that are faults

-- the reply is the cause that holds
module _ {X : Type 0} (cause : Option StepFault) (reply : X) (each : (fault : StepFault) → cause ≡ Some fault → IsRefusal fault) where
  told : (fault : StepFault) → cause ≡ Some fault → Err fault ≡ unless_refused cause reply
  told fault is = sym (ap (λ c. unless_refused c reply) is)

  cause_told : (fault : StepFault) → cause ≡ Some fault → GivesOrFails {X = X} (Err fault) (unless_refused cause reply)
  cause_told NoMemory is = tt
  cause_told StoreFault is = absurd (each StoreFault is)
  cause_told fault is = told fault is

  -- a test was refused
  pub refused_reply : (answer : Result X StepFault) (fault : StepFault) → IsErrAnd answer (λ e. e ≡ fault) → cause ≡ Some fault
      → GivesOrFails answer (unless_refused cause reply)
  refused_reply (Err e) fault same is = cause_told e (is ∙ ap Some (sym same))
  refused_reply (Ok x) fault same is = absurd same

-- of a change that nothing refuses
module _ {K X : Type 0} (view : KeeperView K) (by : By) (made : Operation) (puts : List Put) (before after : Parts K)
    (cause : Option StepFault) (reply : X) (none : cause ≡ None) where
  none_told : (fault : StepFault) → Keeps {X = Unit {0}} view by (unmade made puts) (Err fault) before after
      → GivesOrFails {X = X} (Err fault) (unless_refused cause reply)
  none_told NoMemory keeps = tt
  none_told StoreFault keeps = subst (λ c. IsOk (unless_refused c reply)) (sym none) refl
  none_told fault keeps = absurd keeps

  -- the keeper refused it
  pub unkept_reply : (answer : Result X StepFault) (fault : StepFault)
      → IsErrAnd answer (λ e. e ≡ fault) → Keeps {X = Unit {0}} view by (unmade made puts) (Err fault) before after
      → GivesOrFails answer (unless_refused cause reply)
  unkept_reply (Err e) fault same keeps =
      none_told e (subst (λ f. Keeps {X = Unit {0}} view by (unmade made puts) (Err f) before after) (sym same) keeps)
  unkept_reply (Ok x) fault same keeps = absurd same

-- ---- answers of changes that hand out what was found

module _ {X : Type 0} (state : State) (c : Causes) (value : Option X)
    (each : (fault : StepFault) → first_cause c ≡ Some fault → IsRefusal fault) where
  found_told : (fault : StepFault) → first_cause c ≡ Some fault → IsReplyOf state c value (Err fault)
  found_told NoMemory is = tt
  found_told StoreFault is = absurd (each StoreFault is)
  found_told fault is = is

  -- a test was refused
  pub refused_found : (answer : Result (ℕ × X) StepFault) (fault : StepFault) → IsErrAnd answer (λ e. e ≡ fault) → first_cause c ≡ Some fault
      → IsReplyOf state c value answer
  refused_found (Err e) fault same is = found_told e (is ∙ ap Some (sym same))
  refused_found (Ok x) fault same is = absurd same

module _ {K X : Type 0} (view : KeeperView K) (by : By) (made : Operation) (puts : List Put) (before after : Parts K)
    (state : State) (c : Causes) (value : Option X) (none : first_cause c ≡ None) where
  found_none : (fault : StepFault) → Keeps {X = Unit {0}} view by (unmade made puts) (Err fault) before after → IsReplyOf state c value (Err fault)
  found_none NoMemory keeps = tt
  found_none StoreFault keeps = none
  found_none fault keeps = absurd keeps

  -- the keeper refused it
  pub unkept_found : (answer : Result (ℕ × X) StepFault) (fault : StepFault) → IsErrAnd answer (λ e. e ≡ fault)
      → Keeps {X = Unit {0}} view by (unmade made puts) (Err fault) before after → IsReplyOf state c value answer
  unkept_found (Err e) fault same keeps =
      found_none e (subst (λ f. Keeps {X = Unit {0}} view by (unmade made puts) (Err f) before after) (sym same) keeps)
  unkept_found (Ok x) fault same keeps = absurd same

-- ---- answers where memory ran out

pub starved_reply : {X : Type 0} (answer reply : Result X StepFault) → IsErrAnd answer (λ e. e ≡ NoMemory) → GivesOrFails answer reply
starved_reply (Err e) reply same = subst (λ e. GivesOrFails (Err e) reply) (sym same) tt
starved_reply (Ok x) reply same = absurd same

pub starved_found : {X : Type 0} (state : State) (c : Causes) (value : Option X) (answer : Result (ℕ × X) StepFault)
    → IsErrAnd answer (λ e. e ≡ NoMemory) → IsReplyOf state c value answer
starved_found {X} state c value (Err e) same = subst (λ e. IsReplyOf {X = X} state c value (Err e)) (sym same) tt
starved_found state c value (Ok x) same = absurd same

module _ {K : Type 0} (view : KeeperView K) (old new : LakeValue K) where
  -- memory ran out, which is no failure of the keeper: nothing that is said changed
  abbrev pub IsLakeAsBefore : Type 0
  IsLakeAsBefore = IsOpenedAs old new × IsAsBefore view (parts_of old) (parts_of new)

  -- a lake that says the same, over the same keeper, is as before
  pub as_before : new.opened ≡ old.opened → new.first ≡ old.first → new.history ≡ old.history
      → lake_value new.present ≡ lake_value old.present → new.keeper ≡ old.keeper → IsLakeAsBefore
  as_before opened first history present keeper =
      (record { opened = opened; first = first }, same_before view (parts_of old) (parts_of new) history present keeper)

  pub starved_leaves : {X : Type 0} (by : By) (made : Option Making) (answer : Result X StepFault)
      → IsErrAnd answer (λ e. e ≡ NoMemory) → IsLakeAsBefore → Leaves view by made answer old new
  starved_leaves by made answer same left =
      (left.0, starved_parts view (parts_of old) (parts_of new) by made answer same left.1)

-- ---- answers of tests that take memory

pub same_err : {X : Type 0} (answer : Result X StepFault) (fault other : StepFault) → IsErrAnd answer (λ e. e ≡ fault) → fault ≡ other
    → IsErrAnd answer (λ e. e ≡ other)
same_err (Err e) fault other same is = same ∙ is
same_err (Ok x) fault other same is = absurd same

-- what such a test answered is answered again
pub told_again : {X : Type 0} (P : X → Type 0) (Q : StepFault → Type 0) (answer : Result X StepFault) (fault : StepFault)
    → IsErrAnd answer (λ e. e ≡ fault) → Q fault → MatchResult answer P Q
told_again P Q (Err e) fault same is = subst Q (sym same) is
told_again P Q (Ok x) fault same is = absurd same

-- a cause refused it, or memory ran out
pub untested_found : {X : Type 0} (state : State) (c : Causes) (value : Option X)
    → ((fault : StepFault) → first_cause c ≡ Some fault → IsRefusal fault)
    → (answer : Result (ℕ × X) StepFault) (fault : StepFault) → IsErrAnd answer (λ e. e ≡ fault)
    → (fault ≡ NoMemory) ⊎ (first_cause c ≡ Some fault) → IsReplyOf state c value answer
untested_found state c value each answer fault same (inl memory) = starved_found state c value answer (same_err answer fault NoMemory same memory)
untested_found state c value each answer fault same (inr is) = refused_found state c value each answer fault same is

pub untested_reply : {X : Type 0} (cause : Option StepFault) (reply : X) → ((fault : StepFault) → cause ≡ Some fault → IsRefusal fault)
    → (answer : Result X StepFault) (fault : StepFault) → IsErrAnd answer (λ e. e ≡ fault)
    → (fault ≡ NoMemory) ⊎ (cause ≡ Some fault) → GivesOrFails answer (unless_refused cause reply)
untested_reply cause reply each answer fault same (inl memory) =
    starved_reply answer (unless_refused cause reply) (same_err answer fault NoMemory same memory)
untested_reply cause reply each answer fault same (inr is) = refused_reply cause reply each answer fault same is

-- ---- what is left of the lake

-- of a change that a test refused
module _ {K : Type 0} (view : KeeperView K) (by : By) (made : Option Making) (old new : LakeValue K) (same : new ≡ old) where
  pub refused_leaves : {X : Type 0} (answer : Result X StepFault) (fault : StepFault) → IsErrAnd answer (λ e. e ≡ fault)
      → IsRefusal fault → Leaves view by made answer old new
  refused_leaves answer fault eq is = (
    record { opened = ap (λ (l : LakeValue K). l.opened) same; first = ap (λ (l : LakeValue K). l.first) same },
    refused_parts view (parts_of old) (parts_of new) by made answer fault eq is (ap parts_of same),
  )

-- what was made ready says the same, so the lake is as before
module _ {K : Type 0} (view : KeeperView K) {first : K} (opened present ready : LakeState) (history : List HistoryEntry) (keeper : K)
    (lake : LakeValue K) (was : record { opened = opened; first = first; history = history; present = present; keeper = keeper } ≡ lake)
    (same : lake_value ready ≡ lake_value present) where
  pub unready_leaves : {X : Type 0} (by : By) (made : Option Making) (answer : Result X StepFault) → IsErrAnd answer (λ e. e ≡ NoMemory)
      → Leaves view by made answer lake (record { opened = opened; first = first; history = history; present = ready; keeper = keeper })
  unready_leaves by made answer starved =
      let now : LakeValue K = record { opened = opened; first = first; history = history; present = ready; keeper = keeper } in
      starved_leaves view lake now by made answer starved (subst (λ old. IsLakeAsBefore view old now) was
      (as_before view (record { opened = opened; first = first; history = history; present = present; keeper = keeper }) now refl refl refl same refl))

  -- of one that a cause refused, or memory: where a cause did, it is the same
  pub untested_leaves : {X : Type 0} (by : By) (made : Option Making) (answer : Result X StepFault) (fault : StepFault)
      → IsErrAnd answer (λ e. e ≡ fault) → (fault ≡ NoMemory) ⊎ (IsRefusal fault × (ready ≡ present))
      → Leaves view by made answer lake (record { opened = opened; first = first; history = history; present = ready; keeper = keeper })
  untested_leaves by made answer fault is (inl memory) = unready_leaves by made answer (same_err answer fault NoMemory is memory)
  untested_leaves by made answer fault is (inr refusal) =
      refused_leaves view by made lake (record { opened = opened; first = first; history = history; present = ready; keeper = keeper })
      (ap (λ p. record { opened = opened; first = first; history = history; present = p; keeper = keeper }) refusal.1 ∙ was) answer fault is refusal.0

module _ {K : Type 0} (view : KeeperView K) (by : By) (make : LakeState → Option Making) (making : Making) (made : Operation) (puts : List Put)
    (is : made ≡ making.operation) (are : puts ≡ making.puts)
    {first : K} (opened present ready : LakeState) (history : List HistoryEntry) (keeper : K) (after : Parts K)
    (same : lake_value ready ≡ lake_value present) (makes : make present ≡ Some making) (lake : LakeValue K)
    (was : record { opened = opened; first = first; history = history; present = present; keeper = keeper } ≡ lake) where
  abbrev found : LakeValue K
  found = record { opened = opened; first = first; history = history; present = present; keeper = keeper }

  abbrev last : LakeState → LakeValue K
  last next = record { opened = opened; first = first; history = after.history; present = next; keeper = after.keeper }

  -- the parts that the keeper's call found
  abbrev called : Parts K
  called = record { keeper = keeper; history = history; present = ready }

  refusal_leaves : (X : Type 0) (fault : StepFault) → Keeps {X = Unit {0}} view by (unmade made puts) (Err fault) called after
      → LeavesParts {X = X} view by (Some making) (Err fault) (parts_of found) (parts_of (last after.present))
  refusal_leaves X NoMemory keeps = record {
    history = keeps.history;
    present = keeps.present ∙ same;
    kept = keeps.kept;
    calls = keeps.calls;
    successes = keeps.successes;
    quiet = keeps.quiet;
    keeper = keeps.keeper;
  }
  refusal_leaves X StoreFault keeps = record {
    history = keeps.history ∙ ap (λ o. history ++ faulted_entry by o ∷ []) is;
    present = keeps.present ∙ ap after_fault same;
    kept = subst (λ ps. IfSome (view.kept keeper) (λ b. IfSome (view.kept after.keeper) (MayHaveMade ps b))) are keeps.kept;
    once = keeps.once;
    successes = keeps.successes;
    rose = keeps.rose;
    keeper = keeps.keeper;
  }
  refusal_leaves X fault keeps = absurd keeps

  -- the keeper refused it
  pub unkept_leaves : {X : Type 0} (answer : Result X StepFault) (fault : StepFault) → IsErrAnd answer (λ e. e ≡ fault)
      → Keeps {X = Unit {0}} view by (unmade made puts) (Err fault) called after
      → Leaves view by (make lake.present) answer lake (last after.present)
  unkept_leaves {X} (Err e) fault eq keeps =
      subst (λ v. Leaves {X = X} view by (make v.present) (Err e) v (last after.present)) was (
        record { opened = refl; first = refl },
        subst (λ o. LeavesParts {X = X} view by o (Err e) (parts_of found) (parts_of (last after.present))) (sym makes)
            (refusal_leaves X e (subst (λ f. Keeps {X = Unit {0}} view by (unmade made puts) (Err f) called after) (sym eq) keeps)),
      )
  unkept_leaves (Ok x) fault eq keeps = absurd eq

  -- it was made
  pub made_leaves : (next : LakeState) → IsMade view by (unmade made puts) called after
      → lake_value next ≡ making.after (lake_value present)
      → IsOpenedAs lake (last next) × IsSomeAnd (make lake.present) (λ m. IsMade view by m (parts_of lake) (parts_of (last next)))
  made_leaves next kept changed =
      subst (λ v. IsOpenedAs v (last next) × IsSomeAnd (make v.present) (λ m. IsMade view by m (parts_of v) (parts_of (last next)))) was (
        record { opened = refl; first = refl },
        subst (λ o. IsSomeAnd o (λ m. IsMade view by m (parts_of found) (parts_of (last next)))) (sym makes) (record {
          history = kept.history ∙ ap (λ o. history ++ accepted_entry by o ∷ []) is;
          present = changed;
          kept = subst (λ ps. IfSome (view.kept keeper) (λ b. view.kept after.keeper ≡ Some (pairs_after ps b))) are kept.kept;
          once = kept.once;
          succeeded = kept.succeeded;
          quiet = kept.quiet;
          keeper = kept.keeper;
        }),
      )
