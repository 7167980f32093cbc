-- What a step decides that makes a new head: nothing refuses the head, or the first of its causes does, or its versions.
use Rattle.std.proofs.Common.{◌≡◌, ◌≢◌, ◌==◌, ◌&&◌, ℕ, Bool, true, false, not, List, [], ◌∷◌, Option, Some, None, refl, sym, ap, subst, ◌∙◌, eq-eqb}
use Rattle.std.proofs.Common.{◌⊎◌, inl, inr}
use Rattle.std.proofs.lemmas.Bool.{and_parts, eqb-true}
use Rattle.std.specs.Prelude.{IfSome, if◌then◌else◌, option_and_then, option_map, is_some}
use Rattle.std.specs.FinMap.{contains_key, get}
use Rattle.std.specs.Option.{option_or}
use Rattle.lake_base.specs.declared.digest.Digest.{Digest}
use Rattle.lake_values.specs.Commit.{CommitRecordValue}
use Rattle.lake_format.specs.Spelling.{commit_id}
use Rattle.meta_range.specs.Ranges.{TreeValue}
use Rattle.lake_model.specs.declared.fault.HeadRefusal.{HeadRefusal}
use Rattle.lake_model.specs.declared.fault.Reference.TheVariants.{Named}
use Rattle.lake_model.specs.declared.fault.StepFault.{StepFault}
use Rattle.lake_model.specs.declared.fault.StepFault.TheVariants as step
use Rattle.lake_model.specs.HeadRefusals.{ReadingRefusal, head_refusals, refused_on}
use Rattle.lake_model.specs.HeadRefusals as reading
use Rattle.lake_model.specs.Refusals.{Causes, Clash, IsRefusal, cause_if, causes_of_change, clash_fault, first_cause, first_of, with_branch}
use Rattle.lake_model.specs.State.{Branch, Repository, State, branch_of, is_expired}
use Rattle.lake_model.specs.Steps.{SwapRule, expired_fault, in_it, is_current, new_commit, new_head_causes, swap_causes, swap_expired, write_causes}
use Rattle.lake_model.specs.Versions.{VersionsGiven, branch_version, settings_version}
use Rattle.lake_laws.specs.VersionGivers.{branch_and_settings}
use Rattle.lake_laws.proofs.CauseLemmas.{HasNoCause, no_cause, or_none, test_fails, test_holds}
use Rattle.lake_laws.proofs.HeadRefusalLemmas.{passes_reading}
use Rattle.lake_laws.proofs.HeadStepLemmas.{without_versions}
use Rattle.lake_laws.proofs.PlaceLemmas.{asked, branch_there}
use Rattle.lake_core.specs.HeadConditions.{IsReadyFor}
use Rattle.flow_steps.specs.FlowTries.{first_before_versions}
use Rattle.flow_steps.proofs.VersionCauseLemmas.{AsksNone, IsUnversioned, refused_for, write_asks}
use Rattle.head_steps.specs.NewHeads.{IsClashIn, IsFree, NewHead, early_refusal, late_causes, rule_of}

-- ---- what a reading is refused for as a step is

-- the first cause at a reading, by whether the repository and the branch are there, the source is expired, and by what refuses
-- the head
abbrev unread_by : (repository branch : Bool) → (expired : Option StepFault) → Option HeadRefusal → Option ReadingRefusal
unread_by repository branch expired refused = first_of
    (option_map reading.Step (cause_if (not repository) step.NoRepo) ∷ option_map reading.Step (cause_if (not branch) (step.NoRef Named))
    ∷ option_map reading.Step expired ∷ option_map reading.Head refused ∷ [])

-- a fault that is neither for a version nor for want of memory, nor of the store
abbrev pub IsTold : StepFault → Type 0
IsTold fault = IsUnversioned fault × IsRefusal fault

one_fault : (one fault : StepFault) → IsTold one → Some (reading.Step one) ≡ Some (reading.Step fault) → IsTold fault
one_fault one fault told is = let same : one ≡ fault = cc (is) in subst IsTold same told

unread_told : (repository branch : Bool) (expired : Option StepFault) (refused : Option HeadRefusal) (fault : StepFault) → IfSome expired IsTold
    → unread_by repository branch expired refused ≡ Some (reading.Step fault) → IsTold fault
unread_told false branch expired refused fault told is = one_fault step.NoRepo fault (tt, tt) is
unread_told true false expired refused fault told is = one_fault (step.NoRef Named) fault (tt, tt) is
unread_told true true (Some one) refused fault told is = one_fault one fault told is
unread_told true true None (Some head) fault told is = absurd cc
unread_told true true None None fault told is = absurd cc

expired_told : (expired : Bool) (id : Digest) → IfSome (cause_if expired (step.Expired id)) IsTold
expired_told true id = (tt, tt)
expired_told false id = tt

source_told : (r : Repository) (source : Option Digest) → IfSome (option_and_then (expired_fault r) source) IsTold
source_told r None = tt
source_told r (Some id) = expired_told (is_expired r id) id

sources_told : (found : Option Repository) (source : Option Digest)
    → IfSome (option_and_then (λ (r : Repository). option_and_then (expired_fault r) source) found) IsTold
sources_told None source = tt
sources_told (Some r) source = source_told r source

pub reading_told : (head : NewHead) (state : State) (fault : StepFault) → early_refusal head state ≡ Some (reading.Step fault) → IsTold fault
reading_told head state fault is =
    unread_told (contains_key state.repositories head.repo) (is_some (branch_of state head.repo head.branch))
    (in_it state head.repo (λ r. option_and_then (expired_fault r) (rule_of head).source))
    (refused_on state head.repo head.branch (head_refusals head.kind head.branch head.about)) fault
    (sources_told (get state.repositories head.repo) (rule_of head).source) is

-- ---- the causes of a step that makes a new head

module _ (state : State) (repo branch : List ℕ) where
  -- those that it asks beside its commit, by whether protection refuses it
  abbrev plain : Bool → Causes
  plain protects = if protects then write_causes state repo branch else with_branch state repo branch (causes_of_change state)

  unasked : (protects : Bool) → (plain protects).version ≡ None
  unasked true = refl
  unasked false = refl

  same_branch : (protects : Bool) → (plain protects).reference ≡ cause_if (not (is_some (branch_of state repo branch))) (step.NoRef Named)
  same_branch true = refl
  same_branch false = refl

  expired_unversioned : (expired : Bool) (id : Digest) → IfSome (cause_if expired (step.Expired id)) IsUnversioned
  expired_unversioned true id = tt
  expired_unversioned false id = tt

  faults_unversioned : {X : Type 0} (f : X → Option StepFault) (o : Option X) → ((x : X) → IfSome (f x) IsUnversioned)
      → IfSome (option_and_then f o) IsUnversioned
  faults_unversioned f (Some x) each = each x
  faults_unversioned f None each = tt

  either_unversioned : (a b : Option StepFault) → IfSome a IsUnversioned → IfSome b IsUnversioned → IfSome (option_or a b) IsUnversioned
  either_unversioned (Some fault) b is other = is
  either_unversioned None b is other = other

  clash_unversioned : (clash : Option Clash) → IfSome (clash_fault clash) IsUnversioned
  clash_unversioned (Some clash) = tt
  clash_unversioned None = tt

  module _ (rule : SwapRule) where
    commit_unversioned : IfSome (swap_expired state repo branch rule) IsUnversioned
    commit_unversioned = faults_unversioned
        (λ (r : Repository). option_or (option_and_then (expired_fault r) rule.source)
        (option_and_then (λ (commit : CommitRecordValue). expired_fault r (commit_id commit)) (new_commit state repo branch rule)))
        (get state.repositories repo)
        (λ r. either_unversioned (option_and_then (expired_fault r) rule.source)
        (option_and_then (λ (commit : CommitRecordValue). expired_fault r (commit_id commit)) (new_commit state repo branch rule))
        (faults_unversioned (expired_fault r) rule.source (λ id. expired_unversioned (is_expired r id) id))
        (faults_unversioned (λ (commit : CommitRecordValue). expired_fault r (commit_id commit)) (new_commit state repo branch rule)
        (λ commit. expired_unversioned (is_expired r (commit_id commit)) (commit_id commit))))

    -- none of them is a version
    asks_by : (protects : Bool) (clash : Option Clash)
        → AsksNone (record (plain protects) { expired = swap_expired state repo branch rule; clash = clash_fault clash })
    asks_by true clash = record {
      unasked = refl;
      early = (write_asks state repo branch).early;
      late = (tt, (commit_unversioned, (clash_unversioned clash, tt)));
    }
    asks_by false clash =
        let asks = (write_asks state repo branch).early in
        record {
          unasked = refl;
          early = (asks.0, (asks.1.0, (asks.1.1.0, (asks.1.1.1.0, (tt, (tt, (tt, (tt, (tt, tt)))))))));
          late = (tt, (commit_unversioned, (clash_unversioned clash, tt)));
        }

    pub head_asks : (clash : Option Clash) → AsksNone (new_head_causes state repo branch rule clash)
    head_asks clash = asks_by rule.protects clash

-- none of those of a seal is
pub branch_asks : (state : State) (repo branch : List ℕ) → AsksNone (with_branch state repo branch (causes_of_change state))
branch_asks state repo branch =
    let asks = (write_asks state repo branch).early in
    record {
      unasked = refl;
      early = (asks.0, (asks.1.0, (asks.1.1.0, (asks.1.1.1.0, (tt, (tt, (tt, (tt, (tt, tt)))))))));
      late = (tt, (tt, (tt, tt)));
    }

-- ---- nothing refuses it

no_clash_fault : (clash : Option Clash) → clash_fault clash ≡ None → clash ≡ None
no_clash_fault None is = refl
no_clash_fault (Some clash) is = absurd cc

live_source : (r : Repository) (source : Option Digest) → option_and_then (expired_fault r) source ≡ None → IfSome source (λ id. is_expired r id ≡ false)
live_source r None none = tt
live_source r (Some id) none = test_fails (is_expired r id) (step.Expired id) none

both_same : (a b c d : ℕ) → ((a == c) && (b == d)) ≡ false → a ≡ c → b ≡ d → ⊥
both_same a b c d differ one two =
    let first = eq-eqb a c one in
    let second = eq-eqb b d two in
    absurd cc

module _ (head : NewHead) (state : State) (given : VersionsGiven) (version settings : ℕ) (tree : TreeValue)
    (ready : IsReadyFor state given head.repo head.branch version settings head.kind head.about tree) where
  -- its causes, with versions
  abbrev pub guarded_causes : Option Clash → Causes
  guarded_causes clash = swap_causes state given head.repo head.branch version settings (rule_of head) clash

  module _ (clash : Option Clash) (none : first_cause (guarded_causes clash) ≡ None) where
    no : HasNoCause (guarded_causes clash)
    no = no_cause (guarded_causes clash) none

    current : is_current given head.repo head.branch version settings ≡ true
    current = test_holds (is_current given head.repo head.branch version settings) (step.Changed _ _) no.version

    branch_none : cause_if (not (is_some (branch_of state head.repo head.branch))) (step.NoRef Named) ≡ None
    branch_none = sym (same_branch state head.repo head.branch (rule_of head).protects) ∙ no.reference

    -- it is worth making: the source isn't expired, and the draft was ready
    worth_there : (r : Repository) (b : Branch) → get state.repositories head.repo ≡ Some r → get r.branches head.branch ≡ Some b
        → early_refusal head state ≡ None
    worth_there r b at on =
        let is = ready current r b at on in
        let expired = asked state head.repo
        (λ (q : Repository). option_or (option_and_then (expired_fault q) (rule_of head).source)
        (option_and_then (λ (commit : CommitRecordValue). expired_fault q (commit_id commit)) (new_commit state head.repo head.branch (rule_of head))))
        r None at no.expired in
        passes_reading state head.repo head.branch head.kind head.about r b at on
        (record { live = live_source r (rule_of head).source (or_none _ _ expired).0; worth = is.worth; allowed = is.allowed })

    worth : early_refusal head state ≡ None
    worth = (branch_there state head.repo head.branch (λ r b. early_refusal head state ≡ None) branch_none worth_there).2.2

    same_clash : clash ≡ None
    same_clash = no_clash_fault clash no.clash

    -- its versions are those that were read
    pub versions_same : (read : VersionsGiven) → version ≡ branch_version read head.repo head.branch → settings ≡ settings_version read head.repo
        → branch_and_settings head.repo head.branch given ≡ branch_and_settings head.repo head.branch read
    versions_same read was were =
        let both = and_parts (version == branch_version given head.repo head.branch) (settings == settings_version given head.repo) current in
        let branch = eqb-true version (branch_version given head.repo head.branch) both.0 in
        let setting = eqb-true settings (settings_version given head.repo) both.1 in
        (λ i. ((sym branch ∙ was) i, (sym setting ∙ were) i))

    pub is_free : IsClashIn head state clash → IsFree head state
    is_free is_clash = record {
      none = subst (λ c. first_cause (late_causes head state c) ≡ None) same_clash
          (without_versions (late_causes head state clash) (is_current given head.repo head.branch version settings)
          (branch_version given head.repo head.branch) (settings_version given head.repo) (unasked state head.repo head.branch (rule_of head).protects) none);
      no_clash = subst (IsClashIn head state) same_clash is_clash;
      worth = worth;
    }

-- ---- it is refused: for its versions, or by the first of its causes without them

module _ (head : NewHead) (state : State) (given read : VersionsGiven) (version settings : ℕ)
    (was : version ≡ branch_version read head.repo head.branch) (were : settings ≡ settings_version read head.repo) where
  other_versions : is_current given head.repo head.branch version settings ≡ false
      → branch_and_settings head.repo head.branch given ≢ branch_and_settings head.repo head.branch read
  other_versions differ same =
      both_same version settings (branch_version given head.repo head.branch) (settings_version given head.repo) differ
      (was ∙ sym (ap (λ (p : ℕ × ℕ). p.0) same)) (were ∙ sym (ap (λ (p : ℕ × ℕ). p.1) same))

  pub refused_by : (clash : Option Clash) (fault : StepFault)
      → first_cause (swap_causes state given head.repo head.branch version settings (rule_of head) clash) ≡ Some fault
      → ((branch_and_settings head.repo head.branch given ≢ branch_and_settings head.repo head.branch read)
      × (first_before_versions (late_causes head state None) ≡ None)
      × (fault ≡ step.Changed (branch_version given head.repo head.branch) (settings_version given head.repo)))
      ⊎ ((first_cause (late_causes head state clash) ≡ Some fault) × IsUnversioned fault)
  refused_by clash fault first =
      elim (refused_for (late_causes head state clash) (is_current given head.repo head.branch version settings)
      (branch_version given head.repo head.branch) (settings_version given head.repo) fault
      (head_asks state head.repo head.branch (rule_of head) clash) first) [
        | inl changed ↦ inl (other_versions changed.0, changed.1, changed.2)
        | inr plain ↦ inr plain
      ]
