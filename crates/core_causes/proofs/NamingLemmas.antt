-- What the tests answer of branches and tags that go, and of settings.
use Rattle.std.proofs.Common.{◌≡◌, ℕ, Bool, true, false, List, not, refl, sym, ap, ◌∙◌}
use Rattle.std.proofs.lemmas.Result.{MatchResult-weaker}
use Rattle.std.specs.Prelude.{◌==◌, ◌&&◌, Option, Some, None, is_none, is_some, option_map, Result, MatchResult}
use Rattle.std.specs.FinMap.{get, contains_key}
use Rattle.std.specs.Option.{option_map_or}
use Rattle.std.specs.Str.{bytes_eq}
use Rattle.lake_base.specs.declared.digest.Digest.{Digest}
use Rattle.lake_values.specs.declared.settings.Note.{Note}
use Rattle.lake_values.specs.declared.settings.NoteName.{NoteName}
use Rattle.lake_model.specs.declared.fault.StepFault.{StepFault}
use Rattle.lake_model.specs.declared.fault.StepFault.TheVariants.{Changed, DefaultBranch, NoNote, NoRef, Protected}
use Rattle.lake_model.specs.declared.fault.Reference.TheVariants.{Named}
use Rattle.lake_model.specs.Branches.{protected_by}
use Rattle.lake_model.specs.NoteChanges.{note_at}
use Rattle.lake_model.specs.Refusals.{cause_if, causes_of_change, first_cause}
use Rattle.lake_model.specs.Steps.{delete_branch_causes, delete_tag_causes, holds_in, in_it, is_expected, set_note_causes}
use Rattle.lake_model.specs.Versions.{VersionsGiven, settings_version}
use Rattle.core_state.specs.BranchStates.{BranchStateValue}
use Rattle.core_state.specs.Counts.{HasVersions}
use Rattle.core_state.specs.RepositoryStates.{RepositoryStateValue, repository_of}
use Rattle.core_state.specs.LakeStates.{LakeStateValue, state_of}
use Rattle.core_causes.specs.Asking.{Asks}
use Rattle.core_causes.proofs.CommonLemmas.{asked, branch_passes, protection_is, repository_passes, tested}
use Rattle.core_causes.proofs.FirstCauseLemmas.{change_passes, default_branch_refuses, note_refuses, nothing_refuses, protected_refuses, reference_refuses}
use Rattle.core_causes.proofs.FirstCauseLemmas.{version_refuses}

module _ (l : LakeStateValue) (repo : List ℕ) (r : RepositoryStateValue) (at : get l.repositories repo ≡ Some r)
    (change : first_cause (causes_of_change (state_of l)) ≡ None) where
  -- ---- a branch that is there goes
  module _ (name : List ℕ) (b : BranchStateValue) (has : get r.branches name ≡ Some b) where
    default_is : (t : Bool) → bytes_eq r.default_branch name ≡ t
        → cause_if (holds_in (state_of l) repo (λ x. bytes_eq x.default_branch name)) DefaultBranch ≡ cause_if t DefaultBranch
    default_is t is = ap (λ h. cause_if h DefaultBranch) (tested l repo r at (λ x. bytes_eq x.default_branch name) ∙ is)

    -- it is the default branch
    pub default_first : bytes_eq r.default_branch name ≡ true → first_cause (delete_branch_causes (state_of l) repo name) ≡ Some DefaultBranch
    default_first same =
        default_branch_refuses (delete_branch_causes (state_of l) repo name) (change_passes (state_of l) change)
        (repository_passes l repo r at) (branch_passes l repo r at name b has) refl refl refl DefaultBranch (default_is true same)

    -- it is another one, by the answer of the test of its protection
    pub delete_answer : {X : Type 0} (answer : Result X StepFault) → bytes_eq r.default_branch name ≡ false
        → MatchResult answer (λ x. protected_by (repository_of r).notes.protection name ≡ None)
        (λ fault. option_map Protected (protected_by (repository_of r).notes.protection name) ≡ Some fault)
        → Asks (delete_branch_causes (state_of l) repo name) answer
    delete_answer answer differ test =
        let causes = delete_branch_causes (state_of l) repo name in
        let passes = change_passes (state_of l) change in
        let repository = repository_passes l repo r at in
        let reference = branch_passes l repo r at name b has in
        let default = default_is false differ in
        let protection = protection_is l repo r at name in
        MatchResult-weaker answer test
        (λ x free. nothing_refuses causes passes repository reference refl refl refl default (protection ∙ ap (option_map Protected) free) refl refl refl refl)
        (λ fault protected. protected_refuses causes passes repository reference refl refl refl default fault (protection ∙ protected))

  -- ---- a tag goes
  module _ (name : List ℕ) where
    tag_is : (o : Option Digest) → get r.tags name ≡ o
        → cause_if (not (holds_in (state_of l) repo (λ x. contains_key x.tags name))) (NoRef Named) ≡ cause_if (not (is_some o)) (NoRef Named)
    tag_is o is = ap (λ h. cause_if (not h) (NoRef Named)) (tested l repo r at (λ x. contains_key x.tags name) ∙ ap is_some is)

    -- it isn't there
    pub tag_first : get r.tags name ≡ None → first_cause (delete_tag_causes (state_of l) repo name) ≡ Some (NoRef Named)
    tag_first none =
        reference_refuses (delete_tag_causes (state_of l) repo name) (change_passes (state_of l) change)
        (repository_passes l repo r at) (NoRef Named) (tag_is None none)

    -- it is
    pub tag_passes : (id : Digest) → get r.tags name ≡ Some id → first_cause (delete_tag_causes (state_of l) repo name) ≡ None
    tag_passes id is =
        nothing_refuses (delete_tag_causes (state_of l) repo name) (change_passes (state_of l) change)
        (repository_passes l repo r at) (tag_is (Some id) is) refl refl refl refl refl refl refl refl refl

  -- ---- a setting is set or deleted
  module _ (given : VersionsGiven) (counts : HasVersions given l) (expected : Option ℕ) (name : NoteName) (note : Option Note) where
    note_is : (t : Bool) → (is_none note && is_none (note_at name (repository_of r).notes)) ≡ t
        → cause_if (is_none note && is_none (in_it (state_of l) repo (λ x. note_at name x.notes))) NoNote ≡ cause_if t NoNote
    note_is t is = ap (λ o. cause_if (is_none note && is_none o) NoNote) (asked l repo r at (λ x. note_at name x.notes)) ∙ ap (λ h. cause_if h NoNote) is

    -- one that is deleted isn't there
    pub note_first : (is_none note && is_none (note_at name (repository_of r).notes)) ≡ true
        → first_cause (set_note_causes (state_of l) given repo expected name note) ≡ Some NoNote
    note_first lacks =
        note_refuses (set_note_causes (state_of l) given repo expected name note) (change_passes (state_of l) change)
        (repository_passes l repo r at) refl refl NoNote (note_is true lacks)

    expected_is : (o : Option ℕ) → is_expected given repo o ≡ option_map_or (λ version. version == r.settings) o true
    expected_is None = refl
    expected_is (Some version) = ap (λ now. version == now) (counts.settings repo r at)

    version_is : (t : Bool) → option_map_or (λ version. version == r.settings) expected true ≡ t
        → cause_if (not (is_expected given repo expected)) (Changed 0 (settings_version given repo)) ≡ cause_if (not t) (Changed 0 r.settings)
    version_is t is = λ i. cause_if (not ((expected_is expected ∙ is) i)) (Changed 0 (counts.settings repo r at i))

    -- none is lacked, by the answer of the test of the version
    pub note_answer : {X : Type 0} (answer : Result X StepFault) → (is_none note && is_none (note_at name (repository_of r).notes)) ≡ false
        → MatchResult answer (λ x. option_map_or (λ version. version == r.settings) expected true ≡ true)
        (λ fault. (fault ≡ Changed 0 r.settings) × (option_map_or (λ version. version == r.settings) expected true ≡ false))
        → Asks (set_note_causes (state_of l) given repo expected name note) answer
    note_answer answer has test =
        let causes = set_note_causes (state_of l) given repo expected name note in
        let passes = change_passes (state_of l) change in
        let repository = repository_passes l repo r at in
        MatchResult-weaker answer test
        (λ x same. nothing_refuses causes passes repository refl refl (note_is false has) refl refl refl (version_is true same) refl refl refl)
        (λ fault changed.
        version_refuses causes passes repository refl refl (note_is false has) refl refl refl fault (version_is false changed.1 ∙ ap Some (sym changed.0)))
