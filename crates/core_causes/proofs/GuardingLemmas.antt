-- What the test of a new head answers, which is guarded by versions.
use Rattle.std.proofs.Common.{◌≡◌, ℕ, Bool, true, false, not, List, refl, sym, ap, ◌∙◌}
use Rattle.std.specs.Prelude.{◌==◌, ◌&&◌, Option, Some, None, option_map, Result, IsErrAnd, MatchResult, if◌then◌else◌}
use Rattle.std.specs.FinMap.{get}
use Rattle.lake_model.specs.declared.fault.StepFault.{StepFault}
use Rattle.lake_model.specs.declared.fault.StepFault.TheVariants.{Changed, NoRef, NoRepo, Protected}
use Rattle.lake_model.specs.declared.fault.Reference.TheVariants.{Named}
use Rattle.lake_model.specs.Branches.{protected_by}
use Rattle.lake_model.specs.Refusals.{cause_if, causes_of_change, first_cause}
use Rattle.lake_model.specs.Steps.{is_current}
use Rattle.lake_model.specs.Versions.{VersionsGiven, branch_version, settings_version}
use Rattle.core_state.specs.BranchStates.{BranchStateValue}
use Rattle.core_state.specs.Counts.{HasVersions}
use Rattle.core_state.specs.RepositoryStates.{RepositoryStateValue, repository_of}
use Rattle.core_state.specs.LakeStates.{LakeStateValue, state_of}
use Rattle.core_causes.specs.Guarding.{guard_causes}
use Rattle.core_causes.proofs.CommonLemmas.{branch_passes, protection_is, repository_passes, without_branch, without_repository}
use Rattle.core_causes.proofs.FirstCauseLemmas.{change_passes, nothing_refuses, protected_refuses, version_refuses}

module _ (l : LakeStateValue) (given : VersionsGiven) (repo branch : List ℕ) (version settings : ℕ)
    (change : first_cause (causes_of_change (state_of l)) ≡ None) where
  -- the repository isn't there
  pub no_repository : {X : Type 0} (P : X → Type 0) (protects : Bool) (answer : Result X StepFault) (told : StepFault) → IsErrAnd answer (λ e. e ≡ told)
      → (told ≡ NoRepo) × (get l.repositories repo ≡ None)
      → MatchResult answer P (λ e. first_cause (guard_causes protects (state_of l) given repo branch version settings) ≡ Some e)
  no_repository P true =
      without_repository l repo P (guard_causes true (state_of l) given repo branch version settings) (change_passes (state_of l) change)
  no_repository P false =
      without_repository l repo P (guard_causes false (state_of l) given repo branch version settings) (change_passes (state_of l) change)

  module _ (r : RepositoryStateValue) (at : get l.repositories repo ≡ Some r) where
    -- its branch isn't there
    pub no_branch : {X : Type 0} (P : X → Type 0) (protects : Bool) (answer : Result X StepFault) (told : StepFault) → IsErrAnd answer (λ e. e ≡ told)
        → (told ≡ NoRef Named) × (get r.branches branch ≡ None)
        → MatchResult answer P (λ e. first_cause (guard_causes protects (state_of l) given repo branch version settings) ≡ Some e)
    no_branch P true =
        without_branch l repo r at P branch (guard_causes true (state_of l) given repo branch version settings) (change_passes (state_of l) change)
    no_branch P false =
        without_branch l repo r at P branch (guard_causes false (state_of l) given repo branch version settings) (change_passes (state_of l) change)

    module _ (b : BranchStateValue) (has : get r.branches branch ≡ Some b) where
      -- its protection, where it counts
      abbrev counted : Bool → Option StepFault
      counted protects = if protects then option_map Protected (protected_by (repository_of r).notes.protection branch) else None

      -- it is protected
      pub guard_protected : (protects : Bool) (fault : StepFault) → counted protects ≡ Some fault
          → first_cause (guard_causes protects (state_of l) given repo branch version settings) ≡ Some fault
      guard_protected true fault is =
          protected_refuses (guard_causes true (state_of l) given repo branch version settings) (change_passes (state_of l) change)
          (repository_passes l repo r at) (branch_passes l repo r at branch b has) refl refl refl refl fault (protection_is l repo r at branch ∙ is)
      guard_protected false fault is = absurd cc

      module _ (counts : HasVersions given l) where
        current_is : (t : Bool) → ((version == b.version) && (settings == r.settings)) ≡ t
            → cause_if (not (is_current given repo branch version settings)) (Changed (branch_version given repo branch) (settings_version given repo))
            ≡ cause_if (not t) (Changed b.version r.settings)
        current_is t is =
            (λ i. cause_if (not ((version == counts.branches repo r branch b at has i) && (settings == counts.settings repo r at i)))
            (Changed (counts.branches repo r branch b at has i) (counts.settings repo r at i)))
            ∙ ap (λ h. cause_if (not h) (Changed b.version r.settings)) is

        -- one of its versions is another one
        pub guard_changed : (protects : Bool) → counted protects ≡ None → (fault : StepFault)
            → (fault ≡ Changed b.version r.settings) × (((version == b.version) && (settings == r.settings)) ≡ false)
            → first_cause (guard_causes protects (state_of l) given repo branch version settings) ≡ Some fault
        guard_changed true free fault is =
            version_refuses (guard_causes true (state_of l) given repo branch version settings) (change_passes (state_of l) change)
            (repository_passes l repo r at) (branch_passes l repo r at branch b has) refl refl refl refl
            (protection_is l repo r at branch ∙ free) fault (current_is false is.1 ∙ ap Some (sym is.0))
        guard_changed false free fault is =
            version_refuses (guard_causes false (state_of l) given repo branch version settings) (change_passes (state_of l) change)
            (repository_passes l repo r at) (branch_passes l repo r at branch b has) refl refl refl refl
            refl fault (current_is false is.1 ∙ ap Some (sym is.0))

        -- nothing guards it
        pub guard_none : (protects : Bool) → counted protects ≡ None → ((version == b.version) && (settings == r.settings)) ≡ true
            → first_cause (guard_causes protects (state_of l) given repo branch version settings) ≡ None
        guard_none true free same =
            nothing_refuses (guard_causes true (state_of l) given repo branch version settings) (change_passes (state_of l) change)
            (repository_passes l repo r at) (branch_passes l repo r at branch b has) refl refl refl refl
            (protection_is l repo r at branch ∙ free) (current_is true same) refl refl refl
        guard_none false free same =
            nothing_refuses (guard_causes false (state_of l) given repo branch version settings) (change_passes (state_of l) change)
            (repository_passes l repo r at) (branch_passes l repo r at branch b has) refl refl refl refl
            refl (current_is true same) refl refl refl
