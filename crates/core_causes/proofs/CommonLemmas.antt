-- What the causes of a step see of a lake in memory, and what the common tests of it answer.
use Rattle.std.proofs.Common.{◌≡◌, ℕ, Bool, true, false, not, List, sym, ap, ◌∙◌}
use Rattle.std.proofs.lemmas.Bool.{eq-eqb, ne_eqb}
use Rattle.std.specs.Prelude.{◌==◌, Option, Some, None, is_some, option_map, option_and_then, Result, IsErrAnd, MatchResult}
use Rattle.std.specs.Option.{option_map_or}
use Rattle.std.specs.FinMap.{get, contains_key}
use Rattle.byte_map.proofs.ValuesLemmas.{get_map_values}
use Rattle.lake_model.specs.declared.fault.StepFault.{StepFault}
use Rattle.lake_model.specs.declared.fault.StepFault.TheVariants.{Changed, NoRepo, NoRef, Protected}
use Rattle.lake_model.specs.declared.fault.Reference.TheVariants.{Named}
use Rattle.lake_model.specs.State as model
use Rattle.lake_model.specs.State.{Repository}
use Rattle.lake_model.specs.Branches.{protected_by}
use Rattle.lake_model.specs.Refusals.{Causes, cause_if, first_cause, protection_of, with_branch, with_repository}
use Rattle.lake_model.specs.Steps.{in_it, holds_in}
use Rattle.lake_model.specs.Versions.{VersionsGiven, branch_version, settings_version}
use Rattle.core_state.specs.BranchStates.{BranchStateValue, branch_of}
use Rattle.core_state.specs.Counts.{HasVersions}
use Rattle.core_state.specs.RepositoryStates.{RepositoryStateValue, repository_of}
use Rattle.core_state.specs.LakeStates.{LakeStateValue, state_of}
use Rattle.core_causes.proofs.FirstCauseLemmas.{PassesChange, reference_refuses, refused, repository_refuses}

module _ (l : LakeStateValue) (repo : List ℕ) where
  -- a repository that isn't there is a cause
  no_repository : get l.repositories repo ≡ None → cause_if (not (contains_key (state_of l).repositories repo)) NoRepo ≡ Some NoRepo
  no_repository none =
      ap (λ o. cause_if (not (is_some o)) NoRepo)
      (get_map_values repository_of l.repositories repo ∙ ap (option_map repository_of) none)

  -- so it is the first
  pub without_repository : {X : Type 0} (P : X → Type 0) (c : Causes) → PassesChange c → (answer : Result X StepFault) (told : StepFault)
      → IsErrAnd answer (λ e. e ≡ told) → (told ≡ NoRepo) × (get l.repositories repo ≡ None)
      → MatchResult answer P (λ e. first_cause (with_repository (state_of l) repo c) ≡ Some e)
  without_repository P c change answer told err is =
      let asks = with_repository (state_of l) repo c in
      refused P asks answer told NoRepo err is.0 (repository_refuses asks change NoRepo (no_repository is.1))

  module _ (r : RepositoryStateValue) (at : get l.repositories repo ≡ Some r) where
    -- one that is there stands for one of the state
    there : get (state_of l).repositories repo ≡ Some (repository_of r)
    there = get_map_values repository_of l.repositories repo ∙ ap (option_map repository_of) at

    -- and is no cause
    pub repository_passes : cause_if (not (contains_key (state_of l).repositories repo)) NoRepo ≡ None
    repository_passes = ap (λ o. cause_if (not (is_some o)) NoRepo) there

    -- what is asked of it, and what is tested
    pub asked : {X : Type 0} (f : Repository → Option X) → in_it (state_of l) repo f ≡ f (repository_of r)
    asked f = ap (option_and_then f) there

    pub tested : (test : Repository → Bool) → holds_in (state_of l) repo test ≡ test (repository_of r)
    tested test = ap (λ o. option_map_or test o false) there

    -- its protection
    pub protection_is : (branch : List ℕ)
        → protection_of (state_of l) repo branch ≡ option_map Protected (protected_by (repository_of r).notes.protection branch)
    protection_is branch = asked (λ x. option_map Protected (protected_by x.notes.protection branch))

    -- its branches
    pub branch_found : (branch : List ℕ) (o : Option BranchStateValue) → get r.branches branch ≡ o
        → model.branch_of (state_of l) repo branch ≡ option_map branch_of o
    branch_found branch o is =
        asked (λ x. get x.branches branch) ∙ get_map_values branch_of r.branches branch ∙ ap (option_map branch_of) is

    -- a branch that is there is no cause
    pub branch_passes : (branch : List ℕ) (b : BranchStateValue) → get r.branches branch ≡ Some b
        → cause_if (not (is_some (model.branch_of (state_of l) repo branch))) (NoRef Named) ≡ None
    branch_passes branch b is = ap (λ o. cause_if (not (is_some o)) (NoRef Named)) (branch_found branch (Some b) is)

    -- one that isn't there is the first cause
    pub without_branch : {X : Type 0} (P : X → Type 0) (branch : List ℕ) (c : Causes) → PassesChange c
        → (answer : Result X StepFault) (told : StepFault)
        → IsErrAnd answer (λ e. e ≡ told) → (told ≡ NoRef Named) × (get r.branches branch ≡ None)
        → MatchResult answer P (λ e. first_cause (with_branch (state_of l) repo branch c) ≡ Some e)
    without_branch P branch c change answer told err is =
        let asks = with_branch (state_of l) repo branch c in
        refused P asks answer told (NoRef Named) err is.0 (reference_refuses asks change repository_passes (NoRef Named)
        (ap (λ o. cause_if (not (is_some o)) (NoRef Named)) (branch_found branch None is.1)))

    -- ---- the version of a branch that is there
    module _ (given : VersionsGiven) (counts : HasVersions given l) (branch : List ℕ) (b : BranchStateValue) (has : get r.branches branch ≡ Some b)
        (version : ℕ) where
      version_is : (t : Bool) → (version == b.version) ≡ t
          → cause_if (not (version == branch_version given repo branch)) (Changed (branch_version given repo branch) (settings_version given repo))
          ≡ cause_if (not t) (Changed b.version r.settings)
      version_is t is =
          (λ i. cause_if (not (version == counts.branches repo r branch b at has i))
          (Changed (counts.branches repo r branch b at has i) (counts.settings repo r at i)))
          ∙ ap (λ h. cause_if (not h) (Changed b.version r.settings)) is

      -- it is the one that is asked
      pub version_passes : version ≡ b.version
          → cause_if (not (version == branch_version given repo branch)) (Changed (branch_version given repo branch) (settings_version given repo)) ≡ None
      version_passes same = version_is true (eq-eqb version b.version same)

      -- it is another one
      pub version_changed : (fault : StepFault) → (fault ≡ Changed b.version r.settings) × (version ≡ b.version → ⊥)
          → cause_if (not (version == branch_version given repo branch)) (Changed (branch_version given repo branch) (settings_version given repo)) ≡ Some fault
      version_changed fault is = version_is false (ne_eqb version b.version is.1) ∙ ap Some (sym is.0)
