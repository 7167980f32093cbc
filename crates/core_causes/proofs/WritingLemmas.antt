-- What the tests of a branch that is there answer.
use Rattle.std.proofs.Common.{◌≡◌, ℕ, List, refl, ap, ◌∙◌}
use Rattle.std.proofs.lemmas.Result.{MatchResult-weaker}
use Rattle.std.specs.Prelude.{Some, None, option_map, Result, MatchResult}
use Rattle.std.specs.FinMap.{get}
use Rattle.lake_model.specs.declared.fault.StepFault.{StepFault}
use Rattle.lake_model.specs.declared.fault.StepFault.TheVariants.{Changed, Protected}
use Rattle.lake_model.specs.Branches.{protected_by}
use Rattle.lake_model.specs.Refusals.{causes_of_change, first_cause, with_branch}
use Rattle.lake_model.specs.Steps.{stage_causes, write_causes}
use Rattle.lake_model.specs.Versions.{VersionsGiven}
use Rattle.core_state.specs.BranchStates.{BranchStateValue}
use Rattle.core_state.specs.Counts.{HasVersions}
use Rattle.core_state.specs.RepositoryStates.{RepositoryStateValue, repository_of}
use Rattle.core_state.specs.LakeStates.{LakeStateValue, state_of}
use Rattle.core_causes.specs.Asking.{Asks}
use Rattle.core_causes.proofs.CommonLemmas.{branch_passes, protection_is, repository_passes, version_changed, version_passes}
use Rattle.core_causes.proofs.FirstCauseLemmas.{change_passes, nothing_refuses, protected_refuses, version_refuses}

module _ (l : LakeStateValue) (repo branch : List ℕ) (r : RepositoryStateValue) (b : BranchStateValue)
    (at : get l.repositories repo ≡ Some r) (has : get r.branches branch ≡ Some b)
    (change : first_cause (causes_of_change (state_of l)) ≡ None) where
  -- a branch that is named
  pub branch_none : first_cause (with_branch (state_of l) repo branch (causes_of_change (state_of l))) ≡ None
  branch_none =
      nothing_refuses (with_branch (state_of l) repo branch (causes_of_change (state_of l))) (change_passes (state_of l) change)
      (repository_passes l repo r at) (branch_passes l repo r at branch b has) refl refl refl refl refl refl refl refl refl

  -- one that is written to, by the answer of the test of its protection
  pub write_answer : {X : Type 0} (answer : Result X StepFault)
      → MatchResult answer (λ x. protected_by (repository_of r).notes.protection branch ≡ None)
      (λ fault. option_map Protected (protected_by (repository_of r).notes.protection branch) ≡ Some fault)
      → Asks (write_causes (state_of l) repo branch) answer
  write_answer answer tested =
      let causes = write_causes (state_of l) repo branch in
      let passes = change_passes (state_of l) change in
      let repository = repository_passes l repo r at in
      let reference = branch_passes l repo r at branch b has in
      let protection = protection_is l repo r at branch in
      MatchResult-weaker answer tested
      (λ x free. nothing_refuses causes passes repository reference refl refl refl refl (protection ∙ ap (option_map Protected) free) refl refl refl refl)
      (λ fault protected. protected_refuses causes passes repository reference refl refl refl refl fault (protection ∙ protected))

  module _ (given : VersionsGiven) (counts : HasVersions given l) (version : ℕ) where
    -- one that is protected
    pub stage_protected : (fault : StepFault)
        → option_map Protected (protected_by (repository_of r).notes.protection branch) ≡ Some fault
        → first_cause (stage_causes (state_of l) given repo branch version) ≡ Some fault
    stage_protected fault protected =
        protected_refuses (stage_causes (state_of l) given repo branch version) (change_passes (state_of l) change)
        (repository_passes l repo r at) (branch_passes l repo r at branch b has) refl refl refl refl fault (protection_is l repo r at branch ∙ protected)

    -- and where one is staged on, by the answer of the test of its version
    pub stage_answer : {X : Type 0} (answer : Result X StepFault) → protected_by (repository_of r).notes.protection branch ≡ None
        → MatchResult answer (λ x. version ≡ b.version) (λ fault. (fault ≡ Changed b.version r.settings) × (version ≡ b.version → ⊥))
        → Asks (stage_causes (state_of l) given repo branch version) answer
    stage_answer answer free tested =
        let causes = stage_causes (state_of l) given repo branch version in
        let passes = change_passes (state_of l) change in
        let repository = repository_passes l repo r at in
        let reference = branch_passes l repo r at branch b has in
        let unprotected = protection_is l repo r at branch ∙ ap (option_map Protected) free in
        MatchResult-weaker answer tested
        (λ x same. nothing_refuses causes passes repository reference refl refl refl refl unprotected
        (version_passes l repo r at given counts branch b has version same) refl refl refl)
        (λ fault changed. version_refuses causes passes repository reference refl refl refl refl unprotected fault
        (version_changed l repo r at given counts branch b has version fault changed))
