-- What the test of a copy answers.
use Rattle.std.proofs.Common.{◌≡◌, ℕ, not, List, refl, sym, ap, ◌∙◌}
use Rattle.std.proofs.lemmas.Result.{MatchResult-weaker}
use Rattle.std.specs.Prelude.{Option, Some, None, is_none, is_some, option_map, option_and_then, Result, Ok, Err, MatchResult}
use Rattle.std.specs.FinMap.{get}
use Rattle.std.specs.Option.{option_or}
use Rattle.std.specs.Result.{result_ok}
use Rattle.lake_base.specs.declared.digest.Digest.{Digest}
use Rattle.lake_values.specs.Entry.{EntryValue}
use Rattle.commit_graph.specs.Expressions.{RefExprValue}
use Rattle.lake_model.specs.declared.fault.StepFault.{StepFault}
use Rattle.lake_model.specs.declared.fault.StepFault.TheVariants.{Changed, NoPath, NoRef, Protected}
use Rattle.lake_model.specs.declared.fault.Reference.TheVariants.{Named, Expression}
use Rattle.lake_model.specs.Branches.{protected_by}
use Rattle.lake_model.specs.Readings.{◌then◌, expression_map, map_at}
use Rattle.lake_model.specs.Refusals.{Causes, cause_if, causes_of_change, first_cause}
use Rattle.lake_model.specs.Resolving.{expression_target, name_target}
use Rattle.lake_model.specs.Steps.{copied_entry, copy_causes, copy_source, holds_in, source_fault}
use Rattle.lake_model.specs.Versions.{VersionsGiven}
use Rattle.core_state.specs.BranchStates.{BranchStateValue}
use Rattle.core_state.specs.Counts.{HasVersions}
use Rattle.core_state.specs.RepositoryStates.{RepositoryStateValue, repository_of}
use Rattle.core_state.specs.LakeStates.{LakeStateValue, state_of}
use Rattle.core_causes.specs.Finding.{FindsCopy, source_of}
use Rattle.core_causes.specs.declared.copying.Copied.{Copied}
use Rattle.core_causes.proofs.CommonLemmas.{asked, branch_found, branch_passes, protection_is, repository_passes, version_changed, version_passes}
use Rattle.core_causes.proofs.ExpressionLemmas.{expression_refuses, name_passes, parent_passes}
use Rattle.core_causes.proofs.FirstCauseLemmas.{change_passes, expired_refuses, nothing_refuses, path_refuses, protected_refuses, reference_refuses}
use Rattle.core_causes.proofs.FirstCauseLemmas.{version_refuses}

module _ (l : LakeStateValue) (given : VersionsGiven) (counts : HasVersions given l) (repo branch : List ℕ) (version : ℕ) (e : RefExprValue) (from : List ℕ)
    (r : RepositoryStateValue) (at : get l.repositories repo ≡ Some r) (change : first_cause (causes_of_change (state_of l)) ≡ None) where
  -- what the copy asks, and of this what its expression's name does
  abbrev copy : Causes
  copy = copy_causes (state_of l) given repo branch version e from

  abbrev name_cause : Option StepFault
  name_cause = cause_if (holds_in (state_of l) repo (λ x. is_none (name_target x e.name))) (NoRef Expression)

  -- the branch isn't there
  pub copy_nowhere : get r.branches branch ≡ None → first_cause copy ≡ Some (NoRef Named)
  copy_nowhere none =
      reference_refuses copy (change_passes (state_of l) change) (repository_passes l repo r at) (NoRef Named)
      (ap (λ o. option_or (cause_if (not (is_some o)) (NoRef Named)) name_cause) (branch_found l repo r at branch None none))

  module _ (b : BranchStateValue) (has : get r.branches branch ≡ Some b) where
    reference_is : copy.reference ≡ name_cause
    reference_is = ap (λ o. option_or o name_cause) (branch_passes l repo r at branch b has)

    -- the expression leads nowhere
    pub copy_astray : (fault : StepFault) → expression_target (repository_of r) e ≡ Err fault → first_cause copy ≡ Some fault
    copy_astray fault is =
        expression_refuses l repo r at e copy (change_passes (state_of l) change) (repository_passes l repo r at) reference_is refl fault is

    module _ (id : Digest) (leads : expression_target (repository_of r) e ≡ Ok id) where
      reference_none : copy.reference ≡ None
      reference_none = reference_is ∙ name_passes l repo r at e id leads

      -- the branch is protected
      pub copy_protected : (fault : StepFault) → option_map Protected (protected_by (repository_of r).notes.protection branch) ≡ Some fault
          → first_cause copy ≡ Some fault
      copy_protected fault protected =
          protected_refuses copy (change_passes (state_of l) change) (repository_passes l repo r at) reference_none (parent_passes l repo r at e id leads)
          refl refl refl fault (protection_is l repo r at branch ∙ protected)

      module _ (free : protected_by (repository_of r).notes.protection branch ≡ None) where
        unprotected : copy.protected ≡ None
        unprotected = protection_is l repo r at branch ∙ ap (option_map Protected) free

        -- it has another version
        pub copy_changed : (fault : StepFault) → (fault ≡ Changed b.version r.settings) × (version ≡ b.version → ⊥) → first_cause copy ≡ Some fault
        copy_changed fault changed =
            version_refuses copy (change_passes (state_of l) change) (repository_passes l repo r at) reference_none (parent_passes l repo r at e id leads)
            refl refl refl unprotected fault (version_changed l repo r at given counts branch b has version fault changed)

        module _ (same : version ≡ b.version) where
          current : copy.version ≡ None
          current = version_passes l repo r at given counts branch b has version same

          entry_is : (o : Option EntryValue) → o ≡ get (map_at (repository_of r) e id) from → copied_entry (state_of l) repo e from ≡ o
          entry_is o is =
              asked l repo r at (λ x. option_and_then (λ map. get map from) (result_ok (expression_map x e)))
              ∙ ap (λ answer. option_and_then (λ map. get map from) (result_ok (answer then λ q. Ok (map_at (repository_of r) e q)))) leads ∙ sym is

          -- nothing stands at the path
          pub copy_empty : None ≡ get (map_at (repository_of r) e id) from → first_cause copy ≡ Some NoPath
          copy_empty none =
              path_refuses copy (change_passes (state_of l) change) (repository_passes l repo r at) reference_none (parent_passes l repo r at e id leads)
              refl refl refl unprotected current NoPath (ap (λ o. cause_if (is_none o) NoPath) (entry_is None none))

          -- an entry does, by what is told of where it is copied from
          pub copy_answer : (entry : EntryValue) → Some entry ≡ get (map_at (repository_of r) e id) from → (answer : Result Copied StepFault)
              → MatchResult answer
              (λ copied. (copied.entry.now ≡ entry) × (source_fault (repository_of r) e ≡ None)
              × (copy_source (repository_of r) e ≡ Some (source_of e.name copied.commit)))
              (λ fault. source_fault (repository_of r) e ≡ Some fault)
              → MatchResult answer (λ copied. (first_cause copy ≡ None) × FindsCopy (state_of l) repo e from copied.entry.now copied.commit)
              (λ fault. first_cause copy ≡ Some fault)
          copy_answer entry stands answer told =
              let passes = change_passes (state_of l) change in
              let repository = repository_passes l repo r at in
              let parent = parent_passes l repo r at e id leads in
              let path = ap (λ o. cause_if (is_none o) NoPath) (entry_is (Some entry) stands) in
              let expired = asked l repo r at (λ x. source_fault x e) in
              MatchResult-weaker answer told
              (λ copied is. (
                nothing_refuses copy passes repository reference_none parent refl refl refl unprotected current path (expired ∙ is.1) refl,
                record { found = entry_is (Some entry) stands ∙ ap Some (sym is.0); source = asked l repo r at (λ x. copy_source x e) ∙ is.2 },
              ))
              (λ fault is. expired_refuses copy passes repository reference_none parent refl refl refl unprotected current path fault (expired ∙ is))
