use Rattle.std.proofs.Common.{refl, sym}
use Rattle.lake_model.specs.declared.fault.StepFault.TheVariants.{NoRef}
use Rattle.lake_model.specs.declared.fault.Reference.TheVariants.{Named}
use Rattle.lake_model.specs.Steps.{copy_causes}
use Rattle.core_state.specs.BranchStates.{branch_value}
use Rattle.core_state.specs.LakeStates.{lake_value, state_of}
use Rattle.core_state.specs.RepositoryStates.{repository_value}
use Rattle.core_readings.proofs.PlacesLemmas.{has_targets}
use Rattle.core_causes.proofs.CommonLemmas.{without_repository}
use Rattle.core_causes.proofs.CopyingLemmas.{copy_answer, copy_astray, copy_changed, copy_empty, copy_nowhere, copy_protected}
use Rattle.core_causes.proofs.FirstCauseLemmas.{change_passes, refused}
use Rattle.core_causes.proofs.copying.test_copy.Goals as goal

pub returns-in_err-repository : goal.returns-in_err-repository
returns-in_err-repository c = λ given counts.
    let l = lake_value c.args.lake.now in
    let causes = copy_causes (state_of l) given c.args.repo.now c.args.branch.now c.args.version c.args.e.now c.args.from.now in
    without_repository l c.args.repo.now _ causes (change_passes (state_of l) c.in_ok-test_change.ensures)
    _ _ c.from_residual-in_err-repository.ensures.1 c.in_err-repository.ensures

pub returns-in_err-found : goal.returns-in_err-found
returns-in_err-found c = λ given counts.
    let l = lake_value c.args.lake.now in
    let causes = copy_causes (state_of l) given c.args.repo.now c.args.branch.now c.args.version c.args.e.now c.args.from.now in
    refused _ causes _ _ (NoRef Named) c.from_residual-in_err-found.ensures.1 c.in_err-found.ensures.0
    (copy_nowhere l given counts c.args.repo.now c.args.branch.now c.args.version c.args.e.now c.args.from.now
    (repository_value c.in_ok-repository.repository.now) c.in_ok-repository.ensures c.in_ok-test_change.ensures c.in_err-found.ensures.1)

pub target-requires : goal.target-requires
target-requires c =
    has_targets (lake_value c.args.lake.now) c.requires c.args.repo.now c.in_ok-repository.repository.now (sym c.in_ok-repository.ensures)

pub returns-in_err-commit : goal.returns-in_err-commit
returns-in_err-commit c = λ given counts.
    let l = lake_value c.args.lake.now in
    let causes = copy_causes (state_of l) given c.args.repo.now c.args.branch.now c.args.version c.args.e.now c.args.from.now in
    let told = c.in_err-commit.field-0.0 in
    refused _ causes _ told told c.from_residual-in_err-commit.ensures.1 refl
    (copy_astray l given counts c.args.repo.now c.args.branch.now c.args.version c.args.e.now c.args.from.now
    (repository_value c.in_ok-repository.repository.now) c.in_ok-repository.ensures c.in_ok-test_change.ensures
    (branch_value c.in_ok-found.found.now) c.in_ok-found.ensures told (sym c.in_err-commit.ensures.target))

pub returns-in_err-test_protection : goal.returns-in_err-test_protection
returns-in_err-test_protection c = λ given counts.
    let l = lake_value c.args.lake.now in
    let causes = copy_causes (state_of l) given c.args.repo.now c.args.branch.now c.args.version c.args.e.now c.args.from.now in
    let told = c.in_err-test_protection.field-0.0 in
    refused _ causes _ told told c.from_residual-in_err-test_protection.ensures.1 refl
    (copy_protected l given counts c.args.repo.now c.args.branch.now c.args.version c.args.e.now c.args.from.now
    (repository_value c.in_ok-repository.repository.now) c.in_ok-repository.ensures c.in_ok-test_change.ensures
    (branch_value c.in_ok-found.found.now) c.in_ok-found.ensures c.in_ok-commit.commit (sym c.in_ok-commit.ensures.target)
    told c.in_err-test_protection.ensures)

pub returns-in_err-test_version : goal.returns-in_err-test_version
returns-in_err-test_version c = λ given counts.
    let l = lake_value c.args.lake.now in
    let causes = copy_causes (state_of l) given c.args.repo.now c.args.branch.now c.args.version c.args.e.now c.args.from.now in
    let told = c.in_err-test_version.field-0.0 in
    refused _ causes _ told told c.from_residual-in_err-test_version.ensures.1 refl
    (copy_changed l given counts c.args.repo.now c.args.branch.now c.args.version c.args.e.now c.args.from.now
    (repository_value c.in_ok-repository.repository.now) c.in_ok-repository.ensures c.in_ok-test_change.ensures
    (branch_value c.in_ok-found.found.now) c.in_ok-found.ensures c.in_ok-commit.commit (sym c.in_ok-commit.ensures.target)
    c.in_ok-test_protection.ensures told c.in_err-test_version.ensures)

pub returns-in_default : goal.returns-in_default
returns-in_default c = λ given counts.
    copy_empty (lake_value c.args.lake.now) given counts c.args.repo.now c.args.branch.now c.args.version c.args.e.now c.args.from.now
    (repository_value c.in_ok-repository.repository.now) c.in_ok-repository.ensures c.in_ok-test_change.ensures
    (branch_value c.in_ok-found.found.now) c.in_ok-found.ensures c.in_ok-commit.commit (sym c.in_ok-commit.ensures.target)
    c.in_ok-test_protection.ensures c.in_ok-test_version.ensures c.in_default.ensures

pub returns : goal.returns
returns c = λ given counts.
    copy_answer (lake_value c.args.lake.now) given counts c.args.repo.now c.args.branch.now c.args.version c.args.e.now c.args.from.now
    (repository_value c.in_ok-repository.repository.now) c.in_ok-repository.ensures c.in_ok-test_change.ensures
    (branch_value c.in_ok-found.found.now) c.in_ok-found.ensures c.in_ok-commit.commit (sym c.in_ok-commit.ensures.target)
    c.in_ok-test_protection.ensures c.in_ok-test_version.ensures c.in-Some.entry.now c.in-Some.ensures c.source.result
    (c.source.ensures (sym c.in_ok-commit.ensures.target))
