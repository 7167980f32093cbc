use Rattle.std.proofs.Common.{refl}
use Rattle.lake_model.specs.Steps.{stage_causes}
use Rattle.core_state.specs.BranchStates.{branch_value}
use Rattle.core_state.specs.LakeStates.{lake_value, state_of}
use Rattle.core_state.specs.RepositoryStates.{repository_value}
use Rattle.core_causes.proofs.CommonLemmas.{without_repository, without_branch}
use Rattle.core_causes.proofs.FirstCauseLemmas.{change_passes, refused}
use Rattle.core_causes.proofs.WritingLemmas.{stage_answer, stage_protected}
use Rattle.core_causes.proofs.writing.test_stage.Goals as goal

pub returns-in_err-repository : goal.returns-in_err-repository
returns-in_err-repository c = λ given counts.
    let l = lake_value c.args.lake.now in
    let causes = stage_causes (state_of l) given c.args.repo.now c.args.branch.now c.args.version in
    without_repository l c.args.repo.now _ causes (change_passes (state_of l) c.in_ok-test_change.ensures)
    _ _ c.from_residual-in_err-repository.ensures.1 c.in_err-repository.ensures

pub returns-in_err-found : goal.returns-in_err-found
returns-in_err-found c = λ given counts.
    let l = lake_value c.args.lake.now in
    let r = repository_value c.in_ok-repository.repository.now in
    let causes = stage_causes (state_of l) given c.args.repo.now c.args.branch.now c.args.version in
    without_branch l c.args.repo.now r c.in_ok-repository.ensures _ c.args.branch.now causes (change_passes (state_of l) c.in_ok-test_change.ensures)
    _ _ c.from_residual-in_err-found.ensures.1 c.in_err-found.ensures

pub returns-in_err-test_protection : goal.returns-in_err-test_protection
returns-in_err-test_protection c = λ given counts.
    let l = lake_value c.args.lake.now in
    let r = repository_value c.in_ok-repository.repository.now in
    let causes = stage_causes (state_of l) given c.args.repo.now c.args.branch.now c.args.version in
    let told = c.in_err-test_protection.field-0.0 in
    refused _ causes _ told told c.from_residual-in_err-test_protection.ensures.1 refl
    (stage_protected l c.args.repo.now c.args.branch.now r (branch_value c.in_ok-found.found.now) c.in_ok-repository.ensures c.in_ok-found.ensures
    c.in_ok-test_change.ensures given counts c.args.version told c.in_err-test_protection.ensures)

pub returns : goal.returns
returns c = λ given counts.
    stage_answer (lake_value c.args.lake.now) c.args.repo.now c.args.branch.now
    (repository_value c.in_ok-repository.repository.now) (branch_value c.in_ok-found.found.now)
    c.in_ok-repository.ensures c.in_ok-found.ensures c.in_ok-test_change.ensures given counts c.args.version
    c.test_version.result c.in_ok-test_protection.ensures c.test_version.ensures
