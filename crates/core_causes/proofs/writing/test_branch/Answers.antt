use Rattle.lake_model.specs.Refusals.{causes_of_change, with_branch}
use Rattle.core_state.specs.BranchStates.{branch_value}
use Rattle.core_state.specs.LakeStates.{lake_value, state_of}
use Rattle.core_state.specs.RepositoryStates.{repository_value}
use Rattle.core_causes.proofs.CommonLemmas.{without_repository, without_branch}
use Rattle.core_causes.proofs.FirstCauseLemmas.{change_passes}
use Rattle.core_causes.proofs.WritingLemmas.{branch_none}
use Rattle.core_causes.proofs.writing.test_branch.Goals as goal

pub returns-in_err-repository : goal.returns-in_err-repository
returns-in_err-repository c =
    let l = lake_value c.args.lake.now in
    let causes = with_branch (state_of l) c.args.repo.now c.args.branch.now (causes_of_change (state_of l)) in
    without_repository l c.args.repo.now _ causes (change_passes (state_of l) c.in_ok-test_change.ensures)
    _ _ c.from_residual-in_err-repository.ensures.1 c.in_err-repository.ensures

pub returns-in_err-branch_at : goal.returns-in_err-branch_at
returns-in_err-branch_at c =
    let l = lake_value c.args.lake.now in
    let r = repository_value c.in_ok-repository.repository.now in
    without_branch l c.args.repo.now r c.in_ok-repository.ensures _ c.args.branch.now (causes_of_change (state_of l))
    (change_passes (state_of l) c.in_ok-test_change.ensures)
    _ _ c.from_residual-in_err-branch_at.ensures.1 c.in_err-branch_at.ensures

pub returns : goal.returns
returns c =
    branch_none (lake_value c.args.lake.now) c.args.repo.now c.args.branch.now
    (repository_value c.in_ok-repository.repository.now) (branch_value c.in_ok-branch_at.field-0.now)
    c.in_ok-repository.ensures c.in_ok-branch_at.ensures c.in_ok-test_change.ensures
