use Rattle.std.proofs.Common.{sym, ◌∙◌}
use Rattle.std.specs.Str.{bytes_eq}
use Rattle.lake_model.specs.Steps.{delete_branch_causes}
use Rattle.core_state.specs.BranchStates.{branch_value}
use Rattle.core_state.specs.LakeStates.{lake_value, state_of}
use Rattle.core_state.specs.RepositoryStates.{repository_value}
use Rattle.core_causes.proofs.CommonLemmas.{without_repository, without_branch}
use Rattle.core_causes.proofs.FirstCauseLemmas.{change_passes}
use Rattle.core_causes.proofs.NamingLemmas.{default_first, delete_answer}
use Rattle.core_causes.proofs.naming.test_delete_branch.Goals as goal

pub returns-in_err-repository : goal.returns-in_err-repository
returns-in_err-repository c =
    let l = lake_value c.args.lake.now in
    let causes = delete_branch_causes (state_of l) c.args.repo.now c.args.name.now in
    without_repository l c.args.repo.now _ causes (change_passes (state_of l) c.in_ok-test_change.ensures)
    _ _ c.from_residual-in_err-repository.ensures.1 c.in_err-repository.ensures

pub returns-in_err-branch_at : goal.returns-in_err-branch_at
returns-in_err-branch_at c =
    let l = lake_value c.args.lake.now in
    let r = repository_value c.in_ok-repository.repository.now in
    let causes = delete_branch_causes (state_of l) c.args.repo.now c.args.name.now in
    without_branch l c.args.repo.now r c.in_ok-repository.ensures _ c.args.name.now causes (change_passes (state_of l) c.in_ok-test_change.ensures)
    _ _ c.from_residual-in_err-branch_at.ensures.1 c.in_err-branch_at.ensures

pub returns-then-eq : goal.returns-then-eq
returns-then-eq c =
    default_first (lake_value c.args.lake.now) c.args.repo.now (repository_value c.in_ok-repository.repository.now)
    c.in_ok-repository.ensures c.in_ok-test_change.ensures c.args.name.now (branch_value c.in_ok-branch_at.field-0.now) c.in_ok-branch_at.ensures
    (sym (λ i. bytes_eq (c.as_slice.ensures.bytes i) (c.as_slice-2.ensures.bytes i)) ∙ sym c.if-eq.ensures)

pub returns : goal.returns
returns c =
    delete_answer (lake_value c.args.lake.now) c.args.repo.now (repository_value c.in_ok-repository.repository.now)
    c.in_ok-repository.ensures c.in_ok-test_change.ensures c.args.name.now (branch_value c.in_ok-branch_at.field-0.now) c.in_ok-branch_at.ensures
    c.test_protection.result (sym (λ i. bytes_eq (c.as_slice.ensures.bytes i) (c.as_slice-2.ensures.bytes i)) ∙ sym c.if-eq.ensures)
    c.test_protection.ensures
