use Rattle.std.proofs.Common.{true, false, refl, sym, ◌∙◌}
use Rattle.lake_model.specs.Steps.{create_branch_causes}
use Rattle.core_state.specs.BranchStates.{branch_value}
use Rattle.core_state.specs.LakeStates.{lake_value, state_of}
use Rattle.core_state.specs.RepositoryStates.{repository_value}
use Rattle.core_readings.proofs.PlacesLemmas.{has_targets}
use Rattle.core_causes.proofs.CommonLemmas.{without_repository}
use Rattle.core_causes.proofs.CreatingLemmas.{branch_cause, branch_taken, creation_answer, creation_astray, found_some, taken_first}
use Rattle.core_causes.proofs.FirstCauseLemmas.{asks_for, change_passes, refused}
use Rattle.core_causes.proofs.naming.test_create_branch.Goals as goal

pub returns-in_err-repository : goal.returns-in_err-repository
returns-in_err-repository c =
    let l = lake_value c.args.lake.now in
    let causes = create_branch_causes (state_of l) c.args.repo.now c.args.name.now c.args.e.now in
    asks_for causes _ _ (without_repository l c.args.repo.now _ causes (change_passes (state_of l) c.in_ok-test_change.ensures)
    _ _ c.from_residual-in_err-repository.ensures.1 c.in_err-repository.ensures)

pub target-requires : goal.target-requires
target-requires c =
    has_targets (lake_value c.args.lake.now) c.requires c.args.repo.now c.in_ok-repository.repository.now (sym c.in_ok-repository.ensures)

pub returns-in_err-head : goal.returns-in_err-head
returns-in_err-head c =
    let l = lake_value c.args.lake.now in
    let causes = create_branch_causes (state_of l) c.args.repo.now c.args.name.now c.args.e.now in
    let told = c.in_err-head.field-0.0 in
    asks_for causes _ _ (refused _ causes _ told told c.from_residual-in_err-head.ensures.1 refl
    (creation_astray l c.args.repo.now (repository_value c.in_ok-repository.repository.now) c.in_ok-repository.ensures c.in_ok-test_change.ensures
    c.args.e.now (branch_cause l c.args.repo.now c.args.name.now) told (sym c.in_err-head.ensures.target)))

pub returns-then-is_some : goal.returns-then-is_some
returns-then-is_some c =
    let l = lake_value c.args.lake.now in
    let r = repository_value c.in_ok-repository.repository.now in
    taken_first l c.args.repo.now r c.in_ok-repository.ensures c.in_ok-test_change.ensures c.args.e.now (branch_cause l c.args.repo.now c.args.name.now)
    c.in_ok-head.head (sym c.in_ok-head.ensures.target)
    (branch_taken l c.args.repo.now r c.in_ok-repository.ensures c.args.name.now true
    (found_some branch_value _ _ c.branch-other.ensures ∙ sym c.if-is_some.ensures))

pub returns : goal.returns
returns c =
    let l = lake_value c.args.lake.now in
    let r = repository_value c.in_ok-repository.repository.now in
    creation_answer l c.args.repo.now r c.in_ok-repository.ensures c.in_ok-test_change.ensures c.args.e.now (branch_cause l c.args.repo.now c.args.name.now)
    c.in_ok-head.head (sym c.in_ok-head.ensures.target) c.test_live.result
    (branch_taken l c.args.repo.now r c.in_ok-repository.ensures c.args.name.now false
    (found_some branch_value _ _ c.branch-other.ensures ∙ sym c.if-is_some.ensures))
    c.test_live.ensures
