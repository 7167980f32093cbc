use Rattle.std.proofs.Common.{sym}
use Rattle.lake_model.specs.Steps.{delete_tag_causes}
use Rattle.core_state.specs.LakeStates.{lake_value, state_of}
use Rattle.core_state.specs.RepositoryStates.{repository_value}
use Rattle.core_causes.proofs.CommonLemmas.{without_repository}
use Rattle.core_causes.proofs.FirstCauseLemmas.{change_passes}
use Rattle.core_causes.proofs.NamingLemmas.{tag_first, tag_passes}
use Rattle.core_causes.proofs.naming.test_delete_tag.Goals as goal

pub returns-in_err-repository : goal.returns-in_err-repository
returns-in_err-repository c =
    let l = lake_value c.args.lake.now in
    let causes = delete_tag_causes (state_of l) c.args.repo.now c.args.name.now in
    without_repository l c.args.repo.now _ causes (change_passes (state_of l) c.in_ok-test_change.ensures)
    _ _ c.from_residual-in_err-repository.ensures.1 c.in_err-repository.ensures

pub returns-in-Some : goal.returns-in-Some
returns-in-Some c =
    tag_passes (lake_value c.args.lake.now) c.args.repo.now (repository_value c.in_ok-repository.repository.now)
    c.in_ok-repository.ensures c.in_ok-test_change.ensures c.args.name.now c.in-Some.field-0 (sym c.in-Some.ensures)

pub returns-in-None : goal.returns-in-None
returns-in-None c =
    tag_first (lake_value c.args.lake.now) c.args.repo.now (repository_value c.in_ok-repository.repository.now)
    c.in_ok-repository.ensures c.in_ok-test_change.ensures c.args.name.now (sym c.in-None.ensures)
