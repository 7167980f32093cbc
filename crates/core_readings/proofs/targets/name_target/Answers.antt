use Rattle.std.proofs.Common.{Some, None, ap, ◌∙◌}
use Rattle.core_state.specs.RepositoryStates.{repository_of, repository_value}
use Rattle.core_readings.proofs.PlacesLemmas.{branch_at, found_branch}
use Rattle.core_readings.proofs.TargetLemmas.{to_head, to_tag, to_commit}
use Rattle.core_readings.proofs.targets.name_target.Goals as goal

pub returns-in_Some-branch : goal.returns-in_Some-branch
returns-in_Some-branch c =
    let r = repository_value c.args.repository.now in
    ap Some c.head.ensures
    ∙ to_head (repository_of r) c.args.name.now (branch_at c.in_Some-branch.branch.now)
    (found_branch r c.args.name.now (Some c.in_Some-branch.branch.now) c.in_Some-branch.ensures)

pub returns-in-Some : goal.returns-in-Some
returns-in-Some c =
    let r = repository_value c.args.repository.now in
    to_tag (repository_of r) c.args.name.now c.in-Some.commit (found_branch r c.args.name.now None c.in_default-branch.ensures) c.in-Some.ensures

pub returns-in-None : goal.returns-in-None
returns-in-None c =
    let r = repository_value c.args.repository.now in
    c.commit_named.ensures
    ∙ to_commit (repository_of r) c.args.name.now (found_branch r c.args.name.now None c.in_default-branch.ensures) c.in-None.ensures
