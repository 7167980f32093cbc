use Rattle.std.proofs.Common.{Some, None, Bool, option_map, sym, ap, ◌∙◌}
use Rattle.lake_model.specs.Readings.{name_in}
use Rattle.lake_model.specs.State.{Branch}
use Rattle.core_state.specs.RepositoryStates.{repository_of, repository_value}
use Rattle.core_readings.proofs.PlacesLemmas.{found_branch}
use Rattle.core_readings.proofs.naming.commit_of.Goals as goal

pub returns-in_Some-branch : goal.returns-in_Some-branch
returns-in_Some-branch c =
    let r = repository_value c.args.repository.now in
    ap Some c.head.ensures
    ∙ ap (option_map (λ (b : Branch). b.head)) (sym (found_branch r c.args.name.now (Some c.in_Some-branch.branch.now) c.in_Some-branch.ensures))
    ∙ ap (λ (tags : Bool). name_in (repository_of r) tags c.args.name.now) (sym c.if-tags.false)

pub returns-in_None-branch : goal.returns-in_None-branch
returns-in_None-branch c =
    let r = repository_value c.args.repository.now in
    ap (option_map (λ (b : Branch). b.head)) (sym (found_branch r c.args.name.now None c.in_None-branch.ensures))
    ∙ ap (λ (tags : Bool). name_in (repository_of r) tags c.args.name.now) (sym c.if-tags.false)
