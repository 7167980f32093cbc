use Rattle.std.proofs.Common.{Ok, ap, ◌∙◌}
use Rattle.std.specs.Option.{option_copied}
use Rattle.std.proofs.lemmas.Result.{err_from_is_err_and}
use Rattle.lake_values.specs.Log.{LogPageValue}
use Rattle.commit_graph.specs.Expressions.{RefExprValue}
use Rattle.lake_model.specs.Readings.{commits_in}
use Rattle.lake_model.specs.Resolving.{name_target}
use Rattle.core_state.specs.LakeStates.{lake_value}
use Rattle.core_readings.proofs.PlacesLemmas.{has_targets, repository_at}
use Rattle.core_readings.proofs.LogLemmas.{log_nowhere, log_unknown, log_parentless, log_there}
use Rattle.core_readings.proofs.ReplyLemmas.{gives_same, in_none}
use Rattle.core_readings.proofs.logs.log.Goals as goal

pub returns-in_default : goal.returns-in_default
returns-in_default c = in_none (lake_value c.args.lake.now) c.args.repo.now _ c.in_default.ensures

pub returns-in_default-name_target : goal.returns-in_default-name_target
returns-in_default-name_target c =
    let r = c.in-Some.repository.now in
    log_nowhere (lake_value c.args.lake.now) c.args.repo.now c.args.e.now (option_copied c.args.after) c.args.since c.args.amount r c.in-Some.ensures
    (c.in_default-name_target.ensures ∙ ap (λ (e : RefExprValue). name_target (repository_at r) e.name) c.e.view_is)

pub returns-in_err-test_commit : goal.returns-in_err-test_commit
returns-in_err-test_commit c =
    let p = err_from_is_err_and c.from_residual.result c.from_residual.ensures.1 in
    let r = c.in-Some.repository.now in
    rw (p.1, p.2)
    (gives_same _ _
    (log_unknown (lake_value c.args.lake.now) c.args.repo.now c.args.e.now (option_copied c.args.after) c.args.since c.args.amount r c.in-Some.ensures
    c.in-Some-name_target.field-0 (c.in-Some-name_target.ensures ∙ ap (λ (e : RefExprValue). name_target (repository_at r) e.name) c.e.view_is)
    _ c.in_err-test_commit.ensures))

pub target-requires : goal.target-requires
target-requires c = has_targets (lake_value c.args.lake.now) c.requires c.args.repo.now c.in-Some.repository.now c.in-Some.ensures

pub returns-in_err-from : goal.returns-in_err-from
returns-in_err-from c =
    let p = err_from_is_err_and c.from_residual-in_err-from.result c.from_residual-in_err-from.ensures.1 in
    let r = c.in-Some.repository.now in
    rw (p.1, p.2)
    (gives_same _ _
    (log_parentless (lake_value c.args.lake.now) c.args.repo.now c.args.e.now (option_copied c.args.after) c.args.since c.args.amount r c.in-Some.ensures
    c.in-Some-name_target.field-0 (c.in-Some-name_target.ensures ∙ ap (λ (e : RefExprValue). name_target (repository_at r) e.name) c.e.view_is)
    c.in_ok-test_commit.ensures _ c.in_err-from.ensures.target))

pub returns : goal.returns
unfolding lake_value
returns c =
    let r = c.in-Some.repository.now in
    let page = c.page.view_is ∙ c.in_ok-page.ensures in
    (λ i. Ok (record {
      at = c.args.lake.now.entries;
      commits = (c.in_ok-commits.ensures ∙ ap (commits_in (repository_at r)) (c.as_slice.ensures ∙ ap (λ (p : LogPageValue). p.ids) page)) i;
      more = (page i).has_more;
    }))
    ∙ log_there (lake_value c.args.lake.now) c.args.repo.now c.args.e.now (option_copied c.args.after) c.args.since c.args.amount r c.in-Some.ensures
    c.in-Some-name_target.field-0 (c.in-Some-name_target.ensures ∙ ap (λ (e : RefExprValue). name_target (repository_at r) e.name) c.e.view_is)
    c.in_ok-test_commit.ensures c.in_ok-from.from c.in_ok-from.ensures.target
