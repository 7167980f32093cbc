use Rattle.std.proofs.Common.{Some, None, sym, ap, ◌∙◌}
use Rattle.std.specs.FinMap.{get}
use Rattle.commit_graph.specs.Expressions.{RefExprValue}
use Rattle.core_state.specs.RepositoryStates.{repository_of, repository_value}
use Rattle.core_readings.proofs.EntryLemmas.{on_branch, on_none}
use Rattle.core_readings.proofs.PlacesLemmas.{branch_at, found_branch}
use Rattle.core_readings.proofs.entries.entry_at.Goals as goal

pub returns-in_Some-branch : goal.returns-in_Some-branch
returns-in_Some-branch c =
    let r = repository_value c.args.repository.now in
    let e = c.args.e.now in
    c.entry_on.ensures
    ∙ ap (λ m. get m c.args.path.now)
    (sym (on_branch (repository_of r) e c.args.id.now (sym c.is_plain_branch.ensures ∙ c.if-not-is_plain_branch.false) (branch_at c.in_Some-branch.branch.now)
    (found_branch r e.name (Some c.in_Some-branch.branch.now) (c.in_Some-branch.ensures ∙ ap (λ (x : RefExprValue). get r.branches x.name) c.e.view_is))))

pub returns-in_None-branch : goal.returns-in_None-branch
returns-in_None-branch c =
    let r = repository_value c.args.repository.now in
    let e = c.args.e.now in
    c.map_entry-in_None-branch.ensures
    ∙ ap (λ m. get m c.args.path.now) (sym (on_none (repository_of r) e c.args.id.now
    (found_branch r e.name None (c.in_None-branch.ensures ∙ ap (λ (x : RefExprValue). get r.branches x.name) c.e.view_is))))
