use Rattle.std.proofs.Common.{◌≡◌, ◌∙◌, Some, None, sym, ap, subst}
use Rattle.std.specs.Prelude.{IfOk}
use Rattle.std.specs.FinMap.{get}
use Rattle.lake_values.specs.KeyMap.{KeyMapValue}
use Rattle.commit_graph.specs.Expressions.{RefExprValue}
use Rattle.lake_pages.specs.Listing.{has_more, page_items}
use Rattle.core_state.specs.RepositoryStates.{repository_value}
use Rattle.core_readings.proofs.EntryLemmas.{on_branch, on_none}
use Rattle.core_readings.proofs.PlacesLemmas.{branch_at, found_branch, repository_at}
use Rattle.core_readings.proofs.pages.page_at.Goals as goal

pub returns-in_Some-branch-clause-items : goal.returns-in_Some-branch-clause-items
returns-in_Some-branch-clause-items c =
    let r = repository_at c.args.repository.now in
    let is = on_branch r c.args.e.now c.args.id.now (sym c.is_plain_branch.ensures ∙ c.if-not-is_plain_branch.false) (branch_at c.in_Some-branch.branch.now)
    (found_branch (repository_value c.args.repository.now) c.args.e.now.name (Some c.in_Some-branch.branch.now)
    (c.in_Some-branch.ensures ∙ ap (λ (e : RefExprValue). get (repository_value c.args.repository.now).branches e.name) c.e.view_is)) in
    subst (λ (map : KeyMapValue). IfOk c.page_on.result (λ page. page.items ≡ page_items c.args.query.now map)) (sym is) c.page_on.ensures.items

pub returns-in_Some-branch-clause-more : goal.returns-in_Some-branch-clause-more
returns-in_Some-branch-clause-more c =
    let r = repository_at c.args.repository.now in
    let is = on_branch r c.args.e.now c.args.id.now (sym c.is_plain_branch.ensures ∙ c.if-not-is_plain_branch.false) (branch_at c.in_Some-branch.branch.now)
    (found_branch (repository_value c.args.repository.now) c.args.e.now.name (Some c.in_Some-branch.branch.now)
    (c.in_Some-branch.ensures ∙ ap (λ (e : RefExprValue). get (repository_value c.args.repository.now).branches e.name) c.e.view_is)) in
    subst (λ (map : KeyMapValue). IfOk c.page_on.result (λ page. page.has_more ≡ has_more c.args.query.now map)) (sym is) c.page_on.ensures.more

pub returns-in_None-branch-clause-items : goal.returns-in_None-branch-clause-items
returns-in_None-branch-clause-items c =
    let r = repository_at c.args.repository.now in
    let is = on_none r c.args.e.now c.args.id.now
    (found_branch (repository_value c.args.repository.now) c.args.e.now.name None
    (c.in_None-branch.ensures ∙ ap (λ (e : RefExprValue). get (repository_value c.args.repository.now).branches e.name) c.e.view_is)) in
    subst (λ (map : KeyMapValue). IfOk c.page_of_commit-in_None-branch.result (λ page. page.items ≡ page_items c.args.query.now map))
    (sym is) c.page_of_commit-in_None-branch.ensures.items

pub returns-in_None-branch-clause-more : goal.returns-in_None-branch-clause-more
returns-in_None-branch-clause-more c =
    let r = repository_at c.args.repository.now in
    let is = on_none r c.args.e.now c.args.id.now
    (found_branch (repository_value c.args.repository.now) c.args.e.now.name None
    (c.in_None-branch.ensures ∙ ap (λ (e : RefExprValue). get (repository_value c.args.repository.now).branches e.name) c.e.view_is)) in
    subst (λ (map : KeyMapValue). IfOk c.page_of_commit-in_None-branch.result (λ page. page.has_more ≡ has_more c.args.query.now map))
    (sym is) c.page_of_commit-in_None-branch.ensures.more
