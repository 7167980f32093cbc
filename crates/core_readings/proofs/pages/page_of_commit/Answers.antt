use Rattle.std.proofs.Common.{◌≡◌, ◌∙◌, List, ℕ, length, nat_lt, take, ap, subst}
use Rattle.std.specs.Prelude.{IfOk}
use Rattle.std.specs.FinMap.{entries}
use Rattle.lake_values.specs.Entry.{EntryValue}
use Rattle.lake_values.specs.KeyMap.{KeyMapValue}
use Rattle.lake_pages.specs.Listing.{has_more, items_left, page_items}
use Rattle.meta_range.specs.declared.tree.Tree.{Tree}
use Rattle.core_state.specs.RepositoryStates.{repository_value}
use Rattle.core_readings.proofs.EntryLemmas.{map_there, map_missing}
use Rattle.core_readings.proofs.pages.page_of_commit.Goals as goal

pub returns-in-Some-clause-items : goal.returns-in-Some-clause-items
returns-in-Some-clause-items c =
    let rows = c.seek.ensures ∙ ap (λ (tree : Tree). entries tree.map) c.deref.ensures
    ∙ ap entries (map_there (repository_value c.args.repository.now) c.args.id.now c.in-Some.tree.now.value c.in-Some.ensures) in
    subst (λ (l : List (List ℕ × EntryValue)). IfOk c.page_over.result (λ page. page.items ≡ take c.args.query.now.amount (items_left c.args.query.now l))) rows
    c.page_over.ensures.items

pub returns-in-Some-clause-more : goal.returns-in-Some-clause-more
returns-in-Some-clause-more c =
    let rows = c.seek.ensures ∙ ap (λ (tree : Tree). entries tree.map) c.deref.ensures
    ∙ ap entries (map_there (repository_value c.args.repository.now) c.args.id.now c.in-Some.tree.now.value c.in-Some.ensures) in
    subst (λ (l : List (List ℕ × EntryValue)).
    IfOk c.page_over.result (λ page. page.has_more ≡ nat_lt c.args.query.now.amount (length (items_left c.args.query.now l)))) rows
    c.page_over.ensures.more

pub returns-in-None-clause-items : goal.returns-in-None-clause-items
returns-in-None-clause-items c =
    let map = c.new.ensures ∙ map_missing (repository_value c.args.repository.now) c.args.id.now c.in-None.ensures in
    subst (λ (m : KeyMapValue). IfOk c.page_of-in-None.result (λ page. page.items ≡ page_items c.args.query.now m)) map c.page_of-in-None.ensures.items

pub returns-in-None-clause-more : goal.returns-in-None-clause-more
returns-in-None-clause-more c =
    let map = c.new.ensures ∙ map_missing (repository_value c.args.repository.now) c.args.id.now c.in-None.ensures in
    subst (λ (m : KeyMapValue). IfOk c.page_of-in-None.result (λ page. page.has_more ≡ has_more c.args.query.now m)) map c.page_of-in-None.ensures.more
