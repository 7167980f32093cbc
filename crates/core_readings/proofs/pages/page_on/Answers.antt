use Rattle.std.proofs.Common.{◌≡◌, ◌∙◌, List, ℕ, false, length, nat_lt, take, ap, subst}
use Rattle.std.specs.Prelude.{IfOk}
use Rattle.std.specs.FinMap.{empty, entries}
use Rattle.lake_values.specs.Entry.{EntryValue}
use Rattle.branch_record.specs.Overlay.{overlay_of}
use Rattle.lake_pages.specs.Listing.{items_left}
use Rattle.meta_range.specs.declared.tree.Tree.{Tree}
use Rattle.core_state.specs.RepositoryStates.{repository_value}
use Rattle.core_readings.proofs.EntryLemmas.{map_there, map_missing}
use Rattle.core_readings.proofs.PlacesLemmas.{repository_at}
use Rattle.core_readings.proofs.PageLemmas.{rows_now}
use Rattle.core_readings.proofs.pages.page_on.Goals as goal

pub returns-in-Some-clause-items : goal.returns-in-Some-clause-items
returns-in-Some-clause-items c =
    let tree = c.in-Some.tree.now.value in
    let changes = overlay_of c.args.branch.now.record c.args.branch.now.tokens.changes false in
    let all = c.new-rows.ensures.of_map changes tree.map c.in_ok-changes.ensures (c.seek.ensures ∙ ap (λ (tree : Tree). entries tree.map) c.deref.ensures) in
    let rows = rows_now (repository_at c.args.repository.now) c.args.branch.now c.head.result tree.map c.new-rows.result c.head.ensures
    (map_there (repository_value c.args.repository.now) c.head.result tree c.in-Some.ensures) all in
    subst (λ (l : List (List ℕ × EntryValue)). IfOk c.page_over.result (λ page. page.items ≡ take c.args.query.now.amount (items_left c.args.query.now l))) rows
    c.page_over.ensures.items

pub returns-in-Some-clause-more : goal.returns-in-Some-clause-more
returns-in-Some-clause-more c =
    let tree = c.in-Some.tree.now.value in
    let changes = overlay_of c.args.branch.now.record c.args.branch.now.tokens.changes false in
    let all = c.new-rows.ensures.of_map changes tree.map c.in_ok-changes.ensures (c.seek.ensures ∙ ap (λ (tree : Tree). entries tree.map) c.deref.ensures) in
    let rows = rows_now (repository_at c.args.repository.now) c.args.branch.now c.head.result tree.map c.new-rows.result c.head.ensures
    (map_there (repository_value c.args.repository.now) c.head.result tree c.in-Some.ensures) all in
    subst (λ (l : List (List ℕ × EntryValue)).
    IfOk c.page_over.result (λ page. page.has_more ≡ nat_lt c.args.query.now.amount (length (items_left c.args.query.now l)))) rows
    c.page_over.ensures.more

pub returns-in-None-clause-items : goal.returns-in-None-clause-items
returns-in-None-clause-items c =
    let changes = overlay_of c.args.branch.now.record c.args.branch.now.tokens.changes false in
    let all = c.new-rows-in-None.ensures.of_map changes empty c.in_ok-changes.ensures (c.cursor.ensures ∙ ap entries c.new-none.ensures) in
    let rows = rows_now (repository_at c.args.repository.now) c.args.branch.now c.head.result empty c.new-rows-in-None.result c.head.ensures
    (map_missing (repository_value c.args.repository.now) c.head.result c.in-None.ensures) all in
    subst (λ (l : List (List ℕ × EntryValue)).
    IfOk c.page_over-in-None.result (λ page. page.items ≡ take c.args.query.now.amount (items_left c.args.query.now l))) rows
    c.page_over-in-None.ensures.items

pub returns-in-None-clause-more : goal.returns-in-None-clause-more
returns-in-None-clause-more c =
    let changes = overlay_of c.args.branch.now.record c.args.branch.now.tokens.changes false in
    let all = c.new-rows-in-None.ensures.of_map changes empty c.in_ok-changes.ensures (c.cursor.ensures ∙ ap entries c.new-none.ensures) in
    let rows = rows_now (repository_at c.args.repository.now) c.args.branch.now c.head.result empty c.new-rows-in-None.result c.head.ensures
    (map_missing (repository_value c.args.repository.now) c.head.result c.in-None.ensures) all in
    subst (λ (l : List (List ℕ × EntryValue)).
    IfOk c.page_over-in-None.result (λ page. page.has_more ≡ nat_lt c.args.query.now.amount (length (items_left c.args.query.now l)))) rows
    c.page_over-in-None.ensures.more
