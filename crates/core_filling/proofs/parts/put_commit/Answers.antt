use Rattle.std.proofs.Common.{Bool, cond, ap, sym, ◌∙◌}
use Rattle.std.specs.FinMap.{insert}
use Rattle.byte_map.specs.Values.{map_values}
use Rattle.byte_map.proofs.ValuesLemmas.{map_values_insert}
use Rattle.core_state.specs.RepositoryStates.{repository_value}
use Rattle.core_filling.proofs.FillingLemmas.{shared}
use Rattle.core_filling.specs.Parts.{with_marked_commit}
use Rattle.core_filling.proofs.parts.put_commit.Goals as goal

pub returns-in_ok-insert-2 : goal.returns-in_ok-insert-2
returns-in_ok-insert-2 c =
    let r = repository_value c.args.repository.now in
    let id = c.in-Ok.ensures.added.0 in
    let graph = c.in-Ok.ensures.added.1 ∙ (λ i. insert r.commits (id i).0 c.args.commit) in
    let trees = ap (map_values shared) c.in_ok-insert.ensures.inserted ∙ map_values_insert shared c.args.repository.now.trees c.in-Ok.id.0 c.args.tree
    ∙ (λ i. insert r.trees (id i).0 c.args.tree.value) in
    let expired = c.in_ok-insert-2.ensures.inserted ∙ (λ i. insert r.expired (id i).0 tt) in
    (λ i. record r { commits = graph i; trees = trees i; expired = expired i })
    ∙ ap (λ (b : Bool). with_marked_commit c.args.commit c.args.tree.value b r) (sym c.if-expired.true)

pub returns-else-expired : goal.returns-else-expired
returns-else-expired c =
    let r = repository_value c.args.repository.now in
    let id = c.in-Ok.ensures.added.0 in
    let graph = c.in-Ok.ensures.added.1 ∙ (λ i. insert r.commits (id i).0 c.args.commit) in
    let trees = ap (map_values shared) c.in_ok-insert.ensures.inserted ∙ map_values_insert shared c.args.repository.now.trees c.in-Ok.id.0 c.args.tree
    ∙ (λ i. insert r.trees (id i).0 c.args.tree.value) in
    (λ i. record r { commits = graph i; trees = trees i })
    ∙ ap (λ (b : Bool). with_marked_commit c.args.commit c.args.tree.value b r) (sym c.if-expired.false)
