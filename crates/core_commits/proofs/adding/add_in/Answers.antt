use Rattle.std.proofs.Common.{ap, subst, sym, ◌∙◌}
use Rattle.std.proofs.lemmas.Result.{on_err_weaker, on_ok_weaker}
use Rattle.std.specs.FinMap.{get, insert}
use Rattle.byte_map.specs.Values.{map_values}
use Rattle.byte_map.proofs.ValuesLemmas.{map_values_insert}
use Rattle.commit_graph.specs.Graphs.{IsSound}
use Rattle.core_state.specs.RepositoryStates.{repository_value}
use Rattle.core_commits.proofs.CommitLemmas.{shared, taken_out}
use Rattle.core_commits.proofs.adding.add_in.Goals as goal

pub remove-requires : goal.remove-requires
remove-requires c =
    let fresh = ap (λ id. get c.args.repository.now.graph id.0) c.in-Ok.ensures.added.0 ∙ c.requires.absent in
    subst IsSound (sym (taken_out c.args.repository.now.graph c.add.new.self c.in-Ok.id.0 c.args.commit c.in-Ok.ensures.added.1 fresh))
    c.len-count.ensures.valid

pub returns-then-is_err-clause-same : goal.returns-then-is_err-clause-same
returns-then-is_err-clause-same c =
    let fresh = ap (λ id. get c.args.repository.now.graph id.0) c.in-Ok.ensures.added.0 ∙ c.requires.absent in
    let graph = c.remove.ensures ∙ taken_out c.args.repository.now.graph c.add.new.self c.in-Ok.id.0 c.args.commit c.in-Ok.ensures.added.1 fresh in
    on_err_weaker c.insert-put.result (λ trees i. repository_value (record c.args.repository.now { graph = graph i; trees = trees i }))
    c.insert-put.ensures.unchanged

pub returns-else-is_err-clause-added : goal.returns-else-is_err-clause-added
returns-else-is_err-clause-added c =
    let r = repository_value c.args.repository.now in
    let id = c.in-Ok.ensures.added.0 in
    let graph = c.in-Ok.ensures.added.1 ∙ (λ i. insert r.commits (id i).0 c.args.commit) in
    on_ok_weaker c.insert-put.result (λ put.
    let trees = ap (map_values shared) put ∙ map_values_insert shared c.args.repository.now.trees c.in-Ok.id.0 c.args.tree
    ∙ (λ i. insert r.trees (id i).0 c.args.tree.value) in
    λ i. record r { commits = graph i; trees = trees i })
    c.insert-put.ensures.inserted
