use Rattle.std.proofs.Common.{◌≡◌, ◌+◌, true, false, cond, [], Some, ap, sym, ◌∙◌, drop, get_or}
use Rattle.std.specs.Option.{is_none, option_map}
use Rattle.lake_values.specs.Ancestry.{commit_of, id_of}
use Rattle.commit_graph.specs.Adding.{missing_parent}
use Rattle.commit_graph.specs.declared.fault.GraphFault.TheVariants.{NoParent}
use Rattle.commit_graph.proofs.GraphLemmas.{none_found, find_next}
use Rattle.commit_graph.proofs.graph.Graph.test_parents.Goals as goal

pub returns-then-is_none : goal.returns-then-is_none
returns-then-is_none c =
    let graph = c.args.self.now in
    let id = get_or c.args.parents.now c.loop-parent.parent-index (id_of []) in
    let missing : is_none (commit_of graph id) ≡ true =
    sym (none_found c.get.result (commit_of graph id) c.is_none.result c.get.ensures.found c.is_none.ensures) ∙ c.if-is_none.true in
    let next = find_next (λ id. is_none (commit_of graph id)) c.args.parents.now c.loop-parent.parent-index (id_of []) c.loop-parent-test.true in
    ap (option_map NoParent)
    (sym c.loop-parent.invariant ∙ next ∙ ap (λ b. cond b (Some id) (missing_parent graph (drop (c.loop-parent.parent-index + 1) c.args.parents.now))) missing)

pub loop-parent-preserved : goal.loop-parent-preserved
loop-parent-preserved c =
    let graph = c.args.self.now in
    let id = get_or c.args.parents.now c.loop-parent.parent-index (id_of []) in
    let there : is_none (commit_of graph id) ≡ false =
    sym (none_found c.get.result (commit_of graph id) c.is_none.result c.get.ensures.found c.is_none.ensures) ∙ c.if-is_none.false in
    let next = find_next (λ id. is_none (commit_of graph id)) c.args.parents.now c.loop-parent.parent-index (id_of []) c.loop-parent-test.true in
    sym (next ∙ ap (λ b. cond b (Some id) (missing_parent graph (drop (c.loop-parent.parent-index + 1) c.args.parents.now))) there) ∙ c.loop-parent.invariant
