use Rattle.std.proofs.Common.{sym, ap, ◌∙◌, arith}
use Rattle.std.specs.Option.{IsSome, is_some}
use Rattle.lake_values.specs.Ancestry.{commit_of}
use Rattle.lake_values.proofs.AncestryWalkLemmas.{there_where_found, none_where_none, starts, no_walk, back_past, back_next, back_ends}
use Rattle.commit_graph.proofs.graph.Graph.back.Goals as goal

pub returns-in_err-get : goal.returns-in_err-get
returns-in_err-get c =
    let g = c.args.self.now in
    let none = none_where_none c.get.result (commit_of g c.args.id.now) c.get.ensures.found (ap is_some c.in_err-get.was) in
    c.from_residual.ensures ∙ sym (back_past g 0 c.args.steps c.args.id.now (no_walk g c.args.id.now none) (omega arith))

pub loop-init : goal.loop-init
loop-init c =
    let g = c.args.self.now in
    let there : IsSome (commit_of g c.args.id.now) =
    there_where_found c.get.result (commit_of g c.args.id.now) c.get.ensures.found (ap is_some c.in_ok-get.was) in
    starts g c.args.id.now there

pub returns-in_err-at : goal.returns-in_err-at
returns-in_err-at c =
    c.from_residual-in_err-at.ensures
    ∙ sym (back_ends c.args.self.now c.loop.counter c.args.id.now c.loop.at c.loop.invariant c.in_err-at.ensures c.args.steps c.loop-test.true)

pub loop-preserved : goal.loop-preserved
loop-preserved c = back_next c.args.self.now c.loop.counter c.args.id.now c.loop.at c.in_ok-at.at c.loop.invariant c.in_ok-at.ensures
