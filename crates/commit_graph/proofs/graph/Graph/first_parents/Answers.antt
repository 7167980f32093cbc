use Rattle.std.proofs.Common.{◌≡◌, ◌<◌, ◌∙◌, arith}
use Rattle.lake_values.specs.Ancestry.{generation}
use Rattle.lake_values.proofs.AncestryWalkLemmas.{back_next}
use Rattle.commit_graph.proofs.WalkLemmas.{starts_counted, walk_more, walk_ends, walk_whole}
use Rattle.commit_graph.proofs.graph.Graph.first_parents.Goals as goal

pub loop-init : goal.loop-init
loop-init c = record { so_far = c.new-ids.ensures.items; stands = λ some. starts_counted c.args.self.now c.args.from.now some }

pub returns-in_default : goal.returns-in_default
returns-in_default c =
    let g = c.args.self.now in
    let lt : c.loop.counter < generation g c.args.from.now = omega (arith, c.generation-end.ensures.generation) in
    c.in_ok-push.ensures.items
    ∙ walk_ends g c.loop.counter c.args.from.now c.loop.at c.loop.ids.items c.loop.invariant.so_far (c.loop.invariant.stands lt) c.in_default.ensures lt

pub loop-preserved : goal.loop-preserved
loop-preserved c =
    let g = c.args.self.now in
    let lt : c.loop.counter < generation g c.args.from.now = omega (arith, c.generation-end.ensures.generation) in
    let here = c.loop.invariant.stands lt in
    record {
      so_far = c.in_ok-push.ensures.items ∙ walk_more g c.loop.counter c.args.from.now c.loop.at c.loop.ids.items c.loop.invariant.so_far here;
      stands = λ more. back_next g c.loop.counter c.args.from.now c.loop.at c.in-Some.parent here c.in-Some.ensures;
    }

pub returns : goal.returns
returns c =
    let g = c.args.self.now in
    let end : c.loop.counter ≡ generation g c.args.from.now = omega (arith, c.generation-end.ensures.generation) in
    walk_whole g c.loop.counter c.args.from.now c.loop.ids.items c.loop.invariant.so_far end
