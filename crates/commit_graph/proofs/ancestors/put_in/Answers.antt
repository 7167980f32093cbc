use Rattle.std.proofs.Common.{[], take, sym, ap, subst, ◌∙◌}
use Rattle.std.proofs.lemmas.List.Elements.{All-take}
use Rattle.std.specs.BTreeSet.{insert_key}
use Rattle.std.specs.Option.{IsSome}
use Rattle.lake_values.specs.Ancestry.{commit_of, id_of}
use Rattle.commit_graph.specs.Fronts.{IsFront}
use Rattle.commit_graph.proofs.AncestorsLemmas.{by_place}
use Rattle.commit_graph.proofs.FrontsLemmas.{puts_none, puts_more, front_stays}
use Rattle.commit_graph.proofs.ancestors.put_in.Goals as goal

pub loop-id-init : goal.loop-id-init
loop-id-init c = puts_none c.args.graph.now c.args.ids.now c.args.front.now.keys

pub loop-id-preserved : goal.loop-id-preserved
loop-id-preserved c =
    puts_more c.args.graph.now c.args.ids.now c.args.front.now.keys c.loop-id.front.keys c.loop-id.id-index c.loop-id.invariant (id_of [])
    c.insert.new.self.keys c.loop-id-test.true
    (c.in_ok-insert.ensures.keys ∙ ap (insert_key by_place c.loop-id.front.keys) c.place_of.ensures.place)

pub returns-in_err-insert-clause-front : goal.returns-in_err-insert-clause-front
returns-in_err-insert-clause-front c =
    let g = c.args.graph.now in
    let there = All-take (λ id. IsSome (commit_of g id)) c.loop-id.id-index c.args.ids.now c.requires in
    λ front. subst (IsFront g) (sym c.in_err-insert.ensures.err)
    (front_stays g (take c.loop-id.id-index c.args.ids.now) c.args.front.now.keys c.loop-id.front.keys there c.loop-id.invariant front)

pub returns-clause-front : goal.returns-clause-front
returns-clause-front c =
    let g = c.args.graph.now in
    let there = All-take (λ id. IsSome (commit_of g id)) c.loop-id.id-index c.args.ids.now c.requires in
    λ front. front_stays g (take c.loop-id.id-index c.args.ids.now) c.args.front.now.keys c.loop-id.front.keys there c.loop-id.invariant front
