use Rattle.std.proofs.Common.{◌≡◌, ◌<◌, Option, None, Some, ap, sym, ◌∙◌, arith, get_or, length, refl}
use Rattle.std.proofs.lemmas.List.{length-map}
use Rattle.pair_trees.specs.PairTrees.{tree_in, trees_of}
use Rattle.pair_trees.specs.Unread.{unread_in}
use Rattle.pair_trees.proofs.TablesLemmas.{tree_at}
use Rattle.pair_trees.proofs.UnreadLemmas.{all_read, first_unread, more_read}
use Rattle.pair_trees.proofs.trees.first_unread.Goals as goal

pub returns-in-Some : goal.returns-in-Some
unfolding trees_of
returns-in-Some c =
    let cut = c.args.cut.now in
    let things = c.args.pairs.now in
    let at = c.loop-at.at in
    let thing = c.index-things-at.result in
    let tree = c.index-trees-at.result in
    let lt : at < length things = omega (arith, ap length c.requires, length-map things (tree_in cut things), c.loop-at-test.true) in
    let is = c.index-things-at.is ∙ ap (λ l. get_or l at thing) c.as_slice-things.ensures.things in
    let same : tree ≡ tree_in cut things thing = tree_at (tree_in cut things) things c.args.trees.now at thing tree lt c.requires is c.index-trees-at.is in
    first_unread cut things at thing lt is c.loop-at.invariant c.in-Some.unread
    (ap (unread_in thing) (sym same) ∙ sym c.unread_in.ensures ∙ c.in-Some.is)

pub loop-at-preserved : goal.loop-at-preserved
unfolding trees_of
loop-at-preserved c =
    let cut = c.args.cut.now in
    let things = c.args.pairs.now in
    let at = c.loop-at.at in
    let thing = c.index-things-at.result in
    let tree = c.index-trees-at.result in
    let lt : at < length things = omega (arith, ap length c.requires, length-map things (tree_in cut things), c.loop-at-test.true) in
    let is = c.index-things-at.is ∙ ap (λ l. get_or l at thing) c.as_slice-things.ensures.things in
    let same : tree ≡ tree_in cut things thing = tree_at (tree_in cut things) things c.args.trees.now at thing tree lt c.requires is c.index-trees-at.is in
    more_read cut things at thing lt is c.loop-at.invariant
    (ap (unread_in thing) (sym same) ∙ sym c.unread_in.ensures ∙ nothing c.unread_in.result c.in_default.not-Some)
  where
    nothing : {X : Type 0} (o : Option X) → ((x : X) → o ≡ Some x → ⊥) → o ≡ None
    nothing None h = refl
    nothing (Some x) h = absurd (h x refl)

pub returns : goal.returns
unfolding trees_of
returns c =
    all_read c.args.cut.now c.args.pairs.now
    (λ k home other old earlier lt. c.loop-at.invariant k home other old earlier
    (omega (arith, lt, c.loop-at-test.false, ap length c.requires, length-map c.args.pairs.now (tree_in c.args.cut.now c.args.pairs.now))))
