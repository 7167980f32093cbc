use Rattle.std.proofs.Common.{◌≡◌, [], ◌∷◌, ◌++◌, take, true, false, ap, sym, ◌∙◌, arith}
use Rattle.lake_values.specs.Merging.{is_neither}
use Rattle.lake_values.proofs.MergingLemmas.{told_neither}
use Rattle.key_merge.specs.declared.fault.MergeFault.TheVariants.{Conflicts}
use Rattle.key_merge.specs.MergeWalk.{FrontValue, side_at, conflicts_of}
use Rattle.key_merge.proofs.WalkLemmas.{turn_of, turn_fewer, tells_few, conflict_turn, calm_turn, no_conflict_left, tells_all}
use Rattle.key_merge.proofs.walk.refusal.Goals as goal

pub list-requires-then-eq : goal.list-requires-then-eq
list-requires-then-eq c = tells_few c.loop-front.paths.items _ _ c.loop-front.total c.loop-front.invariant.tells

pub loop-front-smaller-then-eq : goal.loop-front-smaller-then-eq
loop-front-smaller-then-eq c =
    turn_fewer _ _ _ (turn_of c.loop-front.sides c.next.new.self c.in-Some.front c.in-Some.ensures.front c.in-Some.ensures.left c.in-Some.ensures.ascend)

pub loop-front-preserved-then-eq : goal.loop-front-preserved-then-eq
loop-front-preserved-then-eq c =
    let turn = turn_of c.loop-front.sides c.next.new.self c.in-Some.front c.in-Some.ensures.front c.in-Some.ensures.left c.in-Some.ensures.ascend in
    let conflict : is_neither (side_at c.in-Some.front) ≡ true =
    sym (ap is_neither c.side.ensures) ∙ sym (told_neither c.side.result) ∙ sym c.eq.ensures ∙ c.if-eq.true in
    let path = ap (λ (front : FrontValue). front.path) c.front.view_is in
    record {
      few = omega (arith, turn_fewer _ _ _ turn, c.loop-front.invariant.few);
      tells = conflict_turn _ _ _ turn conflict c.loop-front.paths.items _ _ c.loop-front.total c.loop-front.invariant.tells
          (c.in_ok-list-2.ensures ∙ ap (λ p. take 100 (c.loop-front.paths.items ++ p ∷ [])) path);
    }

pub loop-front-smaller : goal.loop-front-smaller
loop-front-smaller c =
    turn_fewer _ _ _ (turn_of c.loop-front.sides c.next.new.self c.in-Some.front c.in-Some.ensures.front c.in-Some.ensures.left c.in-Some.ensures.ascend)

pub loop-front-preserved : goal.loop-front-preserved
loop-front-preserved c =
    let turn = turn_of c.loop-front.sides c.next.new.self c.in-Some.front c.in-Some.ensures.front c.in-Some.ensures.left c.in-Some.ensures.ascend in
    let calm : is_neither (side_at c.in-Some.front) ≡ false =
    sym (ap is_neither c.side.ensures) ∙ sym (told_neither c.side.result) ∙ sym c.eq.ensures ∙ c.if-eq.false in
    record {
      few = omega (arith, turn_fewer _ _ _ turn, c.loop-front.invariant.few);
      tells = calm_turn _ _ _ turn calm c.loop-front.paths.items _ c.loop-front.total c.loop-front.invariant.tells;
    }

pub returns : goal.returns
returns c =
    let two = tells_all c.loop-front.paths.items (conflicts_of c.loop-front.sides) (c.args.first.now ∷ conflicts_of c.args.sides) c.loop-front.total
    (no_conflict_left c.loop-front.sides c.in_default.ensures.front) c.loop-front.invariant.tells in
    λ i. Conflicts ((c.of-paths.ensures ∙ two.0) i) (two.1 i)
