use Rattle.std.proofs.Common.{◌≡◌, ◌+◌, ◌<◌, ◌^◌, ◌∷◌, take, length, ap, sym, subst, ◌∙◌, arith}
use Rattle.std.specs.FinMap.{len-entries}
use Rattle.lake_values.specs.KeyMap.{differences}
use Rattle.lake_values.specs.Merging.{merged_map}
use Rattle.lake_values.specs.declared.merge.Side.TheVariants.{Source, Destination, Neither}
use Rattle.key_merge.specs.Refusal.{TellsFault}
use Rattle.key_merge.specs.declared.fault.MergeFault.TheVariants.{Conflicts}
use Rattle.key_merge.specs.MergeWalk.{SidesValue, FrontValue, side_at, winning_side, conflicts_of}
use Rattle.key_merge.proofs.WalkLemmas.{turn_of, turn_fewer, gathered_first, unrefused_first, take_turn, stay_turn, refuse_turn, refused_at, gathered_all}
use Rattle.key_merge.proofs.WalkLemmas.{gathered_ascend, gathered_are, unrefused, source_decides, dest_decides}
use Rattle.key_merge.proofs.walk.merge_trees.Goals as goal

pub loop-front-init : goal.loop-front-init
loop-front-init c =
    let strategy = c.args.strategy in
    let base = c.args.base.now.map in
    let source = c.args.source.now.map in
    let dest = c.args.dest.now.map in
    record {
      few = subst (λ (sides : SidesValue). length sides.base + length sides.source < 2 ^ 60) (sym c.new-sides.ensures)
          (omega (arith, len-entries base, len-entries source, c.law_of_limits.ensures.few, c.law_of_limits-2.ensures.few));
      gathered = gathered_first strategy base source dest c.new-sides.result c.new-changes.result.items c.new-sides.ensures c.new-changes.ensures.items;
      unrefused = unrefused_first strategy base source dest c.new-sides.result c.new-sides.ensures;
    }

pub refusal-requires : goal.refusal-requires
refusal-requires c =
    let turn = turn_of c.loop-front.sides c.next.new.self c.in-Some.front c.in-Some.ensures.front c.in-Some.ensures.left c.in-Some.ensures.ascend in
    omega (arith, turn_fewer _ _ _ turn, c.loop-front.invariant.few)

pub returns-in-Neither-clause-exact : goal.returns-in-Neither-clause-exact
returns-in-Neither-clause-exact c =
    let strategy = c.args.strategy in
    let front = c.in-Some.front in
    let turn = turn_of c.loop-front.sides c.next.new.self front c.in-Some.ensures.front c.in-Some.ensures.left c.in-Some.ensures.ascend in
    let side : winning_side strategy (side_at front) ≡ Neither =
    ap (winning_side strategy) (sym c.side.ensures) ∙ sym c.winning_side.ensures ∙ c.in-Neither.is in
    let path = ap (λ (f : FrontValue). f.path) c.front.view_is in
    let fault :
    c.in_ok-refusal-in-Neither.field-0 ≡ Conflicts (take 100 (front.path ∷ conflicts_of c.next.new.self)) (length (front.path ∷ conflicts_of c.next.new.self)) =
    c.in_ok-refusal-in-Neither.ensures {u = tt}
    ∙ ap (λ p. Conflicts (take 100 (p ∷ conflicts_of c.next.new.self)) (length (p ∷ conflicts_of c.next.new.self))) path in
    let told = refused_at strategy c.args.base.now.map c.args.source.now.map c.args.dest.now.map c.loop-front.sides c.next.new.self front turn side
    c.loop-front.invariant.unrefused in
    subst (TellsFault strategy c.args.base.now.map c.args.source.now.map c.args.dest.now.map) (sym fault) told

pub loop-front-smaller-in_ok-take_source-in-Source : goal.loop-front-smaller-in_ok-take_source-in-Source
loop-front-smaller-in_ok-take_source-in-Source c =
    turn_fewer _ _ _ (turn_of c.loop-front.sides c.next.new.self c.in-Some.front c.in-Some.ensures.front c.in-Some.ensures.left c.in-Some.ensures.ascend)

pub loop-front-preserved-in_ok-take_source-in-Source : goal.loop-front-preserved-in_ok-take_source-in-Source
loop-front-preserved-in_ok-take_source-in-Source c =
    let strategy = c.args.strategy in
    let front = c.in-Some.front in
    let turn = turn_of c.loop-front.sides c.next.new.self front c.in-Some.ensures.front c.in-Some.ensures.left c.in-Some.ensures.ascend in
    let side : winning_side strategy (side_at front) ≡ Source = ap (winning_side strategy) (sym c.side.ensures) ∙ sym c.winning_side.ensures ∙ c.in-Source.is in
    record {
      few = omega (arith, turn_fewer _ _ _ turn, c.loop-front.invariant.few);
      gathered = take_turn _ _ _ turn strategy c.loop-front.changes.items _ _ side c.in_ok-take_source-in-Source.ensures c.loop-front.invariant.gathered;
      unrefused = refuse_turn _ _ _ turn strategy _ (source_decides _ side) c.loop-front.invariant.unrefused;
    }

pub loop-front-smaller : goal.loop-front-smaller
loop-front-smaller c =
    turn_fewer _ _ _ (turn_of c.loop-front.sides c.next.new.self c.in-Some.front c.in-Some.ensures.front c.in-Some.ensures.left c.in-Some.ensures.ascend)

pub loop-front-preserved : goal.loop-front-preserved
loop-front-preserved c =
    let strategy = c.args.strategy in
    let front = c.in-Some.front in
    let turn = turn_of c.loop-front.sides c.next.new.self front c.in-Some.ensures.front c.in-Some.ensures.left c.in-Some.ensures.ascend in
    let side : winning_side strategy (side_at front) ≡ Destination =
    ap (winning_side strategy) (sym c.side.ensures) ∙ sym c.winning_side.ensures ∙ c.in-Destination.is in
    record {
      few = omega (arith, turn_fewer _ _ _ turn, c.loop-front.invariant.few);
      gathered = stay_turn _ _ _ turn strategy c.loop-front.changes.items _ side c.loop-front.invariant.gathered;
      unrefused = refuse_turn _ _ _ turn strategy _ (dest_decides _ side) c.loop-front.invariant.unrefused;
    }

pub from_vec-requires : goal.from_vec-requires
from_vec-requires c =
    let strategy = c.args.strategy in
    let dest = c.args.dest.now.map in
    let all = gathered_all strategy c.args.base.now.map c.args.source.now.map dest c.loop-front.sides c.loop-front.changes.items c.in_default.ensures.front
    c.loop-front.invariant.gathered in
    gathered_ascend (differences (merged_map strategy c.args.base.now.map c.args.source.now.map dest) dest) c.loop-front.changes.items all

pub returns-clause-changes : goal.returns-clause-changes
returns-clause-changes c =
    let strategy = c.args.strategy in
    let dest = c.args.dest.now.map in
    let all = gathered_all strategy c.args.base.now.map c.args.source.now.map dest c.loop-front.sides c.loop-front.changes.items c.in_default.ensures.front
    c.loop-front.invariant.gathered in
    c.from_vec.ensures ∙ gathered_are (differences (merged_map strategy c.args.base.now.map c.args.source.now.map dest) dest) c.loop-front.changes.items all

pub returns-clause-exact : goal.returns-clause-exact
returns-clause-exact c = unrefused c.args.strategy c.args.base.now.map c.args.source.now.map c.args.dest.now.map c.loop-front.sides c.in_default.ensures.front
    c.loop-front.invariant.unrefused
