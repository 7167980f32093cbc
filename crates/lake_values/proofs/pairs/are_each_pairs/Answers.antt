use Rattle.std.proofs.Common.{refl, subst, sym, ◌∙◌, arith}
use Rattle.std.specs.List.{AllByRecursion}
use Rattle.std.proofs.lemmas.List.{take_all}
use Rattle.std.proofs.lemmas.List.Elements.{All-from_recursion, All-get_or}
use Rattle.lake_values.specs.Pairs.{IsPair}
use Rattle.lake_base.proofs.ListLemmas.{all_more}
use Rattle.lake_values.proofs.pairs.are_each_pairs.Goals as goal

pub loop-pair-preserved : goal.loop-pair-preserved
loop-pair-preserved c =
    all_more IsPair c.args.pairs.now c.loop-pair.pair-index c.pair-item.result (omega arith) c.pair-item.is c.loop-pair.invariant
    (c.is_pair.ensures.0 c.if-not-is_pair.false)

pub returns-then-not-is_pair : goal.returns-then-not-is_pair
returns-then-not-is_pair c = (
  λ no. absurd cc,
  λ all. sym c.if-not-is_pair.true ∙ c.is_pair.ensures.1
      (subst IsPair (sym c.pair-item.is) (All-get_or IsPair c.args.pairs.now c.loop-pair.pair-index c.pair-item.result (omega arith) all)),
)

pub returns : goal.returns
returns c = (
  λ yes. All-from_recursion IsPair c.args.pairs.now
      (subst (AllByRecursion IsPair) (take_all c.loop-pair.pair-index c.args.pairs.now (omega arith)) c.loop-pair.invariant),
  λ all. refl,
)
