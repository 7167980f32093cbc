use Rattle.std.proofs.Common.{◌≡◌, ◌<◌, ◌≤◌, ◌+◌, ◌-◌, length, drop, ap, sym, ◌∙◌, arith}
use Rattle.core_state.specs.LakeStates.{lake_value}
use Rattle.opening_parts.specs.Fillings.{from_last, with_base}
use Rattle.opening_parts.proofs.FoldLemmas.{none_yet, one_more}
use Rattle.opening_parts.proofs.bases.put_bases.Goals as goal

pub loop-left-preserved : goal.loop-left-preserved
loop-left-preserved c =
    let things = c.args.things.now in
    let n = c.loop-left.left - 1 in
    let kept = lake_value c.args.lake.now in
    let some : n + 1 ≡ c.loop-left.left = omega (arith, c.loop-left-test.true) in
    let within : n < length things = omega (arith, c.loop-left-test.true, c.loop-left.invariant.within) in
    let x = c.index-things-left.result in
    record {
      within = omega (arith, within);
      same =
          c.in_ok-put_base.ensures
          ∙ ap (with_base x) (c.loop-left.invariant.same ∙ ap (λ k. from_last with_base (drop k things) kept) (sym some))
          ∙ one_more with_base things n x kept within c.index-things-left.is;
    }
