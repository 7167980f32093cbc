use Rattle.std.proofs.Common.{◌≡◌, ◌<◌, ◌≤◌, ◌+◌, ◌-◌, length, drop, ap, sym, ◌∙◌, arith}
use Rattle.std.specs.BTreeMap.{get as tree_get}
use Rattle.std.specs.Ordering.{nat_cmp}
use Rattle.lake_values.proofs.OrderLemmas.{each_holds}
use Rattle.core_state.specs.LakeStates.{lake_value}
use Rattle.opening_parts.specs.Filled.{CanJoin}
use Rattle.opening_parts.specs.Fillings.{from_last, holder_with, with_branch_of}
use Rattle.opening_parts.proofs.FoldLemmas.{one_more}
use Rattle.opening_parts.proofs.branches.put_branches.Goals as goal

pub put_branch_of-requires : goal.put_branch_of-requires
put_branch_of-requires c =
    let things = c.args.things.now in
    let n = c.loop-left.left - 1 in
    let within : n < length things = omega (arith, c.loop-left-test.true, c.loop-left.invariant.within) in
    each_holds CanJoin things c.index-things-left.result c.requires (n, within, sym c.index-things-left.is)

pub loop-left-preserved : goal.loop-left-preserved
loop-left-preserved c =
    let things = c.args.things.now in
    let n = c.loop-left.left - 1 in
    let kept = lake_value c.args.lake.now in
    let some : n + 1 ≡ c.loop-left.left = omega (arith, c.loop-left-test.true) in
    let within : n < length things = omega (arith, c.loop-left-test.true, c.loop-left.invariant.within) in
    let x = c.index-things-left.result in
    record {
      within = omega (arith, within);
      same =
          c.in_ok-put_branch_of.ensures.lake
          ∙ ap (with_branch_of x) (c.loop-left.invariant.same ∙ ap (λ k. from_last with_branch_of (drop k things) kept) (sym some))
          ∙ one_more with_branch_of things n x kept within c.index-things-left.is;
      told = λ token.
          let before = tree_get nat_cmp c.args.holders.now token in
          c.in_ok-put_branch_of.ensures.holders token
          ∙ ap (holder_with token x) (c.loop-left.invariant.told token ∙ ap (λ k. from_last (holder_with token) (drop k things) before) (sym some))
          ∙ one_more (holder_with token) things n x before within c.index-things-left.is;
    }
