use Rattle.std.proofs.Common.{◌≡◌, ◌+◌, ◌-◌, ◌<◌, T, false, sym, subst, drop, ap, ◌∙◌, arith, refl, length}
use Rattle.std.specs.Ordering.{is_lt}
use Rattle.std.proofs.lemmas.Cmp.{nat_list_cmp_total}
use Rattle.lake_base.specs.Maps.{byte_order}
use Rattle.lake_base.proofs.MapsLemmas.{TellsAll, next_tells, stray_tells, end_tells}
use Rattle.keeper.specs.Keepers.{entries_of}
use Rattle.keeper.proofs.SureLemmas.{compared_keys, entry_at, entries_len}
use Rattle.keeper.proofs.sure.are_ascending.Goals as goal

pub loop-at-preserved : goal.loop-at-preserved
loop-at-preserved c =
    let pairs = c.args.pairs.now in
    let at = c.loop-at.at in
    let x = c.index-pairs-at.result in
    let y = c.index-pairs-at-in-loop-at.result in
    let order = compared_keys pairs (at - 1) at x y c.as_slice.result.now c.as_slice-in-loop-at.result.now c.cmp.result c.index-pairs-at.is
    c.index-pairs-at-in-loop-at.is c.as_slice.ensures c.as_slice-in-loop-at.ensures c.cmp.ensures in
    let below : T (is_lt (byte_order x.key y.key)) = subst T (sym (sym (ap is_lt order) ∙ sym c.is_lt.ensures ∙ c.if-not-is_lt.false)) tt in
    let same : at + 1 - 1 ≡ at = omega arith in
    let within : at < length (entries_of pairs) = omega (arith, entries_len pairs) in
    subst (λ n. TellsAll nat_list_cmp_total (entries_of pairs) (drop n (entries_of pairs))) (sym same)
    (next_tells nat_list_cmp_total (entries_of pairs) at (x.key, x.value) (y.key, y.value) (omega arith) within
    (entry_at pairs (at - 1) x (omega arith) c.index-pairs-at.is) (entry_at pairs at y (omega arith) c.index-pairs-at-in-loop-at.is) below c.loop-at.invariant)

pub returns-then-not-is_lt : goal.returns-then-not-is_lt
returns-then-not-is_lt c =
    let pairs = c.args.pairs.now in
    let at = c.loop-at.at in
    let x = c.index-pairs-at.result in
    let y = c.index-pairs-at-in-loop-at.result in
    let order = compared_keys pairs (at - 1) at x y c.as_slice.result.now c.as_slice-in-loop-at.result.now c.cmp.result c.index-pairs-at.is
    c.index-pairs-at-in-loop-at.is c.as_slice.ensures c.as_slice-in-loop-at.ensures c.cmp.ensures in
    let not_below : is_lt (byte_order x.key y.key) ≡ false = sym (ap is_lt order) ∙ sym c.is_lt.ensures ∙ c.if-not-is_lt.true in
    let within : at < length (entries_of pairs) = omega (arith, entries_len pairs) in (
      λ no. absurd cc,
      λ h. absurd (stray_tells nat_list_cmp_total (entries_of pairs) at (x.key, x.value) (y.key, y.value) (omega arith) within
          (entry_at pairs (at - 1) x (omega arith) c.index-pairs-at.is) (entry_at pairs at y (omega arith) c.index-pairs-at-in-loop-at.is)
          (λ lt. subst T not_below lt) c.loop-at.invariant h),
    )

pub returns : goal.returns
returns c = (
  λ _.
      end_tells nat_list_cmp_total (entries_of c.args.pairs.now) (c.loop-at.at - 1) (omega (arith, entries_len c.args.pairs.now)) c.loop-at.invariant,
  λ _. refl,
)
