use Rattle.std.proofs.Common.{◌≡◌, ◌+◌, ◌-◌, T, false, sym, subst, drop, ap, ◌∙◌, arith, refl}
use Rattle.std.specs.Ordering.{is_lt}
use Rattle.lake_base.proofs.MapsLemmas.{TellsAll, compared, next_tells, stray_tells, end_tells}
use Rattle.lake_values.proofs.sorted.has_ascending_keys.Goals as goal

pub loop-at-init : goal.loop-at-init
loop-at-init g c = record { all = λ h. h; rest_too = λ h. h }

pub loop-at-preserved : goal.loop-at-preserved
loop-at-preserved g c =
    let items = c.args.items.now in
    let at = c.loop-at.at in
    let x = c.index-items-at.result in
    let y = c.index-items-at-in-loop-at.result in
    let o = g.met.K.Ord.total in
    let below : T (is_lt (g.K.Ord.cmp x.0 y.0)) =
    subst T (sym (sym (ap is_lt (compared o items at x y c.cmp.result c.index-items-at.is c.index-items-at-in-loop-at.is c.cmp.ensures)) ∙ sym c.is_lt.ensures
    ∙ c.if-not-is_lt.false)) tt in
    let same : at + 1 - 1 ≡ at = omega arith in
    subst (λ n. TellsAll o items (drop n items)) (sym same)
    (next_tells o items at x y (omega arith) (omega arith) c.index-items-at.is c.index-items-at-in-loop-at.is below c.loop-at.invariant)

pub returns-then-not-is_lt : goal.returns-then-not-is_lt
returns-then-not-is_lt g c =
    let items = c.args.items.now in
    let at = c.loop-at.at in
    let x = c.index-items-at.result in
    let y = c.index-items-at-in-loop-at.result in
    let o = g.met.K.Ord.total in
    let not_below : is_lt (g.K.Ord.cmp x.0 y.0) ≡ false =
    sym (ap is_lt (compared o items at x y c.cmp.result c.index-items-at.is c.index-items-at-in-loop-at.is c.cmp.ensures)) ∙ sym c.is_lt.ensures
    ∙ c.if-not-is_lt.true in (
      λ no. absurd cc,
      λ h. absurd (stray_tells o items at x y (omega arith)
          (omega arith) c.index-items-at.is c.index-items-at-in-loop-at.is (λ lt. subst T not_below lt) c.loop-at.invariant h),
    )

pub returns : goal.returns
returns g c = (λ _. end_tells g.met.K.Ord.total c.args.items.now (c.loop-at.at - 1) (omega arith) c.loop-at.invariant, λ _. refl)
