use Rattle.std.proofs.Common.{◌-◌, ◌<◌, [], get_or, subst, sym, ◌∙◌, arith}
use Rattle.std.specs.List.{Contains}
use Rattle.std.proofs.lemmas.List.Elements.{Contains-get_or}
use Rattle.lake_values.specs.Ancestry.{graph_of, parents, IsReachedWithin}
use Rattle.lake_base.specs.declared.digest.Digest.{Digest}
use Rattle.lake_values.proofs.AncestryLemmas.{reached_here, reached_not, reached_through, reached_never, differ}
use Rattle.plain_reference.proofs.AncestryReachLemmas.{true_for, false_for, same_bytes, other_bytes, one_more, within_contains}
use Rattle.plain_reference.proofs.ancestry.+is_reached.Goals as goal

pub returns-then-eq : goal.returns-then-eq
returns-then-eq t c =
    let same = same_bytes c.as_slice.result.now c.as_slice-2.result.now c.args.id.now.0 c.args.old.now.0 c.eq.result c.as_slice.ensures c.as_slice-2.ensures
    c.eq.ensures c.if-eq.true in
    true_for (reached_here (graph_of c.args.commits.now) c.args.steps c.args.old.now c.args.id.now same)

pub returns-then-steps-eq0 : goal.returns-then-steps-eq0
returns-then-steps-eq0 t c =
    let other = other_bytes c.as_slice.result.now c.as_slice-2.result.now c.args.id.now.0 c.args.old.now.0 c.eq.result c.as_slice.ensures c.as_slice-2.ensures
    c.eq.ensures c.if-eq.false in
    let none = reached_not (graph_of c.args.commits.now) c.args.old.now c.args.id.now other in
    false_for (λ w. none (subst (λ n. IsReachedWithin (graph_of c.args.commits.now) n c.args.old.now c.args.id.now) c.if-steps-eq0.true w))

pub returns-then-is_reached : goal.returns-then-is_reached
returns-then-is_reached t c =
    let g = graph_of c.args.commits.now in
    let old = c.args.old.now in
    let id = c.args.id.now in
    let nothing : Digest = record { 0 = [] } in
    let items = c.parents-parent-items.result.now in
    let parent = get_or items c.loop-parent.parent-index nothing in
    let has : Contains (parents g id) parent =
    subst (λ l. Contains l parent) c.parents-parent-items.ensures (Contains-get_or items c.loop-parent.parent-index nothing c.loop-parent-test.true) in
    let some : 0 < c.args.steps = omega (arith, c.if-steps-eq0.false) in
    true_for (reached_through g c.args.steps old id parent some has (c.is_reached.ensures.0 c.if-is_reached.true))

pub loop-parent-preserved : goal.loop-parent-preserved
loop-parent-preserved t c =
    let nothing : Digest = record { 0 = [] } in
    let items = c.parents-parent-items.result.now in
    one_more (λ parent. IsReachedWithin (graph_of c.args.commits.now) (c.args.steps - 1) c.args.old.now parent → ⊥) items c.loop-parent.parent-index nothing
    c.loop-parent-test.true c.loop-parent.invariant
    (λ w. differ (sym (c.is_reached.ensures.1 w) ∙ c.if-is_reached.false))

pub returns : goal.returns
returns t c =
    let g = graph_of c.args.commits.now in
    let old = c.args.old.now in
    let id = c.args.id.now in
    let items = c.parents-parent-items.result.now in
    let other =
    other_bytes c.as_slice.result.now c.as_slice-2.result.now id.0 old.0 c.eq.result c.as_slice.ensures c.as_slice-2.ensures c.eq.ensures c.if-eq.false in
    false_for (reached_never g c.args.steps old id other
    (λ parent has. within_contains (λ p. IsReachedWithin g (c.args.steps - 1) old p → ⊥) items c.loop-parent.parent-index parent c.loop-parent-test.false
    c.loop-parent.invariant
    (subst (λ l. Contains l parent) (sym c.parents-parent-items.ensures) has)))
