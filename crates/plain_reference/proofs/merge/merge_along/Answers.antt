use Rattle.std.proofs.Common.{◌≡◌, ◌∙◌}
use Rattle.std.proofs.lemmas.Result.{IfOk-weaker}
use Rattle.lake_values.specs.KeyMap.{apply}
use Rattle.lake_values.specs.Merging.{merged_map}
use Rattle.plain_reference.proofs.MergeLemmas.{nothing_said, merges_next, merges_all}
use Rattle.plain_reference.proofs.merge.merge_along.Goals as goal

pub loop-path-init : goal.loop-path-init
loop-path-init c = nothing_said c.new-changes.result c.args.dest.now c.new-changes.ensures

pub loop-path-preserved : goal.loop-path-preserved
loop-path-preserved c =
    merges_next c.args.strategy c.args.base.now c.args.source.now c.args.dest.now c.loop-path.changes c.set.new.self c.in_ok-copy.field-0 c.in_ok-change.change
    c.as_slice-path-items.result.now c.loop-path.path-index c.loop-path-item.result c.loop-path-test.true c.loop-path-item.is
    c.in_ok-copy.ensures.equal c.in_ok-set.ensures.set c.in_ok-change.ensures c.loop-path.invariant

pub returns : goal.returns
returns c =
    IfOk-weaker c.apply.result (λ map. map ≡ apply c.loop-path.changes c.args.dest.now)
    (λ map. map ≡ merged_map c.args.strategy c.args.base.now c.args.source.now c.args.dest.now)
    (λ map is.
    is ∙ merges_all c.args.strategy c.args.base.now c.args.source.now c.args.dest.now c.loop-path.changes c.args.paths.now
    c.as_slice-path-items.result.now c.loop-path.path-index c.loop-path-test.false c.as_slice-path-items.ensures.changes c.requires c.loop-path.invariant)
    c.apply.ensures
