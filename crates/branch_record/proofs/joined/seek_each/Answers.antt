use Rattle.std.proofs.Common.{◌<◌, sym, subst}
use Rattle.lake_values.specs.Cursor.{entries_from}
use Rattle.branch_record.proofs.JoinedLemmas.{one_done}
use Rattle.branch_record.proofs.joined.seek_each.Goals as goal

pub loop-layer-preserved : goal.loop-layer-preserved
loop-layer-preserved c =
    one_done (entries_from c.args.least.now) c.args.layers.now c.loop-layer.layers c.loop-layer.layer-index c.layer-item.result c.seek.new.self
    (subst (λ n. c.loop-layer.layer-index < n) (sym c.loop-layer.invariant.same) c.loop-layer-test.true) c.loop-layer.invariant c.seek.ensures
