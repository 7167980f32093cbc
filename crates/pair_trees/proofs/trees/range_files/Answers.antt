use Rattle.std.proofs.Common.{◌∙◌}
use Rattle.pair_trees.proofs.TreesLemmas.{files_more}
use Rattle.pair_trees.proofs.trees.range_files.Goals as goal

pub loop-thing-preserved : goal.loop-thing-preserved
loop-thing-preserved c =
    c.in_ok-push_range.ensures
    ∙ files_more c.args.things.now c.loop-thing.thing-index c.thing-item.result c.loop-thing.files.items c.loop-thing-test.true c.thing-item.is
    c.loop-thing.invariant
