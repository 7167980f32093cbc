use Rattle.pair_trees.specs.Tables.{has_range}
use Rattle.pair_trees.proofs.TablesLemmas.{no_names, names_more}
use Rattle.pair_trees.proofs.tables.ranges_of.Goals as goal

pub loop-tree-init : goal.loop-tree-init
loop-tree-init c = no_names c.new-table.result has_range c.new-table.ensures.empty

pub loop-tree-preserved : goal.loop-tree-preserved
loop-tree-preserved c =
    names_more has_range c.loop-tree.table c.put_ranges.new.table c.args.trees.now c.loop-tree.tree-index c.tree-item.result c.loop-tree-test.true
    c.tree-item.is
    c.loop-tree.invariant c.in_ok-put_ranges.ensures
