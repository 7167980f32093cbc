use Rattle.std.proofs.Common.{take}
use Rattle.std.specs.List.{list_any}
use Rattle.pair_trees.specs.Tables.{HasNames, has_range}
use Rattle.pair_trees.proofs.tables.ranges_of.Given as goal

-- the table has the names of the trees so far
abbrev pub invariant-loop-tree : goal.invariant-loop-tree
invariant-loop-tree l = HasNames l.table (λ name. list_any (has_range name) (take l.tree-index l.trees))
