use Rattle.std.proofs.Common.{take}
use Rattle.std.specs.List.{list_any}
use Rattle.pair_trees.specs.Tables.{HasNames, has_metarange}
use Rattle.pair_trees.proofs.tables.metaranges_of.Given as goal

-- the table has the names of the trees so far
abbrev pub invariant-loop-tree : goal.invariant-loop-tree
invariant-loop-tree l = HasNames l.table (λ name. list_any (has_metarange name) (take l.tree-index l.trees))
