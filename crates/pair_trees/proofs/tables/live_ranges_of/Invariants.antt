use Rattle.std.proofs.Common.{take}
use Rattle.std.specs.List.{list_any}
use Rattle.pair_trees.specs.Tables.{HasNames, has_live_range}
use Rattle.pair_trees.proofs.tables.live_ranges_of.Given as goal

-- the table has the names of the things so far
abbrev pub invariant-loop-at : goal.invariant-loop-at
invariant-loop-at l = HasNames l.table (λ name. list_any (has_live_range l.cut l.things name) (take l.at l.things))
