use Rattle.std.proofs.Common.{◌≡◌, ◌++◌, length}
use Rattle.std.specs.FinMap.{entries}
use Rattle.head_drafts.proofs.maps.map_of.Given as goal

-- what is copied, before the rows still to come, is all rows
abbrev pub invariant-loop-path : goal.invariant-loop-path
invariant-loop-path l = l.rows.items ++ l.cursor ≡ entries l.tree.map

abbrev pub decreases-loop-path : goal.decreases-loop-path
decreases-loop-path l = length l.cursor
