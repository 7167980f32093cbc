use Rattle.std.proofs.Common.{◌≡◌, ◌+◌, length}
use Rattle.std.specs.FinMap.{entries}
use Rattle.lake_generator.proofs.heads.paths_of.Given as goal

-- the rows that were counted, with those still to come, are all
abbrev pub invariant-loop-row : goal.invariant-loop-row
invariant-loop-row l = l.count + length l.cursor ≡ length (entries l.tree.map)

abbrev pub decreases-loop-row : goal.decreases-loop-row
decreases-loop-row l = length l.cursor
