use Rattle.std.proofs.Common.{take}
use Rattle.lake_base.specs.Maps.{HasAscendingKeys}
use Rattle.range_file.proofs.rows.have_ascending_paths.Given as goal

-- the paths so far ascend
abbrev pub invariant-loop-at : goal.invariant-loop-at
invariant-loop-at l = HasAscendingKeys (take l.at l.rows)
