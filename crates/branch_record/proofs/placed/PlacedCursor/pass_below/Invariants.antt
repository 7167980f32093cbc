use Rattle.std.proofs.Common.{◌≡◌, length}
use Rattle.lake_values.specs.Cursor.{entries_from}
use Rattle.branch_record.proofs.placed.PlacedCursor.pass_below.Given as goal

-- of what is left, those from the bytes on are as at the start
abbrev pub invariant-loop-path : goal.invariant-loop-path
invariant-loop-path l = entries_from l.least l.self ≡ entries_from l.least l.fn.self

abbrev pub decreases-loop-path : goal.decreases-loop-path
decreases-loop-path l = length l.self
