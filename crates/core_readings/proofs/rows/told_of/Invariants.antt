use Rattle.std.proofs.Common.{◌≡◌, ◌≤◌, ◌++◌, length}
use Rattle.byte_map.specs.MapRows.{rows_by_bytes}
use Rattle.core_readings.specs.NamedRows.{rows_above, rows_left}
use Rattle.core_readings.proofs.rows.told_of.Given as goal

-- what is told so far, and what is told of the rows that are still to come
abbrev pub invariant-loop-name : goal.invariant-loop-name
invariant-loop-name g l = record {
  whole : l.told.items ++ rows_above g.T.Tell.told l.after (rows_by_bytes g.K.ByteKey.bytes (rows_left l.rows))
      ≡ rows_above g.T.Tell.told l.after (rows_by_bytes g.K.ByteKey.bytes (rows_left l.initial.rows));
  few : length l.told.items ≤ l.amount;
}

abbrev pub decreases-loop-name : goal.decreases-loop-name
decreases-loop-name g l = length (rows_left l.rows)
