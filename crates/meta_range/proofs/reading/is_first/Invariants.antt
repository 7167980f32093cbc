use Rattle.std.proofs.Common.{List, ◌++◌}
use Rattle.lake_format.proofs.CutLemmas.{IsScanned}
use Rattle.range_file.specs.Rows.{RowValue}
use Rattle.meta_range.proofs.reading.is_first.Given as goal

-- the rows so far can be one range, whatever follows, and no break key is among them
abbrev pub invariant-loop-at : goal.invariant-loop-at
invariant-loop-at l = (more : List RowValue) → IsScanned l.cut (l.rows ++ more) l.at l.room
