use Rattle.std.proofs.Common.{◌≡◌, drop, length}
use Rattle.std.specs.Cmp.Lexicographic.{pointwise}
use Rattle.lake_values.specs.Sameness.{same_row}
use Rattle.plain_reference.proofs.segments.same_rows.Given as goal

-- whether all are the same is told by the rows to come
abbrev pub invariant-loop-at : goal.invariant-loop-at
invariant-loop-at l = record {
  lengths : length l.rows ≡ length l.others;
  rest : pointwise same_row l.rows l.others ≡ pointwise same_row (drop l.at l.rows) (drop l.at l.others);
}
