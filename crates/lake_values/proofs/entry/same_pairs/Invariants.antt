use Rattle.std.proofs.Common.{◌≡◌, drop, length}
use Rattle.std.specs.Cmp.Lexicographic.{pointwise}
use Rattle.lake_values.specs.Sameness.{same_pair}
use Rattle.lake_values.proofs.entry.same_pairs.Given as goal

-- whether all are the same is told by the pairs to come
abbrev pub invariant-loop-at : goal.invariant-loop-at
invariant-loop-at l = record {
  lengths : length l.pairs ≡ length l.others;
  rest : pointwise same_pair l.pairs l.others ≡ pointwise same_pair (drop l.at l.pairs) (drop l.at l.others);
}
