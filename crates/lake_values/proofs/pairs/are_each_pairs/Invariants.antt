use Rattle.std.proofs.Common.{take}
use Rattle.std.specs.List.{AllByRecursion}
use Rattle.lake_values.specs.Pairs.{IsPair}
use Rattle.lake_values.proofs.pairs.are_each_pairs.Given as goal

-- those so far
abbrev pub invariant-loop-pair : goal.invariant-loop-pair
invariant-loop-pair l = AllByRecursion IsPair (take l.pair-index l.pairs)
