use Rattle.std.proofs.Common.{arith}
use Rattle.std.proofs.lemmas.List.Elements.{All-nil}
use Rattle.std.specs.List.Sorted.{IsStrictlySortedBy}
use Rattle.lake_values.specs.Pairs.{IsPair}
use Rattle.lake_values.proofs.pairs.Pairs.new.Goals as goal

pub invariant_of-result : goal.invariant_of-result
unfolding IsStrictlySortedBy
invariant_of-result c = rw c.new.ensures.items (record { few = omega arith; each = All-nil IsPair; ascending = tt })
