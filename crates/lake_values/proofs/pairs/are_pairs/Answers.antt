use Rattle.std.proofs.Common.{arith}
use Rattle.lake_base.proofs.MapsLemmas.{ascend_from, ascend_to}
use Rattle.lake_values.proofs.pairs.are_pairs.Goals as goal

pub returns-then-are_each_pairs : goal.returns-then-are_each_pairs
returns-then-are_each_pairs c = (
  λ yes. record {
    few = omega arith;
    each = c.are_each_pairs.ensures.0 c.if-are_each_pairs.true;
    ascending = ascend_to c.args.pairs.now (c.has_ascending_keys.ensures.0 yes);
  },
  λ pairs. c.has_ascending_keys.ensures.1 (ascend_from c.args.pairs.now pairs.ascending),
)
