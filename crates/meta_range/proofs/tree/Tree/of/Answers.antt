use Rattle.std.proofs.Common.{length, ap, arith}
use Rattle.meta_range.proofs.RangesLemmas.{ranges_count}
use Rattle.meta_range.proofs.tree.Tree.of.Goals as goal

pub metarange_bytes-requires : goal.metarange_bytes-requires
metarange_bytes-requires c = omega (arith, ranges_count c.args.ranges.items c.requires, ap length c.as_slice.ensures.value)
