use Rattle.meta_range.proofs.RangesLemmas.{ranges_count}
use Rattle.meta_range.proofs.tree.Tree.files.Goals as goal

pub metarange_bytes-requires : goal.metarange_bytes-requires
metarange_bytes-requires c = ranges_count c.ranges-ranges.result.now c.ranges-ranges.ensures.valid
