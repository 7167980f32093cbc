use Rattle.std.proofs.Common.{arith}
use Rattle.plain_reference.proofs.SegmentRunLemmas.{parted}
use Rattle.plain_reference.proofs.segments.is_carried.Goals as goal

pub loop-other_before-smaller : goal.loop-other_before-smaller
loop-other_before-smaller c =
    let p = parted c.args.cut.now c.loop-other_before.rest.now c.first_segment.result.0.now c.first_segment.result.1.now c.first_segment.ensures in
    omega arith
