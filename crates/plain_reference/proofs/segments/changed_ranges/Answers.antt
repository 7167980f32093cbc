use Rattle.std.proofs.Common.{option_copied, arith}
use Rattle.lake_format.proofs.CutLemmas.{ranges_few}
use Rattle.plain_reference.proofs.SegmentRunLemmas.{parted, changed_more, changed_over}
use Rattle.plain_reference.proofs.segments.changed_ranges.Goals as goal
use Rattle.plain_reference.proofs.segments.changed_ranges.Goals.{then-not-is_carried, else-not-is_carried}

pub overflow_add-count : goal.overflow_add-count
overflow_add-count c =
    let p = parted c.args.cut.now c.loop-before.rest.now c.first_segment.result.0.now c.first_segment.result.1.now c.first_segment.ensures in
    let few = ranges_few c.args.cut.now c.first_segment.result.0.now in
    omega arith

pub loop-before-smaller : goal.loop-before-smaller
loop-before-smaller c =
    let p = parted c.args.cut.now c.loop-before.rest.now c.first_segment.result.0.now c.first_segment.result.1.now c.first_segment.ensures in
    omega arith

pub loop-before-preserved : goal.loop-before-preserved
loop-before-preserved c =
    let p = parted c.args.cut.now c.loop-before.rest.now c.first_segment.result.0.now c.first_segment.result.1.now c.first_segment.ensures in
    let few = ranges_few c.args.cut.now c.first_segment.result.0.now in
    elim c.if-not-is_carried.branch [
      | then-not-is_carried w ↦
          let more =
          changed_more c.args.cut.now c.args.old.now (option_copied c.loop-before.before) (option_copied c.last_path-before.result) c.loop-before.rest.now
          c.first_segment.result.0.now c.first_segment.result.1.now c.is_carried.result c.first_segment.ensures c.is_carried.ensures w.if-not-is_carried.true
          c.last_path-before.ensures in
          record { counted = omega arith; few = omega arith }
      | else-not-is_carried w ↦
          let over =
          changed_over c.args.cut.now c.args.old.now (option_copied c.loop-before.before) (option_copied c.last_path-before.result) c.loop-before.rest.now
          c.first_segment.result.0.now c.first_segment.result.1.now c.is_carried.result c.first_segment.ensures c.is_carried.ensures w.if-not-is_carried.false
          c.last_path-before.ensures in
          record { counted = omega arith; few = omega arith }
    ]
