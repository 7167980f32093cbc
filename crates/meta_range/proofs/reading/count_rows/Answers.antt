use Rattle.std.proofs.Common.{length, ap, ◌∙◌, arith}
use Rattle.std.proofs.lemmas.List.{take_all}
use Rattle.range_file.specs.Rows.{RowValue}
use Rattle.std.proofs.Common.{List}
use Rattle.meta_range.specs.Ranges.{rows_of}
use Rattle.meta_range.proofs.RangesLemmas.{rows_more}
use Rattle.meta_range.proofs.reading.count_rows.Goals as goal

pub loop-range-preserved : goal.loop-range-preserved
loop-range-preserved c =
    let more = rows_more c.args.ranges.now c.loop-range.range-index c.range-item.result c.loop-range-test.true c.range-item.is in
    let long = ap length c.rows.ensures.rows in
    let few = c.rows.ensures.valid.few in
    record { counted = omega (arith, more, long, c.loop-range.invariant.counted); few = omega (arith, long, few, c.loop-range.invariant.few) }

pub overflow_add-count : goal.overflow_add-count
overflow_add-count c =
    let long = ap length c.rows.ensures.rows in
    let few = c.rows.ensures.valid.few in
    omega (arith, long, few, c.loop-range.invariant.few)

pub returns : goal.returns
returns c = c.loop-range.invariant.counted
    ∙ ap (λ (rs : List (List RowValue)). length (rows_of rs)) (take_all c.loop-range.range-index c.args.ranges.now c.loop-range-test.false)
