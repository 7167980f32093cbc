use Rattle.std.proofs.Common.{length, ap, arith}
use Rattle.lake_format.specs.Cutting.{ranges}
use Rattle.lake_format.proofs.CutLemmas.{first_of, ranges_few, ranges_none, some_left, none_left}
use Rattle.plain_reference.proofs.segments.range_count.Goals as goal

pub overflow_add-count : goal.overflow_add-count
overflow_add-count c =
    let first = first_of c.args.cut.now c.loop-rest.rest.now c.first_range.result.0.now c.first_range.result.1.now
    (some_left c.loop-rest.rest.now c.is_empty.result c.is_empty.ensures c.loop-rest-test.true)
    c.first_range.ensures.front c.first_range.ensures.rest in
    let cons = ap length first.cons in
    let few = ranges_few c.args.cut.now c.args.rows.now in
    omega arith

pub loop-rest-smaller : goal.loop-rest-smaller
loop-rest-smaller c =
    (first_of c.args.cut.now c.loop-rest.rest.now c.first_range.result.0.now c.first_range.result.1.now
    (some_left c.loop-rest.rest.now c.is_empty.result c.is_empty.ensures c.loop-rest-test.true)
    c.first_range.ensures.front c.first_range.ensures.rest).shorter

pub loop-rest-preserved : goal.loop-rest-preserved
loop-rest-preserved c =
    let first = first_of c.args.cut.now c.loop-rest.rest.now c.first_range.result.0.now c.first_range.result.1.now
    (some_left c.loop-rest.rest.now c.is_empty.result c.is_empty.ensures c.loop-rest-test.true)
    c.first_range.ensures.front c.first_range.ensures.rest in
    let cons = ap length first.cons in
    omega arith

pub returns : goal.returns
returns c =
    let none = none_left c.loop-rest.rest.now c.is_empty.result c.is_empty.ensures c.loop-rest-test.false in
    let nothing = ap (λ r. length (ranges c.args.cut.now r)) none in
    let zero_left = ap length (ranges_none c.args.cut.now) in
    omega arith
