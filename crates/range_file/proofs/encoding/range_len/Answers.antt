use Rattle.std.proofs.Common.{length, take, ap, ◌∙◌, arith}
use Rattle.std.proofs.lemmas.List.{length-append}
use Rattle.std.specs.List.{flat_map}
use Rattle.lake_base.proofs.ListLemmas.{flat_take}
use Rattle.lake_format.specs.Spelling.{row_spelling}
use Rattle.range_file.specs.Rows.{RowValue}
use Rattle.range_file.proofs.encoding.range_len.Goals as goal

pub loop-row-preserved : goal.loop-row-preserved
loop-row-preserved c =
    let row = c.row-item.result in
    let so_far = flat_map row_spelling (take c.loop-row.row-index c.args.rows.now) in
    let more =
    ap length (flat_take row_spelling c.args.rows.now c.loop-row.row-index row c.loop-row-test.true c.row-item.is) ∙ length-append so_far (row_spelling row) in
    let len = c.row_len-len.ensures.bytes ∙ ap (λ (r : RowValue). length (row_spelling r)) c.row.view_is in
    record { counted = omega (arith, more, len); few = omega arith }
