use Rattle.std.proofs.Common.{◌≡◌, take, true, false, ap, sym, ◌∙◌}
use Rattle.lake_format.specs.Reading.{is_next}
use Rattle.range_file.specs.Rows.{RowValue, last_path}
use Rattle.range_file.proofs.RowsLemmas.{ascend_at, stray_at}
use Rattle.range_file.proofs.rows.have_ascending_paths.Goals as goal

pub returns-then-not-is_above : goal.returns-then-not-is_above
returns-then-not-is_above c =
    let before = take c.loop-at.at c.args.rows.now in
    let row = c.index-rows-at.result in
    let stray : is_next (last_path before) row.0 ≡ false =
    ap (λ (r : RowValue). is_next (last_path before) r.0) (sym c.row.view_is) ∙ sym c.is_above.ensures ∙ c.if-not-is_above.true in
    (λ no. absurd cc, λ h. absurd (stray_at c.args.rows.now c.loop-at.at row c.loop-at-test.true c.index-rows-at.is stray h))

pub loop-at-preserved : goal.loop-at-preserved
loop-at-preserved c =
    let before = take c.loop-at.at c.args.rows.now in
    let row = c.index-rows-at.result in
    let next : is_next (last_path before) row.0 ≡ true =
    ap (λ (r : RowValue). is_next (last_path before) r.0) (sym c.row.view_is) ∙ sym c.is_above.ensures ∙ c.if-not-is_above.false in
    ascend_at c.args.rows.now c.loop-at.at row c.loop-at-test.true c.index-rows-at.is c.loop-at.invariant next
