use Rattle.std.proofs.Common.{[], ap, sym, subst, ◌∙◌}
use Rattle.std.proofs.lemmas.Result.{err_from_is_err_and}
use Rattle.range_file.specs.RangeReading.{Fails, read_row, read_rows}
use Rattle.range_file.proofs.ReadingLemmas.{goes_on, ends, is_done}
use Rattle.range_file.proofs.decoding.read_rows.Goals as goal

pub returns-in_err-row : goal.returns-in_err-row
returns-in_err-row c =
    let p = err_from_is_err_and c.from_residual.result c.from_residual.ensures.1 in
    let fault = c.in_err-row.field-0.0 in
    let failed = subst (λ before. Fails fault (read_row c.args.len before c.loop.rest.now)) c.as_slice.ensures.value c.in_err-row.ensures in
    rw (p.1, p.2) (ends fault c.args.len c.args.count c.loop.counter c.loop.rows.items c.loop.rest.now (read_rows c.args.len c.args.count [] c.args.bytes.now)
    c.loop-test.true failed c.loop.invariant)

pub loop-preserved : goal.loop-preserved
loop-preserved c =
    let here = ap (λ before. read_row c.args.len before c.loop.rest.now) (sym c.as_slice.ensures.value) ∙ c.in_ok-row.ensures in
    rw c.in_ok-push.ensures.items (goes_on c.args.len c.args.count c.loop.counter c.loop.rows.items c.loop.rest.now c.in_ok-row.row c.in_ok-row.after.now
    (read_rows c.args.len c.args.count [] c.args.bytes.now) c.loop-test.true here c.loop.invariant)

pub returns : goal.returns
returns c = is_done c.args.len c.args.count c.loop.counter c.loop.rows.items c.loop.rest.now (read_rows c.args.len c.args.count [] c.args.bytes.now)
    c.loop-test.false c.loop.invariant
