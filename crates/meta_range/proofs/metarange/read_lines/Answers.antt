use Rattle.std.proofs.Common.{[], ap, sym, subst, ◌∙◌}
use Rattle.std.proofs.lemmas.Result.{err_from_is_err_and}
use Rattle.meta_range.specs.Metarange.{Fails, read_line, read_lines}
use Rattle.meta_range.proofs.MetarangeLemmas.{goes_on, ends, is_done}
use Rattle.meta_range.proofs.metarange.read_lines.Goals as goal

pub returns-in_err-line : goal.returns-in_err-line
returns-in_err-line c =
    let p = err_from_is_err_and c.from_residual.result c.from_residual.ensures.1 in
    let fault = c.in_err-line.field-0.0 in
    let failed = subst (λ before. Fails fault (read_line c.args.len before c.loop.rest.now)) c.as_slice.ensures.value c.in_err-line.ensures in
    rw (p.1, p.2) (ends fault c.args.len c.args.count c.loop.counter c.loop.lines.items c.loop.rest.now (read_lines c.args.len c.args.count [] c.args.bytes.now)
    c.loop-test.true failed c.loop.invariant)

pub loop-preserved : goal.loop-preserved
loop-preserved c =
    let here = ap (λ before. read_line c.args.len before c.loop.rest.now) (sym c.as_slice.ensures.value) ∙ c.in_ok-line.ensures in
    rw c.in_ok-push.ensures.items (goes_on c.args.len c.args.count c.loop.counter c.loop.lines.items c.loop.rest.now c.in_ok-line.line c.in_ok-line.after.now
    (read_lines c.args.len c.args.count [] c.args.bytes.now) c.loop-test.true here c.loop.invariant)

pub returns : goal.returns
returns c = is_done c.args.len c.args.count c.loop.counter c.loop.lines.items c.loop.rest.now (read_lines c.args.len c.args.count [] c.args.bytes.now)
    c.loop-test.false c.loop.invariant
