use Rattle.std.proofs.Common.{arith, ap, subst, sym, ◌∙◌}
use Rattle.std.proofs.lemmas.Result.{err_from_is_err_and}
use Rattle.range_file.specs.RangeReading.{Fails, range_from}
use Rattle.range_file.proofs.ReadingLemmas.{found, again}
use Rattle.range_file.proofs.decoding.decode.Goals as goal

pub returns-clause-found : goal.returns-clause-found
returns-clause-found c = found c.args.bytes.now c.in_ok-range.range (λ i. omega (arith, c.type_inv.bytes i)) c.in_ok-range.ensures

pub returns-clause-only : goal.returns-clause-only
returns-clause-only c = λ rows is h. sym (ap range_from h ∙ again rows is) ∙ c.in_ok-range.ensures

pub returns-in_err-range-clause-only : goal.returns-in_err-range-clause-only
returns-in_err-range-clause-only c = λ rows is h.
    let p = err_from_is_err_and c.from_residual.result c.from_residual.ensures.1 in
    let fault = c.in_err-range.field-0.0 in
    rw (p.1, p.2) (subst (Fails fault) (ap range_from h ∙ again rows is) c.in_err-range.ensures)
