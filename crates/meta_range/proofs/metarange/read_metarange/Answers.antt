use Rattle.std.proofs.Common.{arith, ap, subst, sym, ◌∙◌}
use Rattle.std.proofs.lemmas.Result.{err_from_is_err_and}
use Rattle.meta_range.specs.Metarange.{Fails, metarange_from}
use Rattle.meta_range.proofs.MetarangeLemmas.{found, again}
use Rattle.meta_range.proofs.metarange.read_metarange.Goals as goal

pub returns-clause-found : goal.returns-clause-found
returns-clause-found c = found c.args.bytes.now c.in_ok-lines.lines.items (λ i. omega (arith, c.type_inv.bytes i)) c.in_ok-lines.ensures

pub returns-clause-only : goal.returns-clause-only
returns-clause-only c = λ lines is h. sym (ap metarange_from h ∙ again lines is) ∙ c.in_ok-lines.ensures

pub returns-in_err-lines-clause-only : goal.returns-in_err-lines-clause-only
returns-in_err-lines-clause-only c = λ lines is h.
    let p = err_from_is_err_and c.from_residual.result c.from_residual.ensures.1 in
    let fault = c.in_err-lines.field-0.0 in
    rw (p.1, p.2) (subst (Fails fault) (ap metarange_from h ∙ again lines is) c.in_err-lines.ensures)
