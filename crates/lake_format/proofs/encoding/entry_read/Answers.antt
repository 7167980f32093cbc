use Rattle.std.proofs.Common.{◌-◌, length, Ok, arith, subst, sym, ◌∙◌}
use Rattle.std.proofs.lemmas.Result.{err_from_is_err_and}
use Rattle.lake_format.specs.Reading.{Fails}
use Rattle.lake_format.proofs.EncodingLemmas.{found_from, again_from, forgets}
use Rattle.lake_format.proofs.encoding.entry_read.Goals as goal

pub returns-clause-found : goal.returns-clause-found
returns-clause-found c =
    found_from c.args.bytes.now c.args.from c.in_ok-found.found.0 c.in_ok-found.found.1 (λ i. omega (arith, c.type_inv.bytes i)) c.in_ok-found.ensures

pub returns-clause-only : goal.returns-clause-only
returns-clause-only c = λ e rest is h. sym (again_from c.args.bytes.now c.args.from e rest is h) ∙ c.in_ok-found.ensures

pub returns-in_err-found-clause-only : goal.returns-in_err-found-clause-only
returns-in_err-found-clause-only c = λ e rest is h.
    let p = err_from_is_err_and c.from_residual.result c.from_residual.ensures.1 in
    let fault = c.in_err-found.field-0.0 in
    rw p.1 (forgets fault p.0 (Ok (e, length c.args.bytes.now - length rest)) p.2
    (subst (Fails fault) (again_from c.args.bytes.now c.args.from e rest is h) c.in_err-found.ensures))
