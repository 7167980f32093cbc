use Rattle.std.proofs.Common.{arith, ◌≡◌, subst, sym, ◌∙◌, Ok}
use Rattle.std.proofs.lemmas.Result.{err_from_is_err_and}
use Rattle.pair_format.specs.PairReading.{Fails, pair_from}
use Rattle.pair_format.proofs.ReadingLemmas.{found, again}
use Rattle.pair_format.proofs.decoding.decode_parts.Goals as goal

pub returns-clause-found : goal.returns-clause-found
returns-clause-found c = found c.args.key.now c.args.value.now c.in_ok-stored.stored (λ i. omega (arith, c.type_inv.key i))
    (λ i. omega (arith, c.type_inv.value i)) c.in_ok-stored.ensures

pub returns-clause-only : goal.returns-clause-only
returns-clause-only c = λ s is k v.
    let read : pair_from c.args.key.now c.args.value.now ≡ Ok s = (λ i. pair_from (k i) (v i)) ∙ again s is in
    sym read ∙ c.in_ok-stored.ensures

pub returns-in_err-stored-clause-only : goal.returns-in_err-stored-clause-only
returns-in_err-stored-clause-only c = λ s is k v.
    let p = err_from_is_err_and c.from_residual.result c.from_residual.ensures.1 in
    let fault = c.in_err-stored.field-0.0 in
    let read : pair_from c.args.key.now c.args.value.now ≡ Ok s = (λ i. pair_from (k i) (v i)) ∙ again s is in
    rw (p.1, p.2) (subst (Fails fault) read c.in_err-stored.ensures)
