use Rattle.std.proofs.Common.{◌≡◌, option_copied, ap, sym, subst, ◌∙◌}
use Rattle.std.proofs.lemmas.Result.{err_from_is_err_and}
use Rattle.lake_format.specs.Reading.{Fails, last_key, read_pair, read_pairs}
use Rattle.lake_format.proofs.MetadataLemmas.{goes_on, ends, is_done}
use Rattle.lake_format.proofs.fields.read_pairs.Goals as goal
use Rattle.std.proofs.Common.{None}

pub returns-in_err-pair : goal.returns-in_err-pair
returns-in_err-pair c =
    let p = err_from_is_err_and c.from_residual.result c.from_residual.ensures.1 in
    let key : option_copied c.last_key.result ≡ last_key c.loop.pairs.items = c.last_key.ensures ∙ ap last_key c.as_slice.ensures.value in
    let failed : Fails c.in_err-pair.field-0.0 (read_pair (last_key c.loop.pairs.items) c.loop.rest.now) =
    subst (λ k. Fails c.in_err-pair.field-0.0 (read_pair k c.loop.rest.now)) key c.in_err-pair.ensures in
    rw (p.1, p.2) (ends c.in_err-pair.field-0.0 c.loop.pairs.items c.args.count c.loop.counter c.loop.rest.now (read_pairs c.args.count None c.args.bytes.now)
    c.loop-test.true failed c.loop.invariant)

pub loop-preserved : goal.loop-preserved
loop-preserved c =
    let key : option_copied c.last_key.result ≡ last_key c.loop.pairs.items = c.last_key.ensures ∙ ap last_key c.as_slice.ensures.value in
    rw c.in_ok-push.ensures.items (goes_on c.loop.pairs.items c.args.count c.loop.counter c.loop.rest.now c.in_ok-pair.pair c.in_ok-pair.after.now
    (read_pairs c.args.count None c.args.bytes.now) c.loop-test.true
    (ap (λ k. read_pair k c.loop.rest.now) (sym key) ∙ c.in_ok-pair.ensures) c.loop.invariant)

pub returns : goal.returns
returns c =
    is_done c.loop.pairs.items c.args.count c.loop.counter c.loop.rest.now (read_pairs c.args.count None c.args.bytes.now) c.loop-test.false c.loop.invariant
