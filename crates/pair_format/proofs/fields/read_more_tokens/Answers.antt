use Rattle.std.proofs.Common.{[]}
use Rattle.std.proofs.lemmas.Result.{err_from_is_err_and}
use Rattle.pair_format.specs.PairReading.{read_more_tokens}
use Rattle.pair_format.proofs.FieldsLemmas.{goes_on, ends, is_done}
use Rattle.pair_format.proofs.fields.read_more_tokens.Goals as goal

pub returns-in_err-token : goal.returns-in_err-token
returns-in_err-token c =
    let p = err_from_is_err_and c.from_residual.result c.from_residual.ensures.1 in
    let fault = c.in_err-token.field-0.0 in
    rw (p.1, p.2) (ends fault c.args.count c.loop.counter c.loop.tokens.items c.loop.rest.now (read_more_tokens c.args.count [] c.args.bytes.now)
    c.loop-test.true c.in_err-token.ensures.reads c.loop.invariant)

pub loop-preserved : goal.loop-preserved
loop-preserved c =
    rw c.in_ok-push.ensures.items (goes_on c.args.count c.loop.counter c.loop.tokens.items c.loop.rest.now c.in_ok-token.token c.in_ok-token.after.now
    (read_more_tokens c.args.count [] c.args.bytes.now) c.loop-test.true c.in_ok-token.ensures.reads c.loop.invariant)

pub returns : goal.returns
returns c = is_done c.args.count c.loop.counter c.loop.tokens.items c.loop.rest.now (read_more_tokens c.args.count [] c.args.bytes.now) c.loop-test.false
    c.loop.invariant
