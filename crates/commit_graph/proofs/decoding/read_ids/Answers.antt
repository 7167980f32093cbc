use Rattle.std.proofs.Common.{[]}
use Rattle.std.proofs.lemmas.Result.{err_from_is_err_and}
use Rattle.commit_graph.specs.CommitReading.{read_ids}
use Rattle.commit_graph.proofs.ReadingLemmas.{goes_on, ends, is_done}
use Rattle.commit_graph.proofs.decoding.read_ids.Goals as goal

pub returns-in_err-id : goal.returns-in_err-id
returns-in_err-id c =
    let p = err_from_is_err_and c.from_residual.result c.from_residual.ensures.1 in
    let fault = c.in_err-id.field-0.0 in
    rw (p.1, p.2) (ends fault c.args.count c.loop.counter c.loop.ids.items c.loop.rest.now (read_ids c.args.count [] c.args.bytes.now) c.loop-test.true
    c.in_err-id.ensures.reads c.loop.invariant)

pub loop-preserved : goal.loop-preserved
loop-preserved c =
    rw c.in_ok-push.ensures.items (goes_on c.args.count c.loop.counter c.loop.ids.items c.loop.rest.now c.in_ok-id.id.0 c.in_ok-id.after.now
    (read_ids c.args.count [] c.args.bytes.now) c.loop-test.true c.in_ok-id.ensures.reads c.loop.invariant)

pub returns : goal.returns
returns c = is_done c.args.count c.loop.counter c.loop.ids.items c.loop.rest.now (read_ids c.args.count [] c.args.bytes.now) c.loop-test.false c.loop.invariant
