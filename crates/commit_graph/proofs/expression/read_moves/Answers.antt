use Rattle.std.proofs.Common.{sym, subst}
use Rattle.commit_graph.specs.Scanning.{IsScanned}
use Rattle.commit_graph.proofs.ExpressionLemmas.{move_read, shorter, scanned_more}
use Rattle.commit_graph.proofs.expression.read_moves.Goals as goal

pub loop-rest-smaller : goal.loop-rest-smaller
loop-rest-smaller c =
    shorter c.loop-rest.rest.now c.in-Some.one c.in-Some.after.now (move_read c.loop-rest.rest.now c.in-Some.one c.in-Some.after.now (sym c.in-Some.ensures))

pub loop-rest-preserved : goal.loop-rest-preserved
loop-rest-preserved c =
    let read = move_read c.loop-rest.rest.now c.in-Some.one c.in-Some.after.now (sym c.in-Some.ensures) in
    subst (λ l. IsScanned c.args.bytes.now l c.in-Some.after.now) (sym c.in_ok-push.ensures.items)
    (scanned_more c.args.bytes.now c.loop-rest.moves.items c.loop-rest.rest.now c.in-Some.after.now c.in-Some.one c.loop-rest.invariant read)
