use Rattle.std.proofs.Common.{sym, ◌∙◌, arith}
use Rattle.commit_graph.specs.Scanning.{tail_len}
use Rattle.commit_graph.proofs.ExpressionLemmas.{tail_step, tail_ends, tail_full, tail_past}
use Rattle.commit_graph.proofs.expression.tail_len.Goals as goal
use Rattle.commit_graph.proofs.expression.tail_len.Goals.{then-at-eq254-via-then-at-eq254, then-at-eq254-via-else-at-eq254+then-not-continues_name}

pub returns-then-at-eq254-clause-len : goal.returns-then-at-eq254-clause-len
returns-then-at-eq254-clause-len c =
    let bytes = c.args.bytes.now in
    let at = c.loop-at.at in
    elim c.then-at-eq254.branch [
      | then-at-eq254-via-then-at-eq254 w ↦ tail_full bytes at (tail_len 254 bytes) (omega arith) c.loop-at.invariant.so_far
      | then-at-eq254-via-else-at-eq254+then-not-continues_name w ↦ tail_ends bytes at (tail_len 254 bytes) c.loop-at-test.true (omega arith)
          (sym w.continues_name.ensures ∙ w.if-not-continues_name.true) c.loop-at.invariant.so_far
    ]

pub loop-at-preserved : goal.loop-at-preserved
loop-at-preserved c =
    let bytes = c.args.bytes.now in
    record {
      so_far = tail_step bytes c.loop-at.at (tail_len 254 bytes) c.loop-at-test.true (omega arith)
          (sym c.continues_name.ensures ∙ c.if-not-continues_name.false) c.loop-at.invariant.so_far;
      few = omega arith;
    }

pub returns-clause-len : goal.returns-clause-len
returns-clause-len c =
    let past = tail_past c.args.bytes.now c.loop-at.at (tail_len 254 c.args.bytes.now) c.loop-at-test.false c.loop-at.invariant.so_far in
    omega (arith, past)
