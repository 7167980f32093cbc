use Rattle.std.proofs.Common.{◌≡◌, ◌+◌, ◌-◌, ℕ, List, [], length, drop, ap, ◌∙◌, arith}
use Rattle.std.proofs.lemmas.List.{drop_all}
use Rattle.commit_graph.specs.Scanning.{number_from}
use Rattle.commit_graph.proofs.ExpressionLemmas.{number_step, number_ends, number_full, number_past, slice_end}
use Rattle.commit_graph.proofs.expression.read_digits.Goals as goal

pub returns-then-at-eq10 : goal.returns-then-at-eq10
returns-then-at-eq10 c =
    let bytes = c.args.bytes.now in
    let at = c.loop-at.at in
    ap (λ (l : List ℕ). (c.loop-at.number, l)) (slice_end bytes at)
    ∙ number_full bytes at c.loop-at.number (number_from 10 0 bytes) (omega arith) c.loop-at.invariant.so_far

pub returns-in_default : goal.returns-in_default
returns-in_default c =
    let bytes = c.args.bytes.now in
    let at = c.loop-at.at in
    ap (λ (l : List ℕ). (c.loop-at.number, l)) (slice_end bytes at)
    ∙ number_ends bytes at c.loop-at.number (number_from 10 0 bytes) c.loop-at-test.true (omega arith) c.in_default.ensures c.loop-at.invariant.so_far

pub loop-at-preserved : goal.loop-at-preserved
loop-at-preserved c =
    let bytes = c.args.bytes.now in
    let at = c.loop-at.at in
    record {
      so_far = ap (λ n. number_from (10 - (at + 1)) n (drop (at + 1) bytes)) c.in-Some.ensures.1
          ∙ number_step bytes at c.loop-at.number (number_from 10 0 bytes) c.loop-at-test.true (omega arith) c.in-Some.ensures.0 c.loop-at.invariant.so_far;
      few = omega arith;
    }

pub returns : goal.returns
returns c =
    let bytes = c.args.bytes.now in
    let none : drop (length bytes) bytes ≡ [] = drop_all (length bytes) bytes (omega arith) in
    ap (λ (l : List ℕ). (c.loop-at.number, l)) (slice_end bytes (length bytes) ∙ none)
    ∙ number_past bytes c.loop-at.at c.loop-at.number (number_from 10 0 bytes) c.loop-at-test.false c.loop-at.invariant.so_far
