use Rattle.std.proofs.Common.{◌<◌, ◌+◌, ◌-◌, true, false, length, sym, ◌∙◌, arith}
use Rattle.http_wire.proofs.HeadLemmas.{rest_long, no_end_run, no_end_step, feed_at, end_is}
use Rattle.http_wire.proofs.heads.head_end.Goals as goal

pub lines-preserved : goal.lines-preserved
lines-preserved c =
    let found = c.in-Some.ensures in
    let at = c.lines.start + c.in-Some.found in
    let within : at < length c.args.bytes.now = omega (arith, found.0.high, rest_long c.args.bytes.now c.lines.start c.lines.invariant.within) in
    record {
      none = no_end_step c.args.bytes.now at
          (no_end_run c.args.bytes.now c.lines.start c.in-Some.found c.lines.invariant.none (omega (arith, within)) found.0.before)
          (end_is c.args.bytes.now at false within
          (feed_at c.args.bytes.now c.lines.start c.in-Some.found within found.1) (sym c.is_empty_line.ensures ∙ c.if-is_empty_line.false));
      within = omega (arith, within);
    }

pub returns-then-is_empty_line : goal.returns-then-is_empty_line
returns-then-is_empty_line c =
    let found = c.in-Some.ensures in
    let at = c.lines.start + c.in-Some.found in
    let within : at < length c.args.bytes.now = omega (arith, found.0.high, rest_long c.args.bytes.now c.lines.start c.lines.invariant.within) in
    record {
      within = omega (arith, within);
      ends = end_is c.args.bytes.now at true within
          (feed_at c.args.bytes.now c.lines.start c.in-Some.found within found.1) (sym c.is_empty_line.ensures ∙ c.if-is_empty_line.true);
      first = λ k h.
          no_end_run c.args.bytes.now c.lines.start c.in-Some.found c.lines.invariant.none (omega (arith, within)) found.0.before k (omega (arith, h));
    }

-- no line feed is left
pub returns : goal.returns
returns c k h =
    let rest = length c.args.bytes.now - c.lines.start in
    no_end_run c.args.bytes.now c.lines.start rest c.lines.invariant.none (omega (arith, c.lines.invariant.within))
    (λ j from less. c.in_default.ensures j from (omega (arith, less, rest_long c.args.bytes.now c.lines.start c.lines.invariant.within)))
    k (omega (arith, h, c.lines.invariant.within))
