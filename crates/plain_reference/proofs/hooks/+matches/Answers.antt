use Rattle.std.proofs.Common.{◌≡◌, ◌≤◌, false, drop, length, sym, ap, ◌∙◌, arith, below_more}
use Rattle.lake_values.specs.HookDecisions.{matches}
use Rattle.plain_reference.proofs.HooksLemmas.{nothing_left, star_found, star_never, byte_there, byte_other, byte_missing}
use Rattle.plain_reference.proofs.hooks.+matches.Goals as goal

pub returns-then-matches : goal.returns-then-matches
returns-then-matches t c =
    let within : c.loop-skipped.skipped ≤ length c.args.name.now = omega arith in
    star_found c.args.pattern.now c.in-Some-eq42-default.rest.now c.in-Some-eq42-default.field-0-0.now c.in-Some-eq42-default.ensures.cases.0 c.args.name.now
    c.loop-skipped.skipped c.in-Some-eq42-default.field-0-0-test within
    (ap (matches c.in-Some-eq42-default.rest.now) (sym c.split_at.ensures.back) ∙ sym c.matches.ensures ∙ c.if-matches.true)

pub returns-in-None : goal.returns-in-None
returns-in-None t c = nothing_left c.args.pattern.now c.args.name.now c.is_empty.result c.in-None.ensures.cases c.is_empty.ensures

pub returns-else-matches : goal.returns-else-matches
returns-else-matches t c =
    let here : matches c.in-Some-eq42-default.rest.now (drop c.loop-skipped.skipped c.args.name.now) ≡ false =
    ap (matches c.in-Some-eq42-default.rest.now) (sym c.split_at.ensures.back) ∙ sym c.matches.ensures ∙ c.if-matches.false in
    star_never c.args.pattern.now c.in-Some-eq42-default.rest.now c.in-Some-eq42-default.field-0-0.now c.in-Some-eq42-default.ensures.cases.0 c.args.name.now
    c.in-Some-eq42-default.field-0-0-test
    (λ k le. below_more (λ j. matches c.in-Some-eq42-default.rest.now (drop j c.args.name.now) ≡ false) c.loop-skipped.skipped c.loop-skipped.invariant here k
    (omega arith))

pub returns-then-c-byte : goal.returns-then-c-byte
returns-then-c-byte t c =
    byte_there c.args.pattern.now c.in-Some.rest.now c.in-Some.byte.now c.in-Some.ensures.cases.0 c.args.name.now c.in-Some-split_first.left.now
    c.in-Some-split_first.c.now c.matches-then-c-byte.result c.in-Some.byte-test.1 c.in-Some-split_first.ensures.cases.0 c.if-c-byte.true
    c.matches-then-c-byte.ensures

pub returns-else-c-byte : goal.returns-else-c-byte
returns-else-c-byte t c =
    byte_other c.args.pattern.now c.in-Some.rest.now c.in-Some.byte.now c.in-Some.ensures.cases.0 c.args.name.now c.in-Some-split_first.left.now
    c.in-Some-split_first.c.now c.in-Some.byte-test.1 c.in-Some-split_first.ensures.cases.0 c.if-c-byte.false

pub returns-in-None-split_first : goal.returns-in-None-split_first
returns-in-None-split_first t c =
    byte_missing c.args.pattern.now c.in-Some.rest.now c.in-Some.byte.now c.in-Some.ensures.cases.0 c.args.name.now c.in-Some.byte-test.1
    c.in-None-split_first.ensures.cases
