use Rattle.hook_rules.proofs.MatchingLemmas.{over_star, over_byte, back, byte_other, none_other}
use Rattle.hook_rules.proofs.pattern.Walk.step.Goals as goal

pub returns-in-Some-eq42-default : goal.returns-in-Some-eq42-default
returns-in-Some-eq42-default c = λ most longest going.
    over_star most longest c.args.self.now going c.in-Some-eq42-default.field-0-0.now c.in-Some-eq42-default.pattern c.in-Some-eq42-default.ensures.cases.0
    c.in-Some-eq42-default.field-0-0-test

pub returns-then-wanted-byte : goal.returns-then-wanted-byte
returns-then-wanted-byte c = λ most longest going.
    over_byte most longest c.args.self.now going c.in-Some.wanted.now c.args.byte c.in-Some.pattern c.args.rest c.in-Some.ensures.cases.0 c.requires
    c.in-Some.wanted-test.1 c.if-wanted-byte.true

pub returns-else-wanted-byte : goal.returns-else-wanted-byte
returns-else-wanted-byte c = λ most longest going.
    back most longest c.args.self.now going c.again.result
    (byte_other c.in-Some.wanted.now c.args.byte c.args.self.now.pattern.now c.in-Some.pattern.now c.args.self.now.name.now c.args.rest.now
    c.in-Some.wanted-test.1 c.if-wanted-byte.false c.in-Some.ensures.cases.0 c.requires)
    (c.again.ensures most longest going)

pub returns-in-None : goal.returns-in-None
returns-in-None c = λ most longest going.
    back most longest c.args.self.now going c.again-in-None.result
    (none_other c.args.byte c.args.self.now.pattern.now c.args.self.now.name.now c.args.rest.now c.in-None.ensures.cases c.requires)
    (c.again-in-None.ensures most longest going)
