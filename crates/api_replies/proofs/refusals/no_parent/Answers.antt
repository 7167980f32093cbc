use Rattle.api_replies.proofs.refusals.no_parent.Goals as goal

pub returns-in-OfExpression : goal.returns-in-OfExpression
returns-in-OfExpression c = rw (c.in-OfExpression.is, ← c.as_str.ensures.bytes) c.named.ensures

pub returns-in-OfNumber : goal.returns-in-OfNumber
returns-in-OfNumber c = rw c.in-OfNumber.is c.numbered.ensures
