use Rattle.api_replies.proofs.refusals.malformed.Goals as goal

pub returns-in-NoRoute : goal.returns-in-NoRoute
returns-in-NoRoute c = rw c.in-NoRoute.is c.fault.ensures

pub returns-in-MethodNotAllowed : goal.returns-in-MethodNotAllowed
returns-in-MethodNotAllowed c = rw c.in-MethodNotAllowed.is c.fault-in-MethodNotAllowed.ensures

pub returns-in-Missing : goal.returns-in-Missing
returns-in-Missing c = rw (c.in-Missing.is, ← c.as_str.ensures.bytes) c.named.ensures

pub returns-in-BadValue : goal.returns-in-BadValue
returns-in-BadValue c = rw (c.in-BadValue.is, ← c.as_str-in-BadValue.ensures.bytes) c.named-in-BadValue.ensures

pub returns-in-BadBody : goal.returns-in-BadBody
returns-in-BadBody c = rw c.in-BadBody.is c.fault-in-BadBody.ensures

pub returns-in-BadRule : goal.returns-in-BadRule
returns-in-BadRule c = rw (c.in-BadRule.is, ← c.as_str-in-BadRule.ensures.bytes) c.bad_rule.ensures

pub returns-in-BadRules : goal.returns-in-BadRules
returns-in-BadRules c = rw c.in-BadRules.is c.fault-in-BadRules.ensures
