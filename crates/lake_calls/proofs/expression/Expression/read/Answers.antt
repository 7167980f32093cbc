use Rattle.std.proofs.Common.{sym, subst}
use Rattle.commit_graph.specs.Expressions.{IsExpression}
use Rattle.lake_calls.proofs.expression.Expression.read.Goals as goal

pub returns-in-Ok-clause-only : goal.returns-in-Ok-clause-only
returns-in-Ok-clause-only c e is = c.in-Ok.ensures.only e (subst (λ w. IsExpression e w) (sym c.as_slice.ensures) is)

pub returns-in-Err-clause-only : goal.returns-in-Err-clause-only
returns-in-Err-clause-only c e is = c.in-Err.ensures.only e (subst (λ w. IsExpression e w) (sym c.as_slice.ensures) is)
