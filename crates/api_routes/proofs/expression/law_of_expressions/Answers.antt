use Rattle.api_routes.proofs.ExpressionTextLemmas.{expression_is, expression_none}
use Rattle.api_routes.proofs.expression.law_of_expressions.Goals as goal

pub returns-clause-is : goal.returns-clause-is
returns-clause-is c = expression_is

pub returns-clause-none : goal.returns-clause-none
returns-clause-none c = expression_none
