use Rattle.std.proofs.Common.{◌≡◌, ◌≤◌, ℕ, List, length, Some, sym, subst}
use Rattle.commit_graph.specs.Expressions.{RefExprValue, IsExpression}
use Rattle.api_routes.specs.ExpressionTexts.{expression_of}
use Rattle.api_routes.proofs.ExpressionTextLemmas.{expression_at_is, expression_is}
use Rattle.api_routes.proofs.expression.as_expression.Goals as goal

pub returns-in-Ok : goal.returns-in-Ok
returns-in-Ok c =
    let few = subst (λ (t : List ℕ). length t ≤ 67108864) c.as_slice-bytes.ensures c.if-bytes-gt-EXPRESSION_LIMIT.false in
    let found = subst (IsExpression c.in_ok-_e._e) c.as_slice-bytes.ensures c.in_ok-_e.ensures.found in
    let same = c.in-Ok.ensures.only c.in_ok-_e._e found in
    let read = expression_is c.in_ok-_e._e c.args.text found in
    let meant = subst (λ (e : RefExprValue). expression_of c.args.text ≡ Some e) (sym same) read in
    expression_at_is c.args.name.now c.args.text c.in-Ok.expression few c.in-Ok.ensures.text meant
