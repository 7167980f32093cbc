use Rattle.std.proofs.Common.{◌≡◌, Option, inl, inr, ap}
use Rattle.std.specs.Prelude.{ok_or}
use Rattle.commit_graph.specs.Expressions.{RefExprValue}
use Rattle.lake_calls.specs.declared.reply.FormRefusal.TheVariants.{BadValue}
use Rattle.api_routes.proofs.ExpressionTextLemmas.{expression_is, expression_none}
use Rattle.api_routes.proofs.expression.parsed.Goals as goal

pub returns-in-Ok-clause-read : goal.returns-in-Ok-clause-read
returns-in-Ok-clause-read c =
    ap (λ (o : Option RefExprValue). ok_or o (BadValue c.args.name.now)) (expression_is c.in-Ok.e c.args.bytes.now c.in-Ok.ensures.found)

pub returns-in-Err-Bad-clause-read : goal.returns-in-Err-Bad-clause-read
returns-in-Err-Bad-clause-read c =
    let stray = c.in-Err-Bad.ensures.bad c.in-Err-Bad.field-0-0 (let e = c.in-Err-Bad.field-0-is in cc) in
    let none = ap (λ (o : Option RefExprValue). ok_or o (BadValue c.args.name.now)) (expression_none c.args.bytes.now stray.none) in
    elim c.bad_value.ensures [
      | inl e ↦ inl e
      | inr e ↦ inr (BadValue c.args.name.now, e, none)
    ]
