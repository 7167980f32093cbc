use Rattle.std.proofs.Common.{sym, subst, ◌∙◌}
use Rattle.std.proofs.lemmas.Result.{err_from_is_err_and}
use Rattle.commit_graph.specs.Expressions.{IsStray}
use Rattle.commit_graph.proofs.ExpressionNameLemmas.{no_name, within, head_of, err_is, bad_is, err_only, err_bad, only_as}
use Rattle.commit_graph.proofs.expression.RefExpr.read.Goals as goal

pub returns-then-end-eq0-clause-only : goal.returns-then-end-eq0-clause-only
returns-then-end-eq0-clause-only c = λ e x. absurd ((no_name c.args.bytes.now (sym c.name_len-end.ensures.len ∙ c.if-end-eq0.true)).none e x)

pub returns-then-end-eq0-clause-bad : goal.returns-then-end-eq0-clause-bad
returns-then-end-eq0-clause-bad c =
    λ place e. subst (IsStray c.args.bytes.now) (bad_is 0 place e) (no_name c.args.bytes.now (sym c.name_len-end.ensures.len ∙ c.if-end-eq0.true))

pub split_at-requires : goal.split_at-requires
split_at-requires c = within c.args.bytes.now c.name_len-end.result c.name_len-end.ensures.len

pub name_of-requires : goal.name_of-requires
name_of-requires c =
    (head_of c.args.bytes.now c.name_len-end.result c.split_at.result.0.now c.split_at.result.1.now c.after_at-at.result.0 c.after_at-at.result.1.now
    c.name_len-end.ensures.len c.if-end-eq0.false c.split_at.ensures.front c.split_at.ensures.back c.after_at-at.ensures.parts
    c.after_at-at.ensures.plain).named

pub returns-in_err-moves-clause-only : goal.returns-in_err-moves-clause-only
returns-in_err-moves-clause-only c = λ e x.
    let h = head_of c.args.bytes.now c.name_len-end.result c.split_at.result.0.now c.split_at.result.1.now c.after_at-at.result.0 c.after_at-at.result.1.now
    c.name_len-end.ensures.len c.if-end-eq0.false c.split_at.ensures.front c.split_at.ensures.back c.after_at-at.ensures.parts c.after_at-at.ensures.plain in
    let p = err_from_is_err_and c.from_residual-in_err-moves.result c.from_residual-in_err-moves.ensures.1 in
    rw (p.1, p.2)
    (err_only c.args.bytes.now c.split_at.result.0.now c.after_at-at.result.0 c.after_at-at.result.1.now h c.in_err-moves.field-0.0 c.in_err-moves.ensures e x)

pub returns-in_err-moves-clause-bad : goal.returns-in_err-moves-clause-bad
returns-in_err-moves-clause-bad c = λ place is.
    let h = head_of c.args.bytes.now c.name_len-end.result c.split_at.result.0.now c.split_at.result.1.now c.after_at-at.result.0 c.after_at-at.result.1.now
    c.name_len-end.ensures.len c.if-end-eq0.false c.split_at.ensures.front c.split_at.ensures.back c.after_at-at.ensures.parts c.after_at-at.ensures.plain in
    let p = err_from_is_err_and c.from_residual-in_err-moves.result c.from_residual-in_err-moves.ensures.1 in
    err_bad c.args.bytes.now c.split_at.result.0.now c.after_at-at.result.0 c.after_at-at.result.1.now h c.in_err-moves.field-0.0 c.in_err-moves.ensures place
    (sym p.2 ∙ err_is p.0 _ (sym p.1 ∙ is))

pub returns-clause-only : goal.returns-clause-only
returns-clause-only c = λ e x.
    let h = head_of c.args.bytes.now c.name_len-end.result c.split_at.result.0.now c.split_at.result.1.now c.after_at-at.result.0 c.after_at-at.result.1.now
    c.name_len-end.ensures.len c.if-end-eq0.false c.split_at.ensures.front c.split_at.ensures.back c.after_at-at.ensures.parts c.after_at-at.ensures.plain in
    only_as c.args.bytes.now c.split_at.result.0.now c.after_at-at.result.0 c.after_at-at.result.1.now h c.in_ok-name.name c.in_ok-moves.moves.items c.of.result
    c.in_ok-name.ensures c.of.ensures c.in_ok-moves.ensures e x
