use Rattle.std.proofs.Common.{◌∙◌, List, ℕ, ap, length}
use Rattle.std.specs.Fmt.{decimal}
use Rattle.std.proofs.lemmas.Result.{on_ok_weaker, on_err_weaker}
use Rattle.http_wire.specs.ReplyText.{sent_type}
use Rattle.http_wire.proofs.FrontLemmas.{wrote_as, front_as}
use Rattle.http_wire.proofs.ReplyLemmas.{no_content, whole_reply}
use Rattle.http_wire.proofs.reply.write_reply.Goals as goal

pub returns-then-reply-eq204-clause-all : goal.returns-then-reply-eq204-clause-all
returns-then-reply-eq204-clause-all g c =
    on_ok_weaker c.write_parts.result (wrote_as _ _ _ _
    (no_content c.args.reply.now c.closing_line-closing.result.now c.if-reply-eq204.true c.closing_line-closing.ensures)) c.write_parts.ensures.all

pub returns-then-reply-eq204-clause-front : goal.returns-then-reply-eq204-clause-front
returns-then-reply-eq204-clause-front g c =
    on_err_weaker c.write_parts.result (front_as _ _ _ _
    (no_content c.args.reply.now c.closing_line-closing.result.now c.if-reply-eq204.true c.closing_line-closing.ensures)) c.write_parts.ensures.front

pub returns-clause-all : goal.returns-clause-all
returns-clause-all g c =
    on_ok_weaker c.write_whole.result (wrote_as _ _ _ _
    (whole_reply c.args.reply.now _ _ _ _ _ _ c.if-reply-eq204.false (c.as_bytes.ensures.value ∙ c.format.ensures.text) c.phrase.ensures
    (c.sent_type.ensures ∙ ap sent_type (c.as_bytes-2.ensures.value ∙ c.as_str.ensures.bytes))
    (c.as_bytes-3.ensures.value ∙ c.format-2.ensures.text ∙ ap (λ (l : List ℕ). decimal (length l)) c.as_slice-body.ensures)
    c.closing_line-closing.ensures c.as_slice-body.ensures)) c.write_whole.ensures.all

pub returns-clause-front : goal.returns-clause-front
returns-clause-front g c =
    on_err_weaker c.write_whole.result (front_as _ _ _ _
    (whole_reply c.args.reply.now _ _ _ _ _ _ c.if-reply-eq204.false (c.as_bytes.ensures.value ∙ c.format.ensures.text) c.phrase.ensures
    (c.sent_type.ensures ∙ ap sent_type (c.as_bytes-2.ensures.value ∙ c.as_str.ensures.bytes))
    (c.as_bytes-3.ensures.value ∙ c.format-2.ensures.text ∙ ap (λ (l : List ℕ). decimal (length l)) c.as_slice-body.ensures)
    c.closing_line-closing.ensures c.as_slice-body.ensures)) c.write_whole.ensures.front
