use Rattle.std.proofs.Common.{◌≡◌, ◌∙◌, ℕ, List, [], None, Ok, Err, ap, subst, take}
use Rattle.httparse.specs.Grammar.{ResponseHead}
use Rattle.http_wire.specs.declared.message.Field.{Field}
use Rattle.http_wire.specs.declared.message.Reply.{Reply}
use Rattle.http_wire.specs.Messages.{IsReplyHeadOf, fields_of, reply_of}
use Rattle.http_wire.specs.Parsing.{IsReplyParse}
use Rattle.http_wire.proofs.ReadingLemmas.{told}
use Rattle.http_wire.proofs.AnswerLemmas.{head_fault, parse_fault_answer, body_answer, body_fault_answer, parse_cause}
use Rattle.http_wire.proofs.response.read_reply.Goals as goal

abbrev fields : ResponseHead → List Field
fields head = fields_of head.fields

-- a whole head's reply with its body
with_body : (parsed : Reply) (h : ResponseHead) (held body : List ℕ) → held ≡ body → parsed ≡ reply_of h []
    → record { status = parsed.status; content_type = parsed.content_type; body = held; close = parsed.close } ≡ reply_of h body
with_body parsed h held body same is =
    ap (λ (r : Reply). put r held) is ∙ ap (λ (b : List ℕ). reply_of h b) same
  where
    put : Reply → List ℕ → Reply
    put r b = record { status = r.status; content_type = r.content_type; body = b; close = r.close }

pub returns-in-Err-clause-read : goal.returns-in-Err-clause-read
returns-in-Err-clause-read g c =
    told _ _ _ (λ left answer. head_fault IsReplyHeadOf fields reply_of None c.args.buffer.now left c.read_head.new.buffer c.read_head.new.buffer
    (g.S.Source.left c.read_head.new.source) c.in-Err.fault answer) c.in-Err.ensures.read

pub returns-in-Err-reply_head-clause-read : goal.returns-in-Err-reply_head-clause-read
returns-in-Err-reply_head-clause-read g c =
    told _ _ _ (λ left answer. parse_fault_answer IsReplyHeadOf fields reply_of None c.read_head.new.buffer c.in-Ok.head c.args.buffer.now left
    (g.S.Source.left c.read_head.new.source) answer c.read_head.new.buffer c.in-Err-reply_head.fault
    (subst (λ (l : List ℕ). IsReplyParse l (Err c.in-Err-reply_head.fault))
    (c.split_at.ensures.front ∙ ap (take c.in-Ok.head) c.held.ensures.same) c.in-Err-reply_head.ensures)) c.in-Ok.ensures.read

pub returns-in-Err-reply_head-clause-cause : goal.returns-in-Err-reply_head-clause-cause
returns-in-Err-reply_head-clause-cause g c =
    parse_cause IsReplyHeadOf fields reply_of None c.split_at.result.0.now _ _ c.in-Ok.ensures.cause.later c.in-Err-reply_head.fault
    c.in-Err-reply_head.ensures

pub returns-in-Ok-read_body-clause-read : goal.returns-in-Ok-read_body-clause-read
returns-in-Ok-read_body-clause-read g c =
    told _ _ _ (λ left answer. body_answer IsReplyHeadOf fields reply_of None c.read_head.new.buffer c.in-Ok.head c.args.buffer.now left
    (g.S.Source.left c.read_head.new.source) answer c.in-Ok-reply_head.parsed.0 c.in-Ok-reply_head.parsed.1
    (subst (λ (l : List ℕ). IsReplyParse l (Ok c.in-Ok-reply_head.parsed))
    (c.split_at.ensures.front ∙ ap (take c.in-Ok.head) c.held.ensures.same) c.in-Ok-reply_head.ensures)
    c.skip.new.self c.read_body.new.buffer c.skip.ensures (g.S.Source.left c.read_body.new.source) c.in-Ok-read_body.body _ c.in-Ok-read_body.ensures.read
    (λ h is. with_body c.in-Ok-reply_head.parsed.0 h c.of.result c.in-Ok-read_body.body.items c.of.ensures is)) c.in-Ok.ensures.read

pub returns-in-Err-read_body-clause-read : goal.returns-in-Err-read_body-clause-read
returns-in-Err-read_body-clause-read g c =
    told _ _ _ (λ left answer. body_fault_answer IsReplyHeadOf fields reply_of None c.read_head.new.buffer c.in-Ok.head c.args.buffer.now left
    (g.S.Source.left c.read_head.new.source) answer c.in-Ok-reply_head.parsed.0 c.in-Ok-reply_head.parsed.1
    (subst (λ (l : List ℕ). IsReplyParse l (Ok c.in-Ok-reply_head.parsed))
    (c.split_at.ensures.front ∙ ap (take c.in-Ok.head) c.held.ensures.same) c.in-Ok-reply_head.ensures)
    c.skip.new.self c.read_body.new.buffer c.skip.ensures (g.S.Source.left c.read_body.new.source) c.in-Err-read_body.fault
    c.in-Err-read_body.ensures.read) c.in-Ok.ensures.read
