use Rattle.std.proofs.Common.{◌≡◌, ◌∙◌, ℕ, List, [], Some, Ok, Err, ap, subst, take}
use Rattle.httparse.specs.Grammar.{RequestHead}
use Rattle.http_wire.specs.declared.message.Field.{Field}
use Rattle.http_wire.specs.declared.message.Request.{Request}
use Rattle.http_wire.specs.Messages.{IsRequestHeadOf, fields_of, request_of}
use Rattle.http_wire.specs.Parsing.{IsRequestParse}
use Rattle.http_wire.proofs.ReadingLemmas.{told}
use Rattle.http_wire.proofs.AnswerLemmas.{head_fault, parse_fault_answer, body_answer, body_fault_answer, parse_cause}
use Rattle.http_wire.proofs.request.read_request.Goals as goal

abbrev fields : RequestHead → List Field
fields head = fields_of head.fields

-- a whole head's request with its body
with_body : (parsed : Request) (h : RequestHead) (held body : List ℕ) → held ≡ body → parsed ≡ request_of h []
    → record { method = parsed.method; target = parsed.target; fields = parsed.fields; body = held; close = parsed.close } ≡ request_of h body
with_body parsed h held body same is =
    ap (λ (r : Request). put r held) is ∙ ap (λ (b : List ℕ). request_of h b) same
  where
    put : Request → List ℕ → Request
    put r b = record { method = r.method; target = r.target; fields = r.fields; body = b; close = r.close }

pub returns-in-Err-clause-read : goal.returns-in-Err-clause-read
returns-in-Err-clause-read g c =
    told _ _ _ (λ left answer. head_fault IsRequestHeadOf fields request_of (Some 67108864) c.args.buffer.now left c.read_front.new.buffer
    c.read_front.new.buffer (g.S.Source.left c.read_front.new.source) c.in-Err.fault answer) c.in-Err.ensures.read

pub returns-in-Err-request_head-clause-read : goal.returns-in-Err-request_head-clause-read
returns-in-Err-request_head-clause-read g c =
    told _ _ _ (λ left answer. parse_fault_answer IsRequestHeadOf fields request_of (Some 67108864) c.read_front.new.buffer c.in-Ok.read.0
    c.args.buffer.now left (g.S.Source.left c.read_front.new.source) answer c.read_front.new.buffer c.in-Err-request_head.fault
    (subst (λ (l : List ℕ). IsRequestParse l (Err c.in-Err-request_head.fault))
    (c.split_at.ensures.front ∙ ap (take c.in-Ok.read.0) c.held.ensures.same) c.in-Err-request_head.ensures)) c.in-Ok.ensures.read

pub returns-in-Err-request_head-clause-cause : goal.returns-in-Err-request_head-clause-cause
returns-in-Err-request_head-clause-cause g c =
    parse_cause IsRequestHeadOf fields request_of (Some 67108864) c.split_at.result.0.now _ _ c.in-Ok.ensures.cause.later c.in-Err-request_head.fault
    c.in-Err-request_head.ensures

pub returns-in-Ok-read_body-clause-read : goal.returns-in-Ok-read_body-clause-read
returns-in-Ok-read_body-clause-read g c =
    told _ _ _ (λ left answer. body_answer IsRequestHeadOf fields request_of (Some 67108864) c.read_front.new.buffer c.in-Ok.read.0 c.args.buffer.now left
    (g.S.Source.left c.read_front.new.source) answer c.in-Ok-request_head.parsed.0 c.in-Ok-request_head.parsed.1
    (subst (λ (l : List ℕ). IsRequestParse l (Ok c.in-Ok-request_head.parsed))
    (c.split_at.ensures.front ∙ ap (take c.in-Ok.read.0) c.held.ensures.same) c.in-Ok-request_head.ensures)
    c.skip.new.self c.read_body.new.buffer c.skip.ensures (g.S.Source.left c.read_body.new.source) c.in-Ok-read_body.body _ c.in-Ok-read_body.ensures.read
    (λ h is. with_body c.in-Ok-request_head.parsed.0 h c.of.result c.in-Ok-read_body.body.items c.of.ensures is)) c.in-Ok.ensures.read

pub returns-in-Err-read_body-clause-read : goal.returns-in-Err-read_body-clause-read
returns-in-Err-read_body-clause-read g c =
    told _ _ _ (λ left answer. body_fault_answer IsRequestHeadOf fields request_of (Some 67108864) c.read_front.new.buffer c.in-Ok.read.0 c.args.buffer.now left
    (g.S.Source.left c.read_front.new.source) answer c.in-Ok-request_head.parsed.0 c.in-Ok-request_head.parsed.1
    (subst (λ (l : List ℕ). IsRequestParse l (Ok c.in-Ok-request_head.parsed))
    (c.split_at.ensures.front ∙ ap (take c.in-Ok.read.0) c.held.ensures.same) c.in-Ok-request_head.ensures)
    c.skip.new.self c.read_body.new.buffer c.skip.ensures (g.S.Source.left c.read_body.new.source) c.in-Err-read_body.fault
    c.in-Err-read_body.ensures.read) c.in-Ok.ensures.read
