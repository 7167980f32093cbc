use Rattle.std.proofs.Common.{◌≡◌, ◌∙◌, List, None, ap, sym, subst}
use Rattle.httparse.specs.declared.spans.HeaderSpan.{HeaderSpan}
use Rattle.httparse.specs.Grammar.{ResponseHead}
use Rattle.http_wire.specs.declared.message.Field.{Field}
use Rattle.http_wire.specs.MessageFields.{body_length}
use Rattle.http_wire.specs.Messages.{IsReplyHeadOf, fields_of, reply_of}
use Rattle.http_wire.specs.Parsing.{IsFoundReply}
use Rattle.http_wire.proofs.ParsingLemmas.{fields_found, parse_bad, parse_no_memory, parse_ok, parse_fault}
use Rattle.http_wire.proofs.response.reply_head.Goals as goal

abbrev fields : ResponseHead → List Field
fields head = fields_of head.fields

pub returns-in-None : goal.returns-in-None
returns-in-None c = parse_bad IsReplyHeadOf fields reply_of None c.args.head.now c.in-None.ensures

pub returns-in-Err : goal.returns-in-Err
returns-in-Err c = parse_no_memory IsReplyHeadOf fields reply_of None c.args.head.now

pub returns : goal.returns
returns c = parse_no_memory IsReplyHeadOf fields reply_of None c.args.head.now

pub returns-in-Ok-body_length : goal.returns-in-Ok-body_length
returns-in-Ok-body_length c =
    let h : ResponseHead = c.in-Some.ensures.1.0 in
    let found = subst (λ (l : List HeaderSpan). IsFoundReply c.args.head.now l c.in-Some.found h) (sym c.split_at.ensures.front) c.in-Some.ensures.1.1 in
    let all : c.in-Ok.fields.items ≡ fields h = c.in-Ok.ensures ∙ fields_found c.args.head.now c.split_at.result.0.now h.fields found.fields in
    parse_ok IsReplyHeadOf fields reply_of None c.args.head.now h c.in-Ok-reply_at.reply c.in-Ok-body_length.size found.whole
    (c.in-Ok-reply_at.ensures h found.version found.code (c.deref.ensures.value ∙ all))
    (sym c.in-Ok-body_length.is ∙ c.body_length.ensures ∙ ap (body_length None) (c.deref-in-Ok-reply_at.ensures.value ∙ all))

pub returns-in-Ok-reply_at : goal.returns-in-Ok-reply_at
returns-in-Ok-reply_at c =
    let h : ResponseHead = c.in-Some.ensures.1.0 in
    let found = subst (λ (l : List HeaderSpan). IsFoundReply c.args.head.now l c.in-Some.found h) (sym c.split_at.ensures.front) c.in-Some.ensures.1.1 in
    let all : c.in-Ok.fields.items ≡ fields h = c.in-Ok.ensures ∙ fields_found c.args.head.now c.split_at.result.0.now h.fields found.fields in
    parse_fault IsReplyHeadOf fields reply_of None c.args.head.now h c.in-Err-body_length.fault found.whole
    (sym c.in-Err-body_length.is ∙ c.body_length.ensures ∙ ap (body_length None) (c.deref-in-Ok-reply_at.ensures.value ∙ all))
