use Rattle.std.proofs.Common.{◌≡◌, ◌∙◌, [], Some, ap, sym}
use Rattle.httparse.specs.Grammar.{RequestHead}
use Rattle.http_wire.specs.declared.message.Request.{Request}
use Rattle.http_wire.specs.MessageFields.{body_length}
use Rattle.http_wire.specs.Messages.{IsRequestHeadOf, fields_of, request_of}
use Rattle.http_wire.proofs.ParsingLemmas.{parse_no_memory, parse_ok, parse_fault}
use Rattle.http_wire.proofs.request.request_parts.Goals as goal

pub returns-in-Err : goal.returns-in-Err
returns-in-Err c = parse_no_memory IsRequestHeadOf (λ (head : RequestHead). fields_of head.fields) request_of (Some 67108864) c.args.head.now

pub returns-in-Ok-body_length : goal.returns-in-Ok-body_length
returns-in-Ok-body_length c =
    let h : RequestHead = c.requires.0 in
    let found = c.requires.1 in
    let is : c.in-Ok.request ≡ request_of h [] = c.in-Ok.ensures h found in
    parse_ok IsRequestHeadOf (λ (head : RequestHead). fields_of head.fields) request_of
    (Some 67108864) c.args.head.now h c.in-Ok.request c.in-Ok-body_length.size
    found.whole is
    (sym c.in-Ok-body_length.is ∙ c.body_length.ensures ∙ ap (body_length (Some 67108864)) (c.as_slice.ensures ∙ ap (λ (r : Request). r.fields) is))

pub returns-in-Err-body_length : goal.returns-in-Err-body_length
returns-in-Err-body_length c =
    let h : RequestHead = c.requires.0 in
    let found = c.requires.1 in
    let is : c.in-Ok.request ≡ request_of h [] = c.in-Ok.ensures h found in
    parse_fault IsRequestHeadOf (λ (head : RequestHead). fields_of head.fields) request_of (Some 67108864) c.args.head.now h c.in-Err-body_length.fault
    found.whole
    (sym c.in-Err-body_length.is ∙ c.body_length.ensures ∙ ap (body_length (Some 67108864)) (c.as_slice.ensures ∙ ap (λ (r : Request). r.fields) is))
