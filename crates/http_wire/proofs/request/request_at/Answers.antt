use Rattle.std.proofs.Common.{◌∙◌, ap, sym}
use Rattle.http_wire.specs.MessageFields.{closes}
use Rattle.http_wire.proofs.ParsingLemmas.{request_made}
use Rattle.http_wire.proofs.request.request_at.Goals as goal

pub returns : goal.returns
returns c h is =
    request_made c.args.head.now c.args.headers.now c.args.found h _ _ _ _ _ is (c.of-4.ensures ∙ c.in_ok-fields.ensures)
    (c.in_ok-text_of.ensures ∙ c.of.ensures) (c.of-3.ensures ∙ c.in_ok-from_slice.ensures.items ∙ c.of-2.ensures) (c.of-5.ensures ∙ c.new.ensures.items)
    (c.closes-close.ensures ∙ ap (closes c.args.found.version) (c.deref.ensures.value ∙ sym c.of-4.ensures))
