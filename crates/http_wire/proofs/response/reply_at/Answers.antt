use Rattle.std.proofs.Common.{◌∙◌}
use Rattle.http_wire.proofs.ParsingLemmas.{reply_made}
use Rattle.http_wire.proofs.response.reply_at.Goals as goal

pub returns : goal.returns
returns c h version status all =
    reply_made h c.args.fields.now c.args.found.version _ _ _ _ all version status (c.in_ok-text_of.ensures ∙ c.first_text.ensures.first)
    (c.of.ensures ∙ c.new.ensures.items) c.closes-close.ensures
