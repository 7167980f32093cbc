use Rattle.std.proofs.Common.{[], map}
use Rattle.setting_forms.proofs.TextLemmas.{no_floats}
use Rattle.api_replies.proofs.PageLemmas.{page_no_float}
use Rattle.api_replies.proofs.lists.list.Goals as goal

pub json_reply-requires : goal.json_reply-requires
json_reply-requires g c =
    rw (c.in_ok-value.ensures, c.in_ok-results.ensures)
    (page_no_float [] c.args.has_more (map g.T.ToJson.form c.args.items.now)
    (no_floats g.T.ToJson.form g.met.T.ToJson.no_float c.args.items.now))
