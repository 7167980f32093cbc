use Rattle.std.proofs.Common.{ap, ◌∙◌, map, take_all, arith}
use Rattle.api_replies.proofs.forms.values.Goals as goal

pub returns : goal.returns
returns g c = c.loop-item.invariant ∙ ap (map g.T.ToJson.form) (take_all c.loop-item.item-index c.args.items.now (omega arith))
