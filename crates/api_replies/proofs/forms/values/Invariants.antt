use Rattle.std.proofs.Common.{◌≡◌, map, take}
use Rattle.serde_json.specs.View.{view}
use Rattle.api_replies.proofs.forms.values.Given as goal

-- the values so far are those of their items
abbrev pub invariant-loop-item : goal.invariant-loop-item
invariant-loop-item g l = map view l.list.items ≡ map g.T.ToJson.form (take l.item-index l.items)
