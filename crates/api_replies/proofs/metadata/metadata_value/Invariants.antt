use Rattle.std.proofs.Common.{◌≡◌, map, take}
use Rattle.serde_json.specs.View.{members_view}
use Rattle.api_replies.specs.ReplyForms.{fields, pair_field}
use Rattle.api_replies.proofs.metadata.metadata_value.Given as goal

-- the fields so far are those of their pairs
abbrev pub invariant-loop-key : goal.invariant-loop-key
invariant-loop-key l = members_view l.object.entries ≡ fields (map pair_field (take l.key-index l.key-items))
