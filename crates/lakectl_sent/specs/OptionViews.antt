-- Objects of JSON as contracts see them.
use Rattle.std.specs.Prelude.{String}
use Rattle.std.specs.Global.{Global}
use Rattle.std.specs.BTreeMap.{BTreeMap}
use Rattle.serde_json.specs.Data.{Members}
use Rattle.serde_json.specs.View.{members_view}
use Rattle.serde_json.specs.declared.value.Value.{Value}

abbrev pub map_seen : BTreeMap (String Global) Value → Members
map_seen object = members_view object.entries
