use Rattle.std.proofs.Common.{sym, subst}
use Rattle.std.specs.FinMap.{entries_sorted}
use Rattle.lake_base.specs.Maps.{HasAscendingKeys}
use Rattle.lake_values.proofs.key_map.KeyMap.cursor.Goals as goal

pub new-requires : goal.new-requires
new-requires c = subst HasAscendingKeys (sym c.as_slice.ensures.entries) (entries_sorted c.args.self.now)
