use Rattle.lake_base.proofs.MapsLemmas.{map_none}
use Rattle.lake_values.proofs.key_map.KeyMap.new.Goals as goal

pub returns : goal.returns
returns c = rw c.new.ensures.items map_none
