use Rattle.byte_map.proofs.RowsLemmas.{found_seen}
use Rattle.byte_map.proofs.rows.ByteMap.get.Goals as goal

pub returns : goal.returns
returns g c =
    rw (← c.self.view_is) (found_seen g.K.Ord.cmp g.K.ByteKey.bytes g.met.K.ByteKey.by_bytes c.self.inside.rows.entries c.args.key.now _ c.get.ensures.value)
