use Rattle.byte_map.proofs.RowsLemmas.{len_seen}
use Rattle.byte_map.proofs.rows.ByteMap.len.Goals as goal

pub returns : goal.returns
returns g c =
    rw (← c.self.view_is) (len_seen g.K.Ord.cmp g.K.ByteKey.bytes g.met.K.ByteKey.by_bytes c.self.inside.rows.entries c.len.ensures.ordered _ c.len.ensures.len)
