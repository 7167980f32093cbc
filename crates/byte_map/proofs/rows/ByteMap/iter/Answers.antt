use Rattle.byte_map.proofs.RowsLemmas.{all_seen}
use Rattle.byte_map.proofs.rows.ByteMap.iter.Goals as goal

pub returns-clause-rows : goal.returns-clause-rows
returns-clause-rows g c =
    rw (← c.self.view_is)
    (all_seen g.K.Ord.cmp g.K.ByteKey.bytes g.met.K.ByteKey.by_bytes c.self.inside.rows.entries _ c.iter.ensures.ordered c.iter.ensures.rest)
