use Rattle.byte_map.proofs.RowsLemmas.{above_seen}
use Rattle.byte_map.proofs.rows.ByteMap.above.Goals as goal

pub returns-clause-rows : goal.returns-clause-rows
returns-clause-rows g c =
    rw (← c.self.view_is) (above_seen g.K.Ord.cmp g.K.ByteKey.bytes g.met.K.ByteKey.by_bytes c.self.inside.rows.entries _ c.args.key.now c.range.ensures.ordered
    (c.range.ensures.between tt))
