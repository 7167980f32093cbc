use Rattle.byte_map.proofs.RowsLemmas.{found_seen}
use Rattle.byte_map.proofs.LendsLemmas.{lent}
use Rattle.byte_map.proofs.rows.ByteMap.get_mut.Goals as goal

pub returns : goal.returns
returns g c =
    let cmp = g.K.Ord.cmp in
    let bytes = g.K.ByteKey.bytes in
    let law = g.met.K.ByteKey.by_bytes in
    let rows = c.self.inside.rows in
    rw (← c.self.view_is) (
      lent cmp bytes law c.get_mut.result rows c.get_mut.follows.lender-at-none c.args.key.now c.get_mut.follows.lender c.get_mut.ensures.value
          c.get_mut.follows.holds c.get_mut.follows.holds-at-none,
      record { writes_back = tt; value = found_seen cmp bytes law rows.entries c.args.key.now _ c.get_mut.ensures.value },
    )
