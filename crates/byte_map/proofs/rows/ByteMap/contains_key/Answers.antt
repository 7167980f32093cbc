use Rattle.std.proofs.Common.{ap, is_some, refl, ◌∙◌}
use Rattle.byte_map.proofs.RowsLemmas.{found_seen}
use Rattle.byte_map.proofs.rows.ByteMap.contains_key.Goals as goal

pub returns : goal.returns
returns g c =
    rw (← c.self.view_is)
    (c.contains_key.ensures ∙ ap is_some (found_seen g.K.Ord.cmp g.K.ByteKey.bytes g.met.K.ByteKey.by_bytes c.self.inside.rows.entries c.args.key.now _ refl))
