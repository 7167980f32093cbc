use Rattle.std.proofs.Common.{ap, ◌∙◌}
use Rattle.std.specs.FinMap as map
use Rattle.byte_map.proofs.RowsLemmas.{found_seen, seen_remove}
use Rattle.byte_map.proofs.rows.ByteMap.remove.Goals as goal

pub returns-clause-removed : goal.returns-clause-removed
returns-clause-removed g c =
    let bytes = g.K.ByteKey.bytes in
    seen_remove g.K.Ord.cmp bytes g.met.K.ByteKey.by_bytes c.self.inside.rows c.remove.new.self c.args.key.now c.remove.ensures.updates
    ∙ ap (λ m. map.remove m (bytes c.args.key.now)) c.self.view_is

pub returns-clause-value : goal.returns-clause-value
returns-clause-value g c =
    rw (← c.self.view_is) (found_seen g.K.Ord.cmp g.K.ByteKey.bytes g.met.K.ByteKey.by_bytes c.self.inside.rows.entries c.args.key.now _ c.remove.ensures.value)
