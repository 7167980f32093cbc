use Rattle.std.proofs.Common.{Ok, Err, Result, OnErr, ap, sym, ◌∙◌}
use Rattle.std.specs.FinMap as map
use Rattle.byte_map.proofs.RowsLemmas.{found_seen, seen_insert}
use Rattle.byte_map.proofs.rows.ByteMap.insert.Goals as goal

pub returns-clause-inserted : goal.returns-clause-inserted
returns-clause-inserted g c =
    let bytes = g.K.ByteKey.bytes in
    seen_insert g.K.Ord.cmp bytes g.met.K.ByteKey.by_bytes c.self.inside.rows c.insert.new.self c.args.key c.args.value c.in_ok-insert.ensures.updates
    ∙ ap (λ m. map.insert m (bytes c.args.key) c.args.value) c.self.view_is

always : {T E P : Type 0} (r : Result T E) → P → OnErr r P
always (Ok x) p = tt
always (Err e) p = p

pub returns-in_err-insert-clause-absent : goal.returns-in_err-insert-clause-absent
returns-in_err-insert-clause-absent g c =
    rw (← c.self.view_is) (always _
    (sym (found_seen g.K.Ord.cmp g.K.ByteKey.bytes g.met.K.ByteKey.by_bytes c.self.inside.rows.entries c.args.key _ (sym c.in_err-insert.ensures.absent))))
