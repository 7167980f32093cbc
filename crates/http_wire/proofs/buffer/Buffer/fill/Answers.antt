use Rattle.std.proofs.Common.{◌+◌, ◌∙◌, ℕ, List, ap, arith}
use Rattle.std.specs.Prelude.{slice_range}
use Rattle.std.proofs.lemmas.List.{with_items_is}
use Rattle.http_wire.proofs.ReadingLemmas.{told, filled_from, grown_from}
use Rattle.http_wire.proofs.buffer.Buffer.fill.Goals as goal

pub returns-in-Ok-clause-reads : goal.returns-in-Ok-clause-reads
returns-in-Ok-clause-reads g c =
    told _ _ _ (λ left reads. filled_from c.args.self.now c.deref_mut.result.now c.read_behind.new.room c.in_ok-self-inside.field-0-0
    c.in_ok-self-inside.field-0-1 c.in-Ok.count c.in_ok-self-inside.ensures.room.0
    (omega (arith, c.in_ok-self-inside.ensures.room, c.deref_mut.ensures.len))
    (c.read_behind.auto.room) c.in-Ok.ensures.within
    (ap (λ (l : List ℕ). slice_range l c.in_ok-self-inside.field-0-0 c.in_ok-self-inside.field-0-1) c.deref_mut.ensures.value
    ∙ c.in_ok-self-inside.ensures.same ∙ c.self.view_is) c.in-Ok.ensures.front _
    (ap (λ (l : List ℕ). slice_range l c.in_ok-self-inside.field-0-0 (c.in_ok-self-inside.field-0-1 + c.in-Ok.count))
    (with_items_is c.make_room.new.room c.read_behind.new.room (c.read_behind.auto.room ∙ c.deref_mut.ensures.len))) left _ reads) c.in-Ok.ensures.reads

pub returns-in-Ok-clause-grown : goal.returns-in-Ok-clause-grown
returns-in-Ok-clause-grown g c =
    grown_from c.args.self.now c.deref_mut.result.now c.read_behind.new.room c.in_ok-self-inside.field-0-0
    c.in_ok-self-inside.field-0-1 c.in-Ok.count c.in_ok-self-inside.ensures.room.0
    (omega (arith, c.in_ok-self-inside.ensures.room, c.deref_mut.ensures.len))
    (c.read_behind.auto.room) c.in-Ok.ensures.within
    (ap (λ (l : List ℕ). slice_range l c.in_ok-self-inside.field-0-0 c.in_ok-self-inside.field-0-1) c.deref_mut.ensures.value
    ∙ c.in_ok-self-inside.ensures.same ∙ c.self.view_is) c.in-Ok.ensures.front _
    (ap (λ (l : List ℕ). slice_range l c.in_ok-self-inside.field-0-0 (c.in_ok-self-inside.field-0-1 + c.in-Ok.count))
    (with_items_is c.make_room.new.room c.read_behind.new.room (c.read_behind.auto.room ∙ c.deref_mut.ensures.len)))
