use Rattle.std.proofs.Common.{◌∙◌, take, ap, arith}
use Rattle.std.proofs.lemmas.List.{with_items_is}
use Rattle.http_wire.proofs.ReadingLemmas.{told}
use Rattle.http_wire.proofs.BodyLemmas.{came_start, came_fault, came_more, came_end, came_no_memory}
use Rattle.http_wire.proofs.body.read_rest.Goals as goal

pub reading-init : goal.reading-init
reading-init g c = record {
  told = came_start c.args.body.now.items c.len-came.result _ (omega (arith, c.args.body.now.ok, c.len-came.ensures));
  within = omega (arith, c.len-came.ensures);
  room = c.requires.part;
  later = omega arith;
}

pub returns-in-Err-clause-read : goal.returns-in-Err-clause-read
returns-in-Err-clause-read g c =
    told _ _ _ (λ left was. came_no_memory c.args.body.now.items left c.reading.body.items c.reading.came _ was c.args.head c.args.size
    c.make_room.new.body.items)
    c.reading.invariant.told

pub returns-in-Ok-eq0-clause-read : goal.returns-in-Ok-eq0-clause-read
returns-in-Ok-eq0-clause-read g c =
    told _ _ _ (λ left was. came_end c.args.body.now.items left c.reading.body.items c.reading.came _ was c.deref_mut.result.now
    (ap (take c.reading.came) c.deref_mut.ensures.value ∙ c.make_room.ensures.kept)
    (omega (arith, c.deref_mut.ensures.len, c.in-Ok.ensures.room)) c.read_behind.new.room c.read_behind.new.room _ c.in-Ok-eq0.field-0
    c.in-Ok-eq0.ensures.reads c.args.head c.args.size c.read_behind.new.room
    c.reading-test.true (omega (arith, c.deref_mut.ensures.len, c.in-Ok.ensures.room)) c.in-Ok-eq0.field-0-test) c.reading.invariant.told

pub reading-preserved : goal.reading-preserved
reading-preserved g c = record {
  told = told _ _ _ (λ left was. came_more c.args.body.now.items left c.reading.body.items c.reading.came _ was
      c.deref_mut.result.now
      (ap (take c.reading.came) c.deref_mut.ensures.value ∙ c.make_room.ensures.kept)
      (omega (arith, c.deref_mut.ensures.len, c.in-Ok.ensures.room)) c.read_behind.new.room _ _ c.in-Ok-read_behind.count c.in-Ok-read_behind.ensures.reads
      c.in-Ok-read_behind.ensures.front
      (with_items_is c.make_room.new.body c.read_behind.new.room (c.read_behind.auto.room ∙ c.deref_mut.ensures.len))) c.reading.invariant.told;
  within = omega (arith, c.in-Ok-read_behind.ensures.within, c.deref_mut.ensures.len);
  room = c.in-Ok.ensures.room.1;
  later = omega (arith, c.reading.invariant.later, c.read_behind.ensures.cause.later);
}

pub returns-in-Err-read_behind-clause-read : goal.returns-in-Err-read_behind-clause-read
returns-in-Err-read_behind-clause-read g c =
    told _ _ _ (λ left was. came_fault c.args.body.now.items left c.reading.body.items c.reading.came _ was c.deref_mut.result.now
    (ap (take c.reading.came) c.deref_mut.ensures.value ∙ c.make_room.ensures.kept)
    (omega (arith, c.deref_mut.ensures.len, c.in-Ok.ensures.room)) c.args.head c.args.size (g.S.Source.left c.read_behind.new.source)
    c.reading-test.true c.in-Err-read_behind.ensures.failed) c.reading.invariant.told
