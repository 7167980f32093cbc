use Rattle.std.proofs.Common.{◌≡◌, Some, length, refl, subst, sym, ap, ◌∙◌}
use Rattle.lake_values.specs.Entry.{EntryValue}
use Rattle.lake_values.specs.declared.entry.Change.TheVariants.{Put}
use Rattle.lake_model.specs.Uncommitted.{put_number}
use Rattle.lake_calls.specs.Calls.{LinkCall}
use Rattle.lake_calls.specs.CallRefusals.{names_in}
use Rattle.lake_calls.specs.Courses.{link_entry}
use Rattle.lake_calls.specs.declared.call.Call.TheVariants.{Objects}
use Rattle.lake_calls.specs.declared.objects.ObjectCall.TheVariants as object
use Rattle.lake_calls.specs.declared.reply.Done.TheVariants as done
use Rattle.read_flow.specs.FlowWords.{still}
use Rattle.read_flow.specs.ObjectReads.{counted_between}
use Rattle.call_readings.proofs.OutcomeLemmas.{names_of_name}
use Rattle.call_objects.specs.declared.writes.Stands.TheVariants.{Linked}
use Rattle.call_objects.specs.AnsweredCalls.{IsCallAnswered}
use Rattle.call_objects.proofs.ReadingLemmas.{of_reading}
use Rattle.call_objects.proofs.WriteLemmas.{link_stands, object_answered, still_counted}
use Rattle.call_objects.proofs.writes.link.Goals as goal

pub link_object-answer-requires-clause-outside : goal.link_object-answer-requires-clause-outside
link_object-answer-requires-clause-outside g c = ap (λ (e : EntryValue). put_number (Put e)) c.in-Ok.ensures.entry

pub returns-in-Err-clause-served : goal.returns-in-Err-clause-served
returns-in-Err-clause-served g c =
    let client = c.args.client.now in
    of_reading c.args.seat.now c.out_of_memory.new.seat client.call (Objects (object.Link c.args.call.now)) client.now (g.B.Blocks.faults client.blocks.now)
    (g.B.Blocks.misses client.blocks.now) (g.B.Blocks.missed client.blocks.now) (g.B.Blocks.held client.blocks.now) c.out_of_memory.result
    (c.out_of_memory.ensures.served (Objects (object.Link c.args.call.now))) (λ r is. absurd cc)

pub returns-clause-served : goal.returns-clause-served
returns-clause-served g c =
    let link : LinkCall = record {
      repo = c.call.inside.repo;
      branch = c.call.inside.branch;
      path = c.call.inside.path;
      address = c.call.inside.address;
      checksum = c.call.inside.checksum;
      size = c.call.inside.size;
      mtime = c.call.inside.mtime;
      content_type = c.call.inside.content_type;
      metadata = c.call.inside.metadata;
    } in
    let same : link ≡ c.args.call.now = c.call.view_is in
    let client = c.args.client.now in
    let old = client.blocks in
    let step = c.link_object-answer in
    let new = step.new.client.blocks in
    let entry = c.in-Ok.linked.1 in
    let counted = counted_between (g.B.Blocks.faults old.now) (g.B.Blocks.misses old.now) (g.B.Blocks.faults new.now) (g.B.Blocks.misses new.now)
    (g.B.Blocks.missed new.now) in
    let served = step.ensures.served link refl refl refl (ap (λ (l : LinkCall). link_entry l client.now) same ∙ sym c.in-Ok.ensures.entry) in
    subst (λ (l : LinkCall). IsCallAnswered c.args.seat.now step.new.seat client.call (Objects (object.Link l)) client.now counted
    (g.B.Blocks.held old.now) (g.B.Blocks.held new.now)
    (record { reply = c.object_reply.result; position = step.result.position; edge = step.result.edge })) same
    (object_answered c.args.seat.now step.new.seat client.call (Objects (object.Link link)) client.now
    (λ put told. (put ≡ Some entry) × (told ≡ done.Linked (record { path = link.path; entry = entry })))
    (still (g.B.Blocks.faults old.now) (g.B.Blocks.misses old.now) (g.B.Blocks.missed old.now))
    (length served.tried.versions) step.result served.answers counted
    (still_counted old new (λ b. g.B.Blocks.faults b.now) (λ b. g.B.Blocks.misses b.now) (λ b. g.B.Blocks.missed b.now) step.ensures.blocks)
    (g.B.Blocks.held old.now) (g.B.Blocks.held new.now) step.ensures.bodies step.ensures.turn (λ r is. absurd cc) c.object_reply.result c.in-Ok.linked.0 Linked
    (link_stands link.path c.in-Ok.linked.0 entry (c.in-Ok.ensures.path ∙ ap (λ (l : LinkCall). l.path) (sym same)))
    (c.object_reply.ensures (names_in link.repo link.branch)
    (names_of_name c.of_name-names.result link.repo c.as_str.result.now link.branch c.of_name-names.ensures c.as_str.ensures.bytes)))
