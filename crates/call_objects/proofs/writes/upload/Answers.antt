use Rattle.std.proofs.Common.{ℕ, List, length, refl, subst, ap, ◌∙◌}
use Rattle.lake_calls.specs.Calls.{UploadCall}
use Rattle.lake_calls.specs.CallRefusals.{names_in}
use Rattle.lake_calls.specs.declared.call.Call.TheVariants.{Objects}
use Rattle.lake_calls.specs.declared.objects.ObjectCall.TheVariants as object
use Rattle.read_flow.specs.ObjectReads.{counted_between}
use Rattle.read_flow.specs.WrittenWords.{IsUploadTold}
use Rattle.call_readings.proofs.OutcomeLemmas.{names_of_name}
use Rattle.call_objects.specs.declared.writes.Stands.TheVariants.{Uploaded}
use Rattle.call_objects.specs.AnsweredCalls.{IsCallAnswered}
use Rattle.call_objects.proofs.ReadingLemmas.{of_reading}
use Rattle.call_objects.proofs.WriteLemmas.{object_answered, upload_stands}
use Rattle.call_objects.proofs.writes.upload.Goals as goal

pub put_object-answer-requires-clause-short_type : goal.put_object-answer-requires-clause-short_type
put_object-answer-requires-clause-short_type g c = c.call.invariant.short_type

pub returns-in-Err-clause-served : goal.returns-in-Err-clause-served
returns-in-Err-clause-served g c =
    let client = c.args.client.now in
    of_reading c.args.seat.now c.out_of_memory.new.seat client.call (Objects (object.Upload c.args.call.now)) client.now (g.B.Blocks.faults client.blocks.now)
    (g.B.Blocks.misses client.blocks.now) (g.B.Blocks.missed client.blocks.now) (g.B.Blocks.held client.blocks.now) c.out_of_memory.result
    (c.out_of_memory.ensures.served (Objects (object.Upload c.args.call.now))) (λ r is. absurd cc)

pub returns-clause-served : goal.returns-clause-served
returns-clause-served g c =
    let of_body : List ℕ → UploadCall = λ body. record {
      repo = c.call.inside.repo;
      branch = c.call.inside.branch;
      path = c.call.inside.path;
      content_type = c.call.inside.content_type;
      body = body;
    } in
    let u = of_body c.as_slice.result.now in
    let client = c.args.client.now in
    let old = client.blocks in
    let step = c.put_object-answer in
    let new = step.new.client.blocks in
    let counted = counted_between (g.B.Blocks.faults old.now) (g.B.Blocks.misses old.now) (g.B.Blocks.faults new.now) (g.B.Blocks.misses new.now)
    (g.B.Blocks.missed new.now) in
    subst (λ (v : UploadCall). IsCallAnswered c.args.seat.now step.new.seat client.call (Objects (object.Upload v)) client.now counted
    (g.B.Blocks.held old.now) (g.B.Blocks.held new.now)
    (record { reply = c.object_reply.result; position = step.result.position; edge = step.result.edge })) (ap of_body c.as_slice.ensures ∙ c.call.view_is)
    (object_answered c.args.seat.now step.new.seat client.call (Objects (object.Upload u)) client.now (IsUploadTold u client.now) counted
    (length step.ensures.served.versions) step.result step.ensures.served.answers counted refl (g.B.Blocks.held old.now) (g.B.Blocks.held new.now)
    step.ensures.bodies step.ensures.turn (λ r is. absurd cc) c.object_reply.result c.in-Ok.path Uploaded
    (upload_stands u client.now c.in-Ok.path c.in-Ok.ensures.equal)
    (c.object_reply.ensures (names_in u.repo u.branch)
    (names_of_name c.of_name-names.result u.repo c.as_str.result.now u.branch c.of_name-names.ensures c.as_str.ensures.bytes)))
