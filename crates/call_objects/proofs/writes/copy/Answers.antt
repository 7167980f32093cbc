use Rattle.std.proofs.Common.{length, refl, sym}
use Rattle.lake_calls.specs.CallRefusals.{names_of}
use Rattle.lake_calls.specs.declared.call.Call.TheVariants.{Objects}
use Rattle.lake_calls.specs.declared.objects.CopyCall.{CopyCall}
use Rattle.lake_calls.specs.declared.objects.ObjectCall.TheVariants as object
use Rattle.read_flow.specs.FlowWords.{still}
use Rattle.read_flow.specs.ObjectReads.{counted_between}
use Rattle.read_flow.specs.WrittenWords.{IsCopyTold}
use Rattle.call_objects.specs.declared.writes.Stands.TheVariants.{Copied}
use Rattle.call_objects.proofs.ReadingLemmas.{of_reading}
use Rattle.call_objects.proofs.WriteLemmas.{copy_stands, object_answered, still_counted}
use Rattle.call_objects.proofs.writes.copy.Goals as goal

pub returns-in-Err-clause-served : goal.returns-in-Err-clause-served
returns-in-Err-clause-served g c =
    let client = c.args.client.now in
    of_reading c.args.seat.now c.out_of_memory.new.seat client.call (Objects (object.Copy c.args.call.now)) client.now (g.B.Blocks.faults client.blocks.now)
    (g.B.Blocks.misses client.blocks.now) (g.B.Blocks.missed client.blocks.now) (g.B.Blocks.held client.blocks.now) c.out_of_memory.result
    (c.out_of_memory.ensures.served (Objects (object.Copy c.args.call.now))) (λ r is. absurd cc)

pub returns-clause-served : goal.returns-clause-served
returns-clause-served g c =
    let call : CopyCall = c.args.call.now in
    let client = c.args.client.now in
    let old = client.blocks in
    let step = c.copy_object-answer in
    let new = step.new.client.blocks in
    let served = step.ensures.served call refl refl refl (sym c.source_of.ensures.e) refl in
    object_answered c.args.seat.now step.new.seat client.call (Objects (object.Copy call)) client.now (IsCopyTold call.path)
    (still (g.B.Blocks.faults old.now) (g.B.Blocks.misses old.now) (g.B.Blocks.missed old.now)) (length served.tried.versions) step.result
    served.answers
    (counted_between (g.B.Blocks.faults old.now) (g.B.Blocks.misses old.now) (g.B.Blocks.faults new.now) (g.B.Blocks.misses new.now)
    (g.B.Blocks.missed new.now))
    (still_counted old new (λ b. g.B.Blocks.faults b.now) (λ b. g.B.Blocks.misses b.now) (λ b. g.B.Blocks.missed b.now) step.ensures.blocks)
    (g.B.Blocks.held old.now) (g.B.Blocks.held new.now) step.ensures.bodies step.ensures.turn (λ r is. absurd cc) c.object_reply.result c.in-Ok.copied.0 Copied
    (copy_stands call.path c.in-Ok.copied.0 c.in-Ok.ensures.path)
    (c.object_reply.ensures (names_of (Objects (object.Copy call)))
    (record { repo = refl; named = c.as_str.ensures.bytes; expression = c.source_of.ensures.text; path = refl; after = refl }))
