use Rattle.std.proofs.Common.{length}
use Rattle.lake_calls.specs.CallRefusals.{names_in}
use Rattle.lake_calls.specs.declared.call.Call.TheVariants.{Objects}
use Rattle.lake_calls.specs.declared.objects.DeleteCall.{DeleteCall}
use Rattle.lake_calls.specs.declared.objects.ObjectCall.TheVariants as object
use Rattle.lake_calls.specs.declared.reply.Done.TheVariants as done
use Rattle.read_flow.specs.FlowWords.{still}
use Rattle.read_flow.specs.ObjectReads.{counted_between}
use Rattle.call_readings.proofs.OutcomeLemmas.{names_of_name}
use Rattle.call_objects.proofs.WriteLemmas.{IsWithoutEntry, change_answered, still_counted}
use Rattle.call_objects.proofs.writes.delete.Goals as goal

pub returns-clause-served : goal.returns-clause-served
returns-clause-served g c =
    let call : DeleteCall = c.args.call.now in
    let client = c.args.client.now in
    let old = client.blocks in
    let step = c.delete_object-answer in
    let new = step.new.client.blocks in
    change_answered c.args.seat.now step.new.seat client.call (Objects (object.Delete call)) client.now (IsWithoutEntry done.ObjectDeleted)
    (still (g.B.Blocks.faults old.now) (g.B.Blocks.misses old.now) (g.B.Blocks.missed old.now)) (length step.ensures.served.tried.versions) step.result
    step.ensures.served.answers
    (counted_between (g.B.Blocks.faults old.now) (g.B.Blocks.misses old.now) (g.B.Blocks.faults new.now) (g.B.Blocks.misses new.now)
    (g.B.Blocks.missed new.now))
    (still_counted old new (λ b. g.B.Blocks.faults b.now) (λ b. g.B.Blocks.misses b.now) (λ b. g.B.Blocks.missed b.now) step.ensures.blocks)
    (g.B.Blocks.held old.now) (g.B.Blocks.held new.now) step.ensures.bodies step.ensures.turn (λ r is. absurd cc) c.change_reply.result done.ObjectDeleted
    (λ entry told tells. tells.1)
    (c.change_reply.ensures (names_in call.repo call.branch)
    (names_of_name c.of_name-names.result call.repo c.as_str.result.now call.branch c.of_name-names.ensures c.as_str.ensures.bytes))
