use Rattle.std.proofs.Common.{subst}
use Rattle.lake_values.specs.declared.commit.ResetWhat.{ResetWhat}
use Rattle.lake_calls.specs.CallRefusals.{names_in}
use Rattle.lake_calls.specs.declared.call.Call.{Call}
use Rattle.lake_calls.specs.declared.call.Call.TheVariants.{Names}
use Rattle.lake_calls.specs.declared.names.NamingCall.TheVariants as naming
use Rattle.lake_calls.specs.declared.names.ResetCall.{ResetCall}
use Rattle.lake_calls.specs.declared.reply.Done.TheVariants as done
use Rattle.read_flow.specs.FlowWords.{still}
use Rattle.read_flow.specs.ObjectReads.{counted_between}
use Rattle.call_readings.proofs.OutcomeLemmas.{names_of_name}
use Rattle.call_objects.specs.AnsweredCalls.{IsCallAnswered}
use Rattle.call_objects.proofs.ReadingLemmas.{of_reading}
use Rattle.call_objects.proofs.WriteLemmas.{IsWithoutEntry, change_answered, still_counted}
use Rattle.call_objects.proofs.writes.reset.Goals as goal

pub returns-in-Err-clause-served : goal.returns-in-Err-clause-served
returns-in-Err-clause-served g c =
    let client = c.args.client.now in
    of_reading c.args.seat.now c.out_of_memory.new.seat client.call (Names (naming.ResetBranch c.args.call.now)) client.now
    (g.B.Blocks.faults client.blocks.now) (g.B.Blocks.misses client.blocks.now) (g.B.Blocks.missed client.blocks.now) (g.B.Blocks.held client.blocks.now)
    c.out_of_memory.result (c.out_of_memory.ensures.served (Names (naming.ResetBranch c.args.call.now))) (λ r is. absurd cc)

pub returns-clause-served : goal.returns-clause-served
returns-clause-served g c =
    let call : ResetCall = c.args.call.now in
    let old = c.args.client.now in
    let step = c.reset_branch-answer in
    let new = step.new.client in
    let counted = counted_between (g.B.Blocks.faults old.blocks.now) (g.B.Blocks.misses old.blocks.now) (g.B.Blocks.faults new.blocks.now)
    (g.B.Blocks.misses new.blocks.now) (g.B.Blocks.missed new.blocks.now) in
    let asked : ResetWhat → Call = λ what. Names (naming.ResetBranch (record { repo = call.repo; branch = call.branch; what = what })) in
    subst (λ (what : ResetWhat). IsCallAnswered c.args.seat.now step.new.seat old.call (asked what) old.now counted (g.B.Blocks.held old.blocks.now)
    (g.B.Blocks.held new.blocks.now) (record { reply = c.change_reply.result; position = step.result.position; edge = step.result.edge }))
    c.in-Ok.ensures.equal
    (change_answered c.args.seat.now step.new.seat old.call (asked c.in-Ok.what) old.now (IsWithoutEntry done.BranchReset)
    (still (g.B.Blocks.faults old.blocks.now) (g.B.Blocks.misses old.blocks.now) (g.B.Blocks.missed old.blocks.now)) 0 step.result
    step.ensures.served.answers counted
    (still_counted old new (λ k. g.B.Blocks.faults k.blocks.now) (λ k. g.B.Blocks.misses k.blocks.now) (λ k. g.B.Blocks.missed k.blocks.now)
    step.ensures.client)
    (g.B.Blocks.held old.blocks.now) (g.B.Blocks.held new.blocks.now) step.ensures.bodies step.ensures.turn (λ r is. absurd cc) c.change_reply.result
    done.BranchReset (λ entry told tells. tells.1)
    (c.change_reply.ensures (names_in call.repo call.branch)
    (names_of_name c.of_name-names.result call.repo c.as_str.result.now call.branch c.of_name-names.ensures c.as_str.ensures.bytes)))
