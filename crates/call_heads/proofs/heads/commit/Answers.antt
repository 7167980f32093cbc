use Rattle.std.proofs.Common.{sym, ap, subst}
use Rattle.lake_base.specs.declared.digest.Digest.{Digest}
use Rattle.lake_values.specs.Commit.{CommitRecordValue}
use Rattle.lake_calls.specs.Calls.{CommitCall}
use Rattle.lake_calls.specs.CallReadings.{known_commit}
use Rattle.lake_calls.specs.CallRefusals.{names_in, names_of}
use Rattle.lake_calls.specs.declared.call.Call.TheVariants.{Heads}
use Rattle.lake_calls.specs.declared.heads.HeadCall.{HeadCall}
use Rattle.lake_calls.specs.declared.heads.HeadCall.TheVariants as head
use Rattle.lake_calls.specs.declared.reply.Done.{Done}
use Rattle.lake_calls.specs.declared.reply.Done.TheVariants as done
use Rattle.call_objects.specs.CallWords.{AreNames}
use Rattle.call_objects.proofs.FlowLemmas.{names_of_name}
use Rattle.call_objects.proofs.ReadingLemmas.{of_reading}
use Rattle.commit_flow.specs.CommitFlows.{said_at}
use Rattle.call_heads.proofs.AnsweredHeadLemmas.{answered, other_call}
use Rattle.call_heads.proofs.heads.commit.Goals as goal

pub returns-in-Err-clause-served : goal.returns-in-Err-clause-served
returns-in-Err-clause-served g c =
    let client = c.args.client.now in
    let store = client.blocks.now in
    let call : HeadCall = head.Commit c.args.call.now in
    of_reading c.args.seat.now c.out_of_memory.new.seat client.call (Heads call) client.now (g.B.Blocks.faults store) (g.B.Blocks.misses store)
    (g.B.Blocks.missed store) (g.B.Blocks.held store) c.out_of_memory.result (c.out_of_memory.ensures.served (Heads call)) (other_call call)

pub returns-clause-served : goal.returns-clause-served
returns-clause-served g c =
    let client = c.args.client.now in
    let flow = c.commit-flow in
    let call : CommitCall = c.args.call.now in
    let same = sym c.call.view_is in
    let telling : Digest × CommitRecordValue → Done = λ one. done.Committed (known_commit one) in
    let names = subst (λ (n : CommitCall). AreNames c.of_name-names.result (names_in n.repo n.branch)) c.call.view_is
    (names_of_name c.of_name-names.result c.call.inside.repo c.as_str.result.now c.call.inside.branch c.of_name-names.ensures c.as_str.ensures.bytes) in
    let given = (flow.ensures.served call (ap (λ (n : CommitCall). n.repo) same) (ap (λ (n : CommitCall). n.branch) same) (sym (ap (said_at client.now) c.in-Ok.ensures))).answers in
    answered g.B.Blocks.faults g.B.Blocks.misses g.B.Blocks.missed g.B.Blocks.held client.blocks.now flow.new.client.blocks.now
    (ap (λ b. b.now) flow.ensures.blocks) c.args.seat.now flow.new.seat client.call (head.Commit call) client.now flow.ensures.turn telling flow.result
    given.met given.told given.tells given.flow given.faults given.misses given.missed_last
    c.committed-told.result c.committed-told.ensures c.reply.result (c.reply.ensures (names_of (Heads (head.Commit call))) names)
