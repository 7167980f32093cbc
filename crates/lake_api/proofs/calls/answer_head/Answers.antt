use Rattle.std.proofs.Common.{ap}
use Rattle.lake_calls.specs.declared.call.Call.TheVariants as any
use Rattle.call_heads.proofs.AnswerLemmas.{of_reading}
use Rattle.lake_api.proofs.ChangeLemmas.{same_call}
use Rattle.lake_api.proofs.OtherCalls.{of_heads}
use Rattle.lake_api.proofs.calls.answer_head.Goals as goal

pub returns-in-Log-clause-served : goal.returns-in-Log-clause-served
returns-in-Log-clause-served g c =
    let client = c.args.client.now in
    let blocks = client.blocks.now in
    same_call c.args.seat.now c.log.new.seat client.call client.now (g.B.Blocks.faults blocks) (g.B.Blocks.misses blocks)
    (g.B.Blocks.missed blocks) (g.B.Blocks.held blocks) c.log.result _ _ (ap any.Heads c.in-Log.is)
    (of_reading c.args.seat.now c.log.new.seat client.call _ client.now _ _ _ _ c.log.result
    c.log.ensures (of_heads _))

pub returns-in-GetCommit-clause-served : goal.returns-in-GetCommit-clause-served
returns-in-GetCommit-clause-served g c =
    let client = c.args.client.now in
    let blocks = client.blocks.now in
    same_call c.args.seat.now c.get_commit.new.seat client.call client.now (g.B.Blocks.faults blocks) (g.B.Blocks.misses blocks)
    (g.B.Blocks.missed blocks) (g.B.Blocks.held blocks) c.get_commit.result _ _ (ap any.Heads c.in-GetCommit.is)
    (of_reading c.args.seat.now c.get_commit.new.seat client.call _ client.now _ _ _ _ c.get_commit.result
    c.get_commit.ensures (of_heads _))
