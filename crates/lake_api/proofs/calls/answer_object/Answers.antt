use Rattle.std.proofs.Common.{ap}
use Rattle.lake_calls.specs.declared.call.Call.TheVariants as any
use Rattle.call_heads.proofs.AnswerLemmas.{of_reading}
use Rattle.lake_api.proofs.ChangeLemmas.{same_call}
use Rattle.lake_api.proofs.OtherCalls.{of_stat, of_list}
use Rattle.lake_api.proofs.calls.answer_object.Goals as goal

pub returns-in-Stat-clause-served : goal.returns-in-Stat-clause-served
returns-in-Stat-clause-served g c =
    let client = c.args.client.now in
    let blocks = client.blocks.now in
    same_call c.args.seat.now c.stat_object.new.seat client.call client.now (g.B.Blocks.faults blocks) (g.B.Blocks.misses blocks)
    (g.B.Blocks.missed blocks) (g.B.Blocks.held blocks) c.stat_object.result _ _ (ap any.Objects c.in-Stat.is)
    (of_reading c.args.seat.now c.stat_object.new.seat client.call _ client.now _ _ _ _ c.stat_object.result
    c.stat_object.ensures (of_stat _))

pub returns-in-List-clause-served : goal.returns-in-List-clause-served
returns-in-List-clause-served g c =
    let client = c.args.client.now in
    let blocks = client.blocks.now in
    same_call c.args.seat.now c.list_objects.new.seat client.call client.now (g.B.Blocks.faults blocks) (g.B.Blocks.misses blocks)
    (g.B.Blocks.missed blocks) (g.B.Blocks.held blocks) c.list_objects.result _ _ (ap any.Objects c.in-List.is)
    (of_reading c.args.seat.now c.list_objects.new.seat client.call _ client.now _ _ _ _ c.list_objects.result
    c.list_objects.ensures (of_list _))
