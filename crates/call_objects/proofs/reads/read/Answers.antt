use Rattle.std.proofs.Common.{refl, subst, sym, ◌∙◌}
use Rattle.commit_graph.specs.Expressions.{RefExprValue}
use Rattle.lake_calls.specs.CallRefusals.{names_of}
use Rattle.lake_calls.specs.declared.objects.ReadCall.{ReadCall}
use Rattle.read_flow.specs.ObjectReads.{counted_between}
use Rattle.read_flow.specs.ReadAnswers.{reading}
use Rattle.read_flow.specs.ReadsAlone.{ReadsHeld}
use Rattle.call_objects.proofs.ReadLemmas.{read_answered}
use Rattle.call_objects.proofs.reads.read.Goals as goal

pub returns-clause-served : goal.returns-clause-served
returns-clause-served g c =
    let call : ReadCall = c.args.call.now in
    let client = c.args.client.now in
    let old = client.blocks in
    let step = c.read_object-answer in
    let new = step.new.client.blocks in
    read_answered call c.bytes_reply.result c.args.seat.now step.new.seat
    (counted_between (g.B.Blocks.faults old.now) (g.B.Blocks.misses old.now) (g.B.Blocks.faults new.now) (g.B.Blocks.misses new.now)
    (g.B.Blocks.missed new.now))
    (g.B.Blocks.held old.now) (g.B.Blocks.held new.now) (g.P.Pause.calls client.pause.now) (g.P.Pause.calls step.new.client.pause.now) client.call client.now
    step.result (step.ensures.served call refl (sym c.expr.ensures) refl)
    (subst (λ (e : RefExprValue). ReadsHeld call.repo e c.args.seat.now (g.B.Blocks.held old.now) step.result.outcome) c.expr.ensures step.ensures.bodies)
    step.ensures.fitting
    (c.bytes_reply.ensures (names_of (reading call))
    (record { repo = refl; named = refl; expression = c.as_str.ensures.bytes ∙ c.text.ensures; path = refl; after = refl }))
