use Rattle.std.proofs.Common.{[], refl, subst, sym}
use Rattle.lake_calls.specs.declared.objects.ReadCall.{ReadCall}
use Rattle.flow_steps.specs.FlowAnswers.{asked_at}
use Rattle.body_laws.proofs.FlowBodyLemmas.{fits_unchanged}
use Rattle.read_flow.specs.ObjectReads.{HasRead, counted_between}
use Rattle.read_flow.specs.ReadAnswers.{reading}
use Rattle.read_flow.proofs.ReadAloneLemmas.{reads_held}
use Rattle.read_flow.proofs.ServedLemmas.{served_so}
use Rattle.read_flow.proofs.objects.read_object.Goals as goal

pub returns-clause-served : goal.returns-clause-served
returns-clause-served g c call repo e path =
    let client = c.args.client.now in
    let new = c.ask_in_rounds-outcome.new in
    let blocks = counted_between (g.B.Blocks.faults client.blocks.now) (g.B.Blocks.misses client.blocks.now) (g.B.Blocks.faults new.blocks)
    (g.B.Blocks.misses new.blocks) (g.B.Blocks.missed new.blocks) in
    served_so c.args.seat.now new.seat client.call call client.now blocks (g.B.Blocks.held client.blocks.now) (g.B.Blocks.held new.blocks)
    (g.P.Pause.calls client.pause.now) (g.P.Pause.calls new.pause) c.ask_in_rounds-outcome.result c.answer_of.result c.answer_of.ensures
    (subst (λ (X : Type 0). X)
    (λ i. HasRead (sym repo i) (sym path i) (sym e i) c.args.seat.now new.seat blocks (g.B.Blocks.held client.blocks.now) (g.B.Blocks.held new.blocks)
    (g.P.Pause.calls client.pause.now) (g.P.Pause.calls new.pause) c.ask_in_rounds-outcome.result)
    c.ask_in_rounds-outcome.ensures)

pub returns-clause-bodies : goal.returns-clause-bodies
returns-clause-bodies g c =
    let call : ReadCall = record { repo = c.args.repo.now; at = record { e = c.args.e.now; text = [] }; path = c.args.path.now } in
    let client = c.args.client.now in
    let new = c.ask_in_rounds-outcome.new in
    let blocks = counted_between (g.B.Blocks.faults client.blocks.now) (g.B.Blocks.misses client.blocks.now) (g.B.Blocks.faults new.blocks)
    (g.B.Blocks.misses new.blocks) (g.B.Blocks.missed new.blocks) in
    reads_held call.repo call.path call.at.e c.args.seat.now new.seat blocks (g.B.Blocks.held client.blocks.now) (g.B.Blocks.held new.blocks)
    (g.P.Pause.calls client.pause.now) (g.P.Pause.calls new.pause) c.answer_of.result.outcome (returns-clause-served g c call refl refl refl).read

pub returns-clause-fitting : goal.returns-clause-fitting
returns-clause-fitting g c =
    let call : ReadCall = record { repo = c.args.repo.now; at = record { e = c.args.e.now; text = [] }; path = c.args.path.now } in
    let client = c.args.client.now in
    let is = returns-clause-served g c call refl refl refl in
    fits_unchanged c.args.seat.now c.ask_in_rounds-outcome.new.seat client.call (asked_at (reading call) client.now) is.met is.told c.answer_of.result.position
    c.answer_of.result.edge (g.B.Blocks.held client.blocks.now) (g.B.Blocks.held c.ask_in_rounds-outcome.new.blocks) is.flow (λ u asks. absurd cc)
    is.read.kept
