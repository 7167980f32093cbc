use Rattle.std.proofs.Common.{length, ◌∙◌, ap, None}
use Rattle.core_puts.specs.KeeperViews.{KeeperView}
use Rattle.shared_lake.specs.SeatSteps.{LakeSeat}
use Rattle.lake_calls.specs.declared.names.ResetCall.{ResetCall}
use Rattle.flow_steps.specs.FlowAnswers.{still}
use Rattle.write_flow.specs.WriteFlows.{outcome_of}
use Rattle.write_flow.proofs.AnswerLemmas.{still_later}
use Rattle.write_flow.proofs.ResetLemmas.{reset_so}
use Rattle.write_flow.proofs.KeptBodyLemmas.{keeps_fitting}
use Rattle.write_flow.proofs.changes.reset_branch.Goals as goal

pub returns-clause-served : goal.returns-clause-served
returns-clause-served g c =
    let view : KeeperView _ = record { kept = g.K.Keeper.kept; faults = g.K.Keeper.faults; calls = g.K.Keeper.calls; successes = g.K.Keeper.successes } in
    let client = c.args.client.now in
    let new = c.reset-reset.new.seat in
    let call : ResetCall = record { repo = c.args.repo.now; branch = c.args.branch.now; what = c.args.what } in
    reset_so view c.args.seat.now new client.call call client.now
    (still (g.B.Blocks.faults client.blocks.now) (g.B.Blocks.misses client.blocks.now) (g.B.Blocks.missed client.blocks.now)) (still_later _ _)
    c.reset-reset.result c.answer_of.result
    (c.answer_of.ensures.outcome ∙ ap (outcome_of (length new.seen) None) c.step_told.ensures) c.answer_of.ensures.position c.answer_of.ensures.edge
    c.reset-reset.ensures

pub returns-clause-turn : goal.returns-clause-turn
returns-clause-turn g c = ap (λ (s : LakeSeat). s.turn) c.reset-reset.ensures.seat

pub returns-clause-bodies : goal.returns-clause-bodies
returns-clause-bodies g c = keeps_fitting _ _ _ _ _ _ _ _ _ _ (returns-clause-served g c).answers (λ u is. absurd cc)
