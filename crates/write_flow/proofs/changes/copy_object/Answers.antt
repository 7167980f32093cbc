use Rattle.std.proofs.Common.{◌≡◌, None, Some, [], refl, subst, sym, ap}
use Rattle.lake_calls.specs.Courses.{copied_from}
use Rattle.lake_calls.specs.declared.call.Call.TheVariants.{Objects}
use Rattle.lake_calls.specs.declared.objects.CopyCall.{CopyCall}
use Rattle.lake_calls.specs.declared.objects.ObjectCall.TheVariants as object
use Rattle.flow_steps.specs.FlowTries.{Guarded, copying}
use Rattle.shared_lake.specs.SeatSteps.{LakeSeat}
use Rattle.flow_steps.specs.FlowAnswers.{still}
use Rattle.write_flow.specs.WriteFlows.{IsCopyTold, IsTriedAnswer}
use Rattle.write_flow.specs.WriteTries.{HaveTried}
use Rattle.write_flow.proofs.AnswerLemmas.{answered_so, still_later}
use Rattle.write_flow.proofs.InstanceLemmas.{copied_told, copies}
use Rattle.write_flow.proofs.KeptBodyLemmas.{keeps_fitting}
use Rattle.write_flow.proofs.changes.copy_object.Goals as goal

pub returns-clause-served : goal.returns-clause-served
returns-clause-served g c call repo branch path e from =
    let client = c.args.client.now in
    let new = c.attempts-outcome.new.seat in
    let result = c.attempts-outcome.result in
    let paused = g.P.Pause.calls client.pause.now in
    let pauses = g.P.Pause.calls c.attempts-outcome.new.pause in
    let blocks = still (g.B.Blocks.faults client.blocks.now) (g.B.Blocks.misses client.blocks.now) (g.B.Blocks.missed client.blocks.now) in
    let guarded_so : copying call.repo call.branch call.path (copied_from call).e call.source_path
    ≡ copying c.args.repo.now c.args.branch.now c.args.path.now c.args.e.now c.args.from.now =
    λ i. copying (repo i) (branch i) (path i) (e i) (from i) in
    let tried = subst (λ (guarded : Guarded). HaveTried guarded client.call c.args.seat.now new paused pauses result) (sym guarded_so)
    c.attempts-outcome.ensures in
    subst (λ (guarded : Guarded). IsTriedAnswer guarded None c.args.seat.now new client.call (Objects (object.Copy call)) client.now
    (IsCopyTold c.args.path.now) blocks paused pauses c.answer_of.result) guarded_so
    (answered_so (Objects (object.Copy call)) client.now call.repo call.branch
    (copying call.repo call.branch call.path (copied_from call).e call.source_path) (IsCopyTold call.path) (copies call client.now) None
    (IsCopyTold c.args.path.now)
    (λ copied what tells. copied_told c.args.path.now copied what (subst (λ p. IsCopyTold p copied what) path tells)) c.args.seat.now new client.call
    blocks (still_later _ _) paused pauses c.answer_of.result result c.answer_of.ensures.outcome c.answer_of.ensures.position c.answer_of.ensures.edge tried)

pub returns-clause-turn : goal.returns-clause-turn
returns-clause-turn g c = ap (λ (s : LakeSeat). s.turn) c.attempts-outcome.ensures.goes.seat

pub returns-clause-bodies : goal.returns-clause-bodies
returns-clause-bodies g c =
    let call : CopyCall = record {
      repo = c.args.repo.now;
      branch = c.args.branch.now;
      path = c.args.path.now;
      source_path = c.args.from.now;
      source = Some (record { e = c.args.e.now; text = [] });
    } in
    keeps_fitting _ _ _ _ _ _ _ _ _ _ (returns-clause-served g c call refl refl refl refl refl).answers (λ u is. absurd cc)
