use Rattle.std.proofs.Common.{◌≡◌, Ok, Err, None, ap, refl, subst, sym, arith}
use Rattle.std.specs.Prelude.{IfSome}
use Rattle.lake_model.specs.Uncommitted.{HasTicket, put_number}
use Rattle.core_puts.specs.KeeperViews.{KeeperView}
use Rattle.lake_core.specs.Lakes.{state}
use Rattle.shared_lake.specs.SeatSteps.{LakeSeat}
use Rattle.flow_steps.specs.FlowTries.{HasTried, staging}
use Rattle.flow_steps.proofs.SeatFlowLemmas.{finds_before}
use Rattle.flow_steps.proofs.PausedLemmas.{paused_once}
use Rattle.write_flow.proofs.PauseLemmas.{version_few}
use Rattle.write_flow.proofs.StepLemmas.{not_read, stage_tried, stays_read}
use Rattle.write_flow.proofs.tries.stage_once.Goals as goal

pub returns-in-Err-clause-tried : goal.returns-in-Err-clause-tried
returns-in-Err-clause-tried g c =
    let view : KeeperView _ = record { kept = g.K.Keeper.kept; faults = g.K.Keeper.faults; calls = g.K.Keeper.calls; successes = g.K.Keeper.successes } in
    let guarded = staging c.args.target.now.repo.now c.args.target.now.branch.now c.args.target.now.path.now c.args.change.now in
    not_read view c.args.seat.now c.versions.new.seat c.args.call guarded c.args.target.now.repo.now c.args.target.now.branch.now c.in-Err.fault (λ s. refl)
    c.in-Err.ensures

pub returns-in-Err-copies-clause-tried : goal.returns-in-Err-copies-clause-tried
returns-in-Err-copies-clause-tried g c =
    let view : KeeperView _ = record { kept = g.K.Keeper.kept; faults = g.K.Keeper.faults; calls = g.K.Keeper.calls; successes = g.K.Keeper.successes } in
    let guarded = staging c.args.target.now.repo.now c.args.target.now.branch.now c.args.target.now.path.now c.args.change.now in
    stays_read view c.args.seat.now c.versions.new.seat c.versions.new.seat c.args.call guarded c.args.target.now.repo.now c.args.target.now.branch.now
    c.in-Ok.versions (λ s. refl) (λ given. refl) c.in-Ok.ensures

pub returns-in-Err-copies-clause-paused : goal.returns-in-Err-copies-clause-paused
returns-in-Err-copies-clause-paused g c = paused_once 0 _ _ (omega arith) c.between.ensures.called

pub stage-requires-clause-ticket : goal.stage-requires-clause-ticket
stage-requires-clause-ticket g c found finds =
    let view : KeeperView _ = record { kept = g.K.Keeper.kept; faults = g.K.Keeper.faults; calls = g.K.Keeper.calls; successes = g.K.Keeper.successes } in
    let same : c.versions.new.seat.number ≡ c.args.seat.now.number = ap (λ (s : LakeSeat). s.number) c.in-Ok.ensures.seat in
    subst (λ change. IfSome (put_number change) (HasTicket (state found) c.versions.new.seat.number)) (sym c.in-Ok-copies.ensures.1)
    (subst (λ n. IfSome (put_number c.args.change.now) (HasTicket (state found) n)) (sym same)
    (c.requires.ticket found (finds_before view c.args.seat.now c.versions.new.seat _ c.in-Ok.ensures found finds)))

pub returns-in-Ok-stage-clause-tried : goal.returns-in-Ok-stage-clause-tried
returns-in-Ok-stage-clause-tried g c =
    let view : KeeperView _ = record { kept = g.K.Keeper.kept; faults = g.K.Keeper.faults; calls = g.K.Keeper.calls; successes = g.K.Keeper.successes } in
    subst (λ path. HasTried (staging c.args.target.now.repo.now c.args.target.now.branch.now path c.args.change.now) c.args.call c.args.seat.now
    c.stage.new.seat (Ok None)) c.in-Ok-copies.ensures.0
    (subst (λ change. HasTried (staging c.args.target.now.repo.now c.args.target.now.branch.now c.in-Ok-copies.copies.0 change) c.args.call c.args.seat.now
    c.stage.new.seat (Ok None)) c.in-Ok-copies.ensures.1
    (stage_tried view c.args.seat.now c.versions.new.seat c.stage.new.seat c.args.call c.args.target.now.repo.now c.args.target.now.branch.now
    c.in-Ok-copies.copies.0 c.in-Ok-copies.copies.1 c.in-Ok.versions c.in-Ok.ensures _ c.in-Ok-stage.ensures))

pub returns-in-Ok-stage-clause-paused : goal.returns-in-Ok-stage-clause-paused
returns-in-Ok-stage-clause-paused g c = paused_once 0 _ _ (omega arith) c.between.ensures.called

pub returns-in-Err-stage-clause-tried : goal.returns-in-Err-stage-clause-tried
returns-in-Err-stage-clause-tried g c =
    let view : KeeperView _ = record { kept = g.K.Keeper.kept; faults = g.K.Keeper.faults; calls = g.K.Keeper.calls; successes = g.K.Keeper.successes } in
    subst (λ path. HasTried (staging c.args.target.now.repo.now c.args.target.now.branch.now path c.args.change.now) c.args.call c.args.seat.now
    c.stage.new.seat (Err c.in-Err-stage.fault)) c.in-Ok-copies.ensures.0
    (subst (λ change. HasTried (staging c.args.target.now.repo.now c.args.target.now.branch.now c.in-Ok-copies.copies.0 change) c.args.call c.args.seat.now
    c.stage.new.seat (Err c.in-Err-stage.fault)) c.in-Ok-copies.ensures.1
    (stage_tried view c.args.seat.now c.versions.new.seat c.stage.new.seat c.args.call c.args.target.now.repo.now c.args.target.now.branch.now
    c.in-Ok-copies.copies.0 c.in-Ok-copies.copies.1 c.in-Ok.versions c.in-Ok.ensures _ c.in-Err-stage.ensures))

pub returns-in-Err-stage-clause-paused : goal.returns-in-Err-stage-clause-paused
returns-in-Err-stage-clause-paused g c = paused_once _ _ _ (version_few c.in-Err-stage.fault) c.between.ensures.called
