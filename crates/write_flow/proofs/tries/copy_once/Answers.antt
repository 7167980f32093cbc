use Rattle.std.proofs.Common.{Ok, Err, Some, refl, subst, arith}
use Rattle.core_puts.specs.KeeperViews.{KeeperView}
use Rattle.flow_steps.specs.FlowTries.{HasTried, copying}
use Rattle.flow_steps.proofs.PausedLemmas.{paused_once}
use Rattle.write_flow.proofs.PauseLemmas.{version_few}
use Rattle.write_flow.proofs.StepLemmas.{copy_tried, not_read, stays_read}
use Rattle.write_flow.proofs.tries.copy_once.Goals as goal

pub returns-in-Err-clause-tried : goal.returns-in-Err-clause-tried
returns-in-Err-clause-tried g c =
    let view : KeeperView _ = record { kept = g.K.Keeper.kept; faults = g.K.Keeper.faults; calls = g.K.Keeper.calls; successes = g.K.Keeper.successes } in
    let guarded = copying c.args.target.now.repo.now c.args.target.now.branch.now c.args.target.now.path.now c.args.e.now c.args.from.now in
    not_read view c.args.seat.now c.versions.new.seat c.args.call guarded c.args.target.now.repo.now c.args.target.now.branch.now c.in-Err.fault (λ s. refl)
    c.in-Err.ensures

pub returns-in-Err-copy-clause-tried : goal.returns-in-Err-copy-clause-tried
returns-in-Err-copy-clause-tried g c =
    let view : KeeperView _ = record { kept = g.K.Keeper.kept; faults = g.K.Keeper.faults; calls = g.K.Keeper.calls; successes = g.K.Keeper.successes } in
    let guarded = copying c.args.target.now.repo.now c.args.target.now.branch.now c.args.target.now.path.now c.args.e.now c.args.from.now in
    stays_read view c.args.seat.now c.versions.new.seat c.versions.new.seat c.args.call guarded c.args.target.now.repo.now c.args.target.now.branch.now
    c.in-Ok.versions (λ s. refl) (λ given. refl) c.in-Ok.ensures

pub returns-in-Err-copy-clause-paused : goal.returns-in-Err-copy-clause-paused
returns-in-Err-copy-clause-paused g c = paused_once 0 _ _ (omega arith) c.between.ensures.called

pub returns-in-Ok-copy-2-clause-tried : goal.returns-in-Ok-copy-2-clause-tried
returns-in-Ok-copy-2-clause-tried g c =
    let view : KeeperView _ = record { kept = g.K.Keeper.kept; faults = g.K.Keeper.faults; calls = g.K.Keeper.calls; successes = g.K.Keeper.successes } in
    subst (λ path. HasTried (copying c.args.target.now.repo.now c.args.target.now.branch.now path c.args.e.now c.args.from.now) c.args.call
    c.args.seat.now c.copy-2.new.seat (Ok (Some c.in-Ok-copy-2.entry))) c.in-Ok-copy.ensures.equal
    (copy_tried view c.args.seat.now c.versions.new.seat c.copy-2.new.seat c.args.call c.args.target.now.repo.now c.args.target.now.branch.now
    c.in-Ok-copy.path c.args.e.now c.args.from.now c.in-Ok.versions c.in-Ok.ensures _ c.in-Ok-copy-2.ensures)

pub returns-in-Ok-copy-2-clause-paused : goal.returns-in-Ok-copy-2-clause-paused
returns-in-Ok-copy-2-clause-paused g c = paused_once 0 _ _ (omega arith) c.between.ensures.called

pub returns-in-Err-copy-2-clause-tried : goal.returns-in-Err-copy-2-clause-tried
returns-in-Err-copy-2-clause-tried g c =
    let view : KeeperView _ = record { kept = g.K.Keeper.kept; faults = g.K.Keeper.faults; calls = g.K.Keeper.calls; successes = g.K.Keeper.successes } in
    subst (λ path. HasTried (copying c.args.target.now.repo.now c.args.target.now.branch.now path c.args.e.now c.args.from.now) c.args.call
    c.args.seat.now c.copy-2.new.seat (Err c.in-Err-copy-2.fault)) c.in-Ok-copy.ensures.equal
    (copy_tried view c.args.seat.now c.versions.new.seat c.copy-2.new.seat c.args.call c.args.target.now.repo.now c.args.target.now.branch.now
    c.in-Ok-copy.path c.args.e.now c.args.from.now c.in-Ok.versions c.in-Ok.ensures _ c.in-Err-copy-2.ensures)

pub returns-in-Err-copy-2-clause-paused : goal.returns-in-Err-copy-2-clause-paused
returns-in-Err-copy-2-clause-paused g c = paused_once _ _ _ (version_few c.in-Err-copy-2.fault) c.between.ensures.called
