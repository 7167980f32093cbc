use Rattle.core_puts.specs.KeeperViews.{KeeperView}
use Rattle.head_steps.proofs.SealTryLemmas.{resolved_for}
use Rattle.head_steps.proofs.seals.resolve_for.Goals as goal

pub returns : goal.returns
returns g c call =
    let view : KeeperView _ = record { kept = g.K.Keeper.kept; faults = g.K.Keeper.faults; calls = g.K.Keeper.calls; successes = g.K.Keeper.successes } in
    resolved_for view c.args.seat.now c.resolve.new.seat c.args.repo.now c.args.e.now c.resolve.result call c.resolve.ensures
