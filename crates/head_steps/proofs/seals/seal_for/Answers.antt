use Rattle.core_puts.specs.KeeperViews.{KeeperView}
use Rattle.head_steps.proofs.SealTryLemmas.{sealed}
use Rattle.head_steps.proofs.seals.seal_for.Goals as goal

pub returns : goal.returns
returns g c =
    let view : KeeperView _ = record { kept = g.K.Keeper.kept; faults = g.K.Keeper.faults; calls = g.K.Keeper.calls; successes = g.K.Keeper.successes } in
    sealed view c.args.seat.now c.seal.new.seat c.args.call c.args.repo.now c.args.branch.now c.args.why c.seal.result c.seal.ensures
