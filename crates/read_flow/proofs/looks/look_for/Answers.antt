use Rattle.core_puts.specs.KeeperViews.{KeeperView}
use Rattle.read_flow.proofs.LookLemmas.{has_looked}
use Rattle.read_flow.proofs.looks.look_for.Goals as goal

pub returns : goal.returns
returns g c =
    let view : KeeperView _ = record { kept = g.K.Keeper.kept; faults = g.K.Keeper.faults; calls = g.K.Keeper.calls; successes = g.K.Keeper.successes } in
    has_looked view c.args.seat.now c.look-looked.new.seat c.args.wanted.now.repo.now c.args.wanted.now.path.now c.args.wanted.now.e.now c.look-looked.result
    c.look-looked.ensures c.told_apart.result c.told_apart.ensures
