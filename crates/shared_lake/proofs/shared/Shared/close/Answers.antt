use Rattle.core_puts.specs.KeeperViews.{KeeperView}
use Rattle.shared_lake.proofs.SeatLemmas.{finds_met}
use Rattle.shared_lake.proofs.shared.Shared.close.Goals as goal

pub returns-clause-found : goal.returns-clause-found
returns-clause-found g c k seat within =
    let view : KeeperView _ = record { kept = g.K.Keeper.kept; faults = g.K.Keeper.faults; calls = g.K.Keeper.calls; successes = g.K.Keeper.successes } in
    finds_met view _ c.close.result (c.close.ensures.meets k seat within) c.close.ensures.stands
