use Rattle.std.proofs.Common.{rules, ◌≡◌}
use Rattle.lake_core.specs.Lakes.{LakeValue, state, versions}
use Rattle.lake_model.specs.Readings.{versions_reply}
use Rattle.core_puts.specs.KeeperViews.{KeeperView}
use Rattle.shared_lake.proofs.SeatLemmas.{read_met}
use Rattle.shared_lake.proofs.shared.Shared.versions.Goals as goal

pub returns : goal.returns
returns g c =
    let view : KeeperView _ = record { kept = g.K.Keeper.kept; faults = g.K.Keeper.faults; calls = g.K.Keeper.calls; successes = g.K.Keeper.successes } in
    let r = c.with_read.ensures.read in
    let Answers : LakeValue _ → Type 0 = λ l. c.with_read.result ≡ versions_reply (state l) (versions l) c.args.repo.now c.args.branch.now in
    let told : Answers r.0 = search rules in
    read_met view c.args.seat.now r.0 _ Answers r.1 r.4 told r.3 c.with_read.ensures.own.1
