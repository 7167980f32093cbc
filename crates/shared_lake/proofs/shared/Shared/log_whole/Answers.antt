use Rattle.std.proofs.Common.{rules}
use Rattle.std.specs.Prelude.{None}
use Rattle.core_readings.specs.Answers.{log_answer}
use Rattle.lake_core.specs.Lakes.{LakeValue, state}
use Rattle.lake_model.specs.Readings.{log_reply}
use Rattle.lake_model.specs.Refusals.{Gives}
use Rattle.core_puts.specs.KeeperViews.{KeeperView}
use Rattle.shared_lake.proofs.SeatLemmas.{read_met}
use Rattle.shared_lake.proofs.shared.Shared.log_whole.Goals as goal

pub returns : goal.returns
returns g c =
    let view : KeeperView _ = record { kept = g.K.Keeper.kept; faults = g.K.Keeper.faults; calls = g.K.Keeper.calls; successes = g.K.Keeper.successes } in
    let r = c.with_read.ensures.read in
    let Answers : LakeValue _ → Type 0 =
    λ l. Gives (log_answer c.with_read.result) (log_reply (state l) c.args.repo.now c.args.e.now None c.args.since c.args.amount) in
    let told : Answers r.0 = search rules in
    read_met view c.args.seat.now r.0 _ Answers r.1 r.4 told r.3 c.with_read.ensures.own.1
