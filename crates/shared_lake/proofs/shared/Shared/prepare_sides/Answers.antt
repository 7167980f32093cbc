use Rattle.std.proofs.Common.{rules, sym, subst}
use Rattle.std.specs.Prelude.{Some}
use Rattle.core_readings.specs.Preparations.{HasSides, prepared_answer}
use Rattle.lake_core.specs.Lakes.{LakeValue, state, versions}
use Rattle.lake_model.specs.Preparing.{prepare_reply}
use Rattle.lake_model.specs.Refusals.{Gives}
use Rattle.core_puts.specs.KeeperViews.{KeeperView}
use Rattle.shared_lake.proofs.SeatLemmas.{read_met, finds_met}
use Rattle.shared_lake.proofs.shared.Shared.prepare_sides.Goals as goal

pub with_read-requires-clause-callable : goal.with_read-requires-clause-callable
with_read-requires-clause-callable g c x meets holds p is =
    let view : KeeperView _ = record { kept = g.K.Keeper.kept; faults = g.K.Keeper.faults; calls = g.K.Keeper.calls; successes = g.K.Keeper.successes } in
    let Ready : LakeValue _ → Type 0 = λ l. HasSides (state l) c.args.repo.now c.args.sides.now in
    let ready : Ready p.now = subst Ready (sym is) (c.requires.sides x (finds_met view c.args.seat.now x meets holds)) in
    search (rules, ready)

pub returns-clause-step : goal.returns-clause-step
returns-clause-step g c =
    let view : KeeperView _ = record { kept = g.K.Keeper.kept; faults = g.K.Keeper.faults; calls = g.K.Keeper.calls; successes = g.K.Keeper.successes } in
    let r = c.with_read.ensures.read in
    let Answers : LakeValue _ → Type 0 =
    λ l. Gives (prepared_answer c.with_read.result) (prepare_reply (state l) (versions l) c.args.repo.now c.args.branch.now (Some c.args.sides.now)) in
    let told : Answers r.0 = search rules in
    read_met view c.args.seat.now r.0 _ Answers r.1 r.4 told r.3 c.with_read.ensures.own.1
