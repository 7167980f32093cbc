use Rattle.std.proofs.Common.{rules}
use Rattle.std.specs.Prelude.{Option, Some}
use Rattle.core_state.specs.LakeStates.{lake_value}
use Rattle.lake_base.specs.Names.{is_like_id}
use Rattle.lake_core.specs.Lakes.{LakeValue, state}
use Rattle.lake_model.specs.Steps.{IsCreateRepositoryReply}
use Rattle.lake_model.specs.declared.history.By.{By}
use Rattle.core_puts.specs.KeptChanges.{Making}
use Rattle.lake_core.specs.Leaving.{Leaves}
use Rattle.lake_core.specs.Makings as making
use Rattle.turn_lock.proofs.TurnLemmas.{gives_values}
use Rattle.core_puts.specs.KeeperViews.{KeeperView}
use Rattle.shared_lake.proofs.SeatLemmas.{adds_left, changed_met}
use Rattle.shared_lake.proofs.shared.Shared.create_repo.Goals as goal

pub with_change-requires-clause-callable : goal.with_change-requires-clause-callable
with_change-requires-clause-callable g c x meets holds p is = search (rules, c.requires.plain)

pub with_change-requires-clause-only_adds : goal.with_change-requires-clause-only_adds
with_change-requires-clause-only_adds g c x y a meets holds gives left =
    let view : KeeperView _ = record { kept = g.K.Keeper.kept; faults = g.K.Keeper.faults; calls = g.K.Keeper.calls; successes = g.K.Keeper.successes } in
    let number = c.args.seat.now.number in
    let by : By = record { seat = number; call = c.args.call } in
    let made : LakeValue _ → Option Making = λ l. Some (making.create_repo c.args.repo c.args.branch c.args.date (lake_value l.present)) in
    let leaves : Leaves view by (made x) a x y =
    gives_values _ _ x number a y (λ v r w. Leaves view by (made v) r v w) (λ p q met. search rules) gives in
    adds_left view by x y (made x) a leaves

pub returns : goal.returns
returns g c =
    let view : KeeperView _ = record { kept = g.K.Keeper.kept; faults = g.K.Keeper.faults; calls = g.K.Keeper.calls; successes = g.K.Keeper.successes } in
    let number = c.args.seat.now.number in
    let by : By = record { seat = number; call = c.args.call } in
    let r = c.with_change.ensures.change in
    let answer = c.with_change.result in
    let made : LakeValue _ → Option Making = λ l. Some (making.create_repo c.args.repo c.args.branch c.args.date (lake_value l.present)) in
    let Answers : LakeValue _ → Type 0 = λ l. IsCreateRepositoryReply (state l) c.args.repo c.args.branch c.args.date answer in
    let leaves : Leaves view by (made r.0) answer r.0 r.1 =
    gives_values _ _ r.0 number answer r.1 (λ v a w. Leaves view by (made v) a v w) (λ p q met. search rules) r.4 in
    let told : Answers r.0 =
    gives_values _ _ r.0 number answer r.1 (λ v a w. IsCreateRepositoryReply (state v) c.args.repo c.args.branch c.args.date a) (λ p q met. search
    rules) r.4 in
    changed_met view by r.0 r.1 c.args.seat.now _ made Answers answer r.2 r.3 r.7 r.8 told leaves r.5.1 r.6 c.with_change.ensures.own.1
