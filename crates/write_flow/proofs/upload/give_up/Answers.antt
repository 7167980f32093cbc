use Rattle.std.proofs.Common.{◌∙◌, ap}
use Rattle.core_puts.specs.KeeperViews.{KeeperView}
use Rattle.shared_lake.specs.SeatSteps.{LakeSeat}
use Rattle.write_flow.specs.Uploads.{answer_of_drop}
use Rattle.write_flow.proofs.TicketFlowLemmas.{gave_by}
use Rattle.write_flow.proofs.upload.give_up.Goals as goal

pub returns-clause-gave : goal.returns-clause-gave
returns-clause-gave g c =
    let view : KeeperView _ = record { kept = g.K.Keeper.kept; faults = g.K.Keeper.faults; calls = g.K.Keeper.calls; successes = g.K.Keeper.successes } in
    let dropped = c.drop_ticket-dropped in
    gave_by view c.args.seat.now dropped.new.seat c.args.call c.args.number c.args.fault c.after_drop.result dropped.result dropped.ensures
    (c.after_drop.ensures
    ∙ (λ i. answer_of_drop c.args.fault (c.seen-position.ensures i) (c.seen-edge.ensures i) dropped.result))

pub returns-clause-turn : goal.returns-clause-turn
returns-clause-turn g c = ap (λ (s : LakeSeat). s.turn) c.drop_ticket-dropped.ensures.seat
