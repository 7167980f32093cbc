use Rattle.std.proofs.Common.{rules, Some}
use Rattle.turn_lock.proofs.TurnStepsLemmas.{looks, holding}
use Rattle.turn_lock.proofs.steps.take_out.Goals as goal

pub load-requires : goal.load-requires
load-requires g c =
    (search rules, search rules, looks g.S.Standing.origin g.S.Standing.list g.S.Standing.seat_of _ _ c.args.place.now.me c.requires.1 c.requires.2)

pub exchange-requires : goal.exchange-requires
exchange-requires g c = (search rules, (Some c.load.ensures.2.0, holding c.load.new.seat.me _ 0 (Some c.load.ensures.2.0) _ c.load.ensures.2.2))
