use Rattle.std.proofs.Common.{rules, None}
use Rattle.turn_lock.proofs.TurnStepsLemmas.{gives_turn_as}
use Rattle.turn_lock.proofs.steps.give_back.Goals as goal

pub store-requires : goal.store-requires
store-requires g c = (
  search rules,
  search rules,
  gives_turn_as g.S.Standing.origin g.S.Standing.list g.S.Standing.seat_of _ _ c.exchange-nothing.new.seat.me c.args.place.now.me.0 c.args.place.now.me.1
      (0, None) c.args.value c.requires.own.3 c.exchange-nothing.ensures.3 c.requires.own.1 c.requires.own.2 c.requires.value.0 c.requires.value.1,
)
