use Rattle.std.proofs.Common.{rules, ap, ◌∙◌}
use Rattle.turn_lock.proofs.TurnStepsLemmas.{compares}
use Rattle.turn_lock.proofs.SeatStepsLemmas.{joins, joined_tells}
use Rattle.turn_lock.proofs.steps.join.Goals as goal

pub join_seat-requires : goal.join_seat-requires
join_seat-requires g c = (
  search rules,
  search rules,
  search rules,
  search rules,
  joins g.S.Standing.origin g.S.Standing.list g.S.Standing.seat_of _ _ _ _ c.requires.own.1 c.requires.own.2 c.requires.other.1.0 c.requires.other.1.1,
)

pub load-requires : goal.load-requires
load-requires g c = (
  search rules,
  search rules,
  compares g.S.Standing.origin g.S.Standing.list g.S.Standing.seat_of _ _ c.join_seat.new.seat.me
      (ap (λ m. m.0.living) c.join_seat.ensures.2 ∙ c.requires.own.1),
)

pub returns-clause-begins : goal.returns-clause-begins
returns-clause-begins g c =
    (joined_tells g.S.Standing.origin g.S.Standing.list g.S.Standing.seat_of c.args.place.now.me.0 c.args.other.me.0 _ c.join_seat.new.seat.me
    c.load.new.seat.me c.join_seat.ensures.2 c.load.ensures.2).0

pub returns-clause-own : goal.returns-clause-own
returns-clause-own g c =
    (joined_tells g.S.Standing.origin g.S.Standing.list g.S.Standing.seat_of c.args.place.now.me.0 c.args.other.me.0 _ c.join_seat.new.seat.me
    c.load.new.seat.me c.join_seat.ensures.2 c.load.ensures.2).1

pub returns-clause-beside : goal.returns-clause-beside
returns-clause-beside g c =
    (joined_tells g.S.Standing.origin g.S.Standing.list g.S.Standing.seat_of c.args.place.now.me.0 c.args.other.me.0 _ c.join_seat.new.seat.me
    c.load.new.seat.me c.join_seat.ensures.2 c.load.ensures.2).2
