use Rattle.std.proofs.Common.{rules, ap, ◌∙◌}
use Rattle.turn_lock.proofs.TurnStepsLemmas.{takes_turn}
use Rattle.turn_lock.proofs.steps.take_turn.Goals as goal

pub compare_exchange-requires : goal.compare_exchange-requires
compare_exchange-requires g c =
    let me = c.loop.invariant.1 in (
      search rules,
      search rules,
      takes_turn g.S.Standing.origin g.S.Standing.list g.S.Standing.seat_of _ _ c.loop.place.me
          (ap (λ m. m.0.living) me ∙ c.requires.1.0) (ap (λ m. m.0.stage) me ∙ c.requires.1.1),
    )
