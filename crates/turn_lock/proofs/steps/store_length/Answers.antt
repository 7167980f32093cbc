use Rattle.std.proofs.Common.{rules, ap, sym, ◌∙◌, length}
use Rattle.turn_lock.proofs.TurnStepsLemmas.{writes}
use Rattle.turn_lock.proofs.steps.store_length.Goals as goal

pub store-requires : goal.store-requires
store-requires g c =
    let same = c.requires.next in (
      search rules,
      search rules,
      writes g.S.Standing.origin g.S.Standing.list g.S.Standing.seat_of _ _ _ c.args.place.now.me g.J.NextList.next_list
          c.requires.grown.0 c.requires.own.1 c.requires.own.2 (same ∙ c.requires.grown.1) c.requires.grown.2 (sym c.requires.length ∙ sym (ap length same)),
    )
