use Rattle.std.proofs.Common.{rules, ap, ◌∙◌, [], ◌∷◌, ◌++◌, Some, arith, ◌≤◌}
use Rattle.turn_lock.proofs.SeatStepsLemmas.{opens_as}
use Rattle.turn_lock.proofs.turn.Turn.new.Goals as goal

pub new-requires : goal.new-requires
new-requires g c =
    let few : c.args.seats ≤ 4294967295 = omega arith in
    opens_as g.S.Standing.origin g.S.Standing.list g.S.Standing.seat_of c.args.value c.of.result.value c.args.seats c.from.result c.from-2.result
    c.entries-seen.result c.push_reserved.new.self.items
    (c.push_reserved.ensures.items ∙ ap (λ l. l ++ Some c.args.value ∷ []) c.in_ok-slots.ensures.items)
    (search rules) (search rules) (search rules) c.entries-seen.ensures.count c.requires.some few c.requires.numbers
