use Rattle.std.proofs.Common.{rules, ◌≡◌, ◌++◌, [], ◌∷◌, MatchResult}
use Rattle.turn_lock.proofs.SeatsLemmas.{seat_after_step}
use Rattle.test_turns.proofs.turns.add.Goals as goal

pub returns-clause-mine : goal.returns-clause-mine
returns-clause-mine g c =
    let r = c.with_change.ensures.change in
    let did : MatchResult c.with_change.result
    (λ _. r.1.entries.items ≡ r.0.entries.items ++ (c.args.seat.now.number, c.args.number) ∷ [])
    (λ _. r.1.entries.items ≡ r.0.entries.items) = search rules in
    let seat = seat_after_step c.with_change.result (c.args.seat.now.number, c.args.number) r.0.entries.items r.1.entries.items r.2
    c.args.seat.now c.with_change.new.seat r.5.1 r.6 did in
    search (rules, seat)
