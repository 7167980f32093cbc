use Rattle.std.proofs.Common.{◌≡◌, ℕ, ◌<◌, ◌≤◌, [], length, Some, slice_get, vec_capacity}
use Rattle.turn_lock.specs.Seats.{new_seat}
use Rattle.turn_lock.specs.Rule.{dealer_view}
use Rattle.turn_lock.proofs.steps.deal.Given as goal

abbrev pub invariant-loop-number : goal.invariant-loop-number
invariant-loop-number g l =
    (l.place.table_id ≡ l.top.table_id)
    × (l.place.me ≡ (dealer_view g.S.Standing.origin g.S.Standing.list g.S.Standing.seat_of l.about.value.value l.seats l.number, []))
    × (length l.all.items ≡ l.number)
    × (l.seats ≤ vec_capacity l.all)
    × ((k : ℕ) → k < l.number
    → slice_get l.all.items k ≡ Some (new_seat g.S.Standing.origin g.S.Standing.list g.S.Standing.seat_of l.top.table_id l.about.value.value l.seats k))
