use Rattle.std.proofs.Common.{◌≡◌, true, List, ◌++◌, All}
use mathlib.Core.List.{IsPrefix}
use Rattle.turn_lock.specs.Seats.{SeatValue}
use Rattle.turn_lock.specs.Rule.{IsSameSeat, IsHolding, IsSameWork, IsJoined}
use Rattle.turn_lock.proofs.steps.join_all.Given as goal

abbrev pub invariant-loop-other : goal.invariant-loop-other
invariant-loop-other g l =
    IsSameSeat l.initial.place l.place
    × IsHolding l.place.me
    × IsSameWork l.initial.place.me.0 l.place.me.0
    × All (λ s. s.turn ≡ l.top.table_id) l.seats.items
    × IsPrefix l.initial.place.me.0.seen l.place.me.0.seen
    × (l.initial.place.me.0.alone ≡ true → l.place.me.0 ≡ l.initial.place.me.0)
    × ((done : List (SeatValue g.row.S-Origin.Denot g.row.S-Entry.Denot)) × (l.fn.seats.items ≡ l.seats.items ++ done) × All (IsJoined l.place.me.0.kin) done)

abbrev pub decreases-loop-other : goal.decreases-loop-other
decreases-loop-other g l = goal.left-loop-other g l
