use Rattle.std.proofs.Common.{◌≡◌, ◌+◌, length}
use Rattle.test_turns.proofs.turns.fill.Given as goal

abbrev pub invariant-loop-number : goal.invariant-loop-number
invariant-loop-number g l = (l.seat.turn ≡ l.fn.seat.turn) × (length l.seat.mine ≡ length l.fn.seat.mine + l.number)
