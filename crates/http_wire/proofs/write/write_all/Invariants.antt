use Rattle.std.proofs.Common.{◌≡◌, ◌++◌, ◌≤◌, IfSome, Some, List, ℕ, length}
use Rattle.http_wire.proofs.write.write_all.Given as goal

-- what was sent and what is left are the bytes
abbrev pub invariant-loop-left : goal.invariant-loop-left
invariant-loop-left g l = record {
  sent : IfSome (g.W.Sink.written l.fn.sink) (λ before. (out : List ℕ) × (out ++ l.left ≡ l.bytes) × (g.W.Sink.written l.sink ≡ Some (before ++ out)));
  later : g.W.Sink.faults l.fn.sink ≤ g.W.Sink.faults l.sink;
}

abbrev pub decreases-loop-left : goal.decreases-loop-left
decreases-loop-left g l = length l.left
