use Rattle.std.proofs.Common.{◌≡◌, ◌≤◌, ◌+◌, ◌-◌, drop}
use Rattle.commit_graph.specs.Scanning.{tail_len}
use Rattle.commit_graph.proofs.expression.tail_len.Given as goal

-- those so far, and those still to come, are all
abbrev pub invariant-loop-at : goal.invariant-loop-at
invariant-loop-at l = record {
  so_far : l.at + tail_len (254 - l.at) (drop l.at l.bytes) ≡ tail_len 254 l.bytes;
  few : l.at ≤ 254;
}
