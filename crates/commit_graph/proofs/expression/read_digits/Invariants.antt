use Rattle.std.proofs.Common.{◌≡◌, ◌≤◌, ◌-◌, drop}
use Rattle.commit_graph.specs.Scanning.{number_from}
use Rattle.commit_graph.proofs.expression.read_digits.Given as goal

-- the digits that are left go on with the number so far
abbrev pub invariant-loop-at : goal.invariant-loop-at
invariant-loop-at l = record {
  so_far : number_from (10 - l.at) l.number (drop l.at l.bytes) ≡ number_from 10 0 l.bytes;
  few : l.at ≤ 10;
}
