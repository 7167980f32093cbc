use Rattle.std.proofs.Common.{◌≤◌, ◌-◌, length}
use Rattle.http_wire.specs.HeadSearch.{HasNoEnd}
use Rattle.http_wire.proofs.heads.head_end.Given as goal

-- no end was passed
abbrev pub invariant-lines : goal.invariant-lines
invariant-lines l = record {
  none : HasNoEnd l.bytes l.start;
  within : l.start ≤ length l.bytes;
}

abbrev pub decreases-lines : goal.decreases-lines
decreases-lines l = length l.bytes - l.start
