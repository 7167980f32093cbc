use Rattle.std.proofs.Common.{◌≤◌, ◌+◌, ◌-◌, length, IfSome}
use Rattle.http_wire.specs.HeadSearch.{IsSearch, Reaches}
use Rattle.http_wire.proofs.heads.read_head.Given as goal

-- what was given has no more than a part of a head
abbrev pub invariant-reading : goal.invariant-reading
invariant-reading g l = record {
  search : IsSearch l.search l.buffer;
  told : IfSome (g.S.Source.left l.fn.source) (λ left. Reaches l.fn.buffer left l.search l.buffer (g.S.Source.left l.source));
  later : g.S.Source.faults l.fn.source ≤ g.S.Source.faults l.source;
}

abbrev pub decreases-reading : goal.decreases-reading
decreases-reading g l = 16384 - (l.search.skipped + length l.buffer)
