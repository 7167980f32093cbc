use Rattle.std.proofs.Common.{◌≡◌, ◌+◌, ℕ, List, length}
use Rattle.http_wire.specs.HeadSearch.{IsSearch, IsGiven}
use Rattle.http_wire.proofs.heads.skip_pairs.Given as goal

-- the same was given, and no end was passed
abbrev pub invariant-loop-search : goal.invariant-loop-search
invariant-loop-search l = record {
  search : IsSearch l.search l.buffer;
  total : l.search.skipped + length l.buffer ≡ l.fn.search.skipped + length l.fn.buffer;
  given : (given : List ℕ) → IsGiven given l.fn.search l.fn.buffer → IsGiven given l.search l.buffer;
}

abbrev pub decreases-loop-search : goal.decreases-loop-search
decreases-loop-search l = length l.buffer
