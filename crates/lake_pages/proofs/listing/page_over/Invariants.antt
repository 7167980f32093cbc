use Rattle.std.proofs.Common.{◌≡◌, ◌≤◌, ◌++◌, length}
use Rattle.lake_pages.specs.Listing.{items_left}
use Rattle.lake_pages.specs.ListingSteps.{IsRest}
use Rattle.lake_pages.proofs.listing.page_over.Given as goal

-- the items so far, and those still to come
abbrev pub invariant-loop-path : goal.invariant-loop-path
invariant-loop-path g l = record {
  whole : l.items.items ++ items_left l.query (g.C.EntriesLeft.left l.cursor) ≡ items_left l.query (g.C.EntriesLeft.left l.fn.cursor);
  room : length l.items.items ≤ l.query.amount;
  rest : IsRest l.query (g.C.EntriesLeft.left l.cursor);
}

abbrev pub decreases-loop-path : goal.decreases-loop-path
decreases-loop-path g l = length (g.C.EntriesLeft.left l.cursor)
