use Rattle.std.proofs.Common.{◌++◌, length, ap, ◌∙◌, arith}
use Rattle.lake_pages.specs.Listing.{items_left}
use Rattle.lake_pages.proofs.ListingStepLemmas.{starts_page, some_left, full_is, page_full}
use Rattle.lake_pages.proofs.listing.page_over.Goals as goal

pub loop-path-init : goal.loop-path-init
loop-path-init g c =
    let query = c.args.query.now in
    let start = starts_page query c.as_slice.result.now (g.C.EntriesLeft.left c.args.cursor) (g.C.EntriesLeft.left c.seek.new.self)
    (c.as_slice.ensures.value ∙ c.in_ok-page_start.ensures) c.seek.ensures.from c.seek.ensures.ascend in
    record {
      whole = ap (λ l. l ++ items_left query (g.C.EntriesLeft.left c.seek.new.self)) c.new-items.ensures.items ∙ start.0;
      room = omega (arith, ap length c.new-items.ensures.items);
      rest = start.1;
    }

pub returns-then-as_slice-query-clause-more : goal.returns-then-as_slice-query-clause-more
returns-then-as_slice-query-clause-more g c =
    let query = c.args.query.now in
    let left = g.C.EntriesLeft.left c.loop-path.cursor in
    let full = full_is c.loop-path.items.items c.as_slice-in-Some.result.now query.amount c.as_slice-in-Some.ensures.value c.if-as_slice-query.true
    c.loop-path.invariant.room in
    let some = some_left query left (g.C.EntriesLeft.left c.next_listed.new.cursor)
    (c.in-Some.path.now, c.in-Some.entry.now) c.in-Some.ensures.0 c.loop-path.invariant.rest c.in-Some.ensures.1 in
    (page_full c.loop-path.items.items (items_left query (g.C.EntriesLeft.left c.args.cursor))
    (items_left query left) query.amount c.loop-path.invariant.whole full some).1
