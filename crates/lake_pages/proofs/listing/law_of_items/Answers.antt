use Rattle.lake_pages.proofs.ListingAllLemmas.{all_above_empty}
use Rattle.lake_pages.proofs.ListingItemLemmas.{listed_is, items_ascend, above_is}
use Rattle.lake_pages.proofs.listing.law_of_items.Goals as goal

pub returns : goal.returns
returns c = record { listed = listed_is; ascending = items_ascend; above = above_is; all = all_above_empty }
