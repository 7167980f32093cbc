use Rattle.lake_pages.proofs.ListingPageLemmas.{all_pages}
use Rattle.lake_pages.proofs.listing.law_of_pages.Goals as goal

pub returns : goal.returns
returns c = all_pages
