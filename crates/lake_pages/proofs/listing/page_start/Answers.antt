use Rattle.std.proofs.Common.{ap, ◌∙◌}
use Rattle.std.specs.Str.{is_utf8}
use Rattle.lake_pages.proofs.listing.page_start.Goals as goal

pub common_prefix-requires-clause-utf8 : goal.common_prefix-requires-clause-utf8
common_prefix-requires-clause-utf8 c = ap is_utf8 (c.as_bytes-after.ensures.value ∙ c.as_str.ensures.bytes) ∙ c.as_str.ensures.utf8
