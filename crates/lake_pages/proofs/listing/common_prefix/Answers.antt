use Rattle.std.proofs.Common.{◌≡◌, ◌<◌, length, Some, sym, subst, ◌∙◌}
use Rattle.lake_pages.specs.Listing.{common_prefix}
use Rattle.lake_pages.proofs.ListingPrefixLemmas.{common_found, common_some, common_utf8, not_empty}
use Rattle.lake_pages.proofs.listing.common_prefix.Goals as goal

found : (c : goal.After-result-1) → common_prefix c.args.query.now.prefix c.args.query.now.delimiter c.args.key.now ≡ Some c.split_at-in-Some.result.0.now
found c =
    common_found c.args.query.now.prefix c.args.query.now.delimiter c.args.key.now c.as_slice-start.result.now c.as_bytes-delimiter.result.now
    c.split_at.result.1.now c.split_at-in-Some.result.0.now c.in-Some.end
    c.as_slice-start.ensures (c.as_bytes-delimiter.ensures.value ∙ c.as_str.ensures.bytes) c.split_at.ensures.back c.split_at-in-Some.ensures.front
    (not_empty c.as_bytes-delimiter.result.now c.if-is_empty.ensures) c.requires.under c.in-Some.ensures.0 c.in-Some.ensures.1

pub returns-in-Some-clause-name : goal.returns-in-Some-clause-name
returns-in-Some-clause-name c = sym (found c)

pub returns-in-Some-clause-utf8 : goal.returns-in-Some-clause-utf8
returns-in-Some-clause-utf8 c =
    let some : 0 < length c.args.query.now.delimiter =
    subst (λ d. 0 < length d) (c.as_bytes-delimiter.ensures.value ∙ c.as_str.ensures.bytes) (not_empty c.as_bytes-delimiter.result.now c.if-is_empty.ensures) in
    common_utf8 c.args.query.now.prefix c.args.query.now.delimiter c.args.key.now c.split_at-in-Some.result.0.now c.requires.utf8 c.as_str.ensures.utf8 some
    c.requires.under (found c)

pub returns-in-Some-clause-some : goal.returns-in-Some-clause-some
returns-in-Some-clause-some c = common_some c.args.query.now.prefix c.args.query.now.delimiter c.args.key.now c.split_at-in-Some.result.0.now (found c)
