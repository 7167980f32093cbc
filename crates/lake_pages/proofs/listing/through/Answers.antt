use Rattle.std.proofs.Common.{sym, nat_eq, ap, ◌∙◌}
use Rattle.std.specs.List.{starts_with}
use Rattle.lake_pages.proofs.ListingPrefixLemmas.{through_here, through_on}
use Rattle.lake_pages.proofs.listing.through.Goals as goal

pub returns-then-starts_with : goal.returns-then-starts_with
returns-then-starts_with c =
    through_here c.args.delimiter.now c.args.bytes.now c.loop-at.at c.loop-at-test.true
    (ap (λ l. starts_with nat_eq l c.args.delimiter.now) (sym c.split_at.ensures.back) ∙ sym c.starts_with.ensures.value ∙ c.if-starts_with.true)
    c.loop-at.invariant

pub loop-at-preserved : goal.loop-at-preserved
loop-at-preserved c =
    through_on c.args.delimiter.now c.args.bytes.now c.loop-at.at c.loop-at-test.true
    (ap (λ l. starts_with nat_eq l c.args.delimiter.now) (sym c.split_at.ensures.back) ∙ sym c.starts_with.ensures.value ∙ c.if-starts_with.false)
    c.loop-at.invariant
