use Rattle.std.proofs.Common.{◌≡◌, ℕ, Bool, false, List, nat_eq, ap, sym, ◌∙◌}
use Rattle.std.specs.List.{starts_with}
use Rattle.lake_pages.proofs.ListingStepLemmas.{none_left, other_left}
use Rattle.lake_pages.proofs.listing.next_listed.Goals as goal

-- what a test of two slices says of what they show
begins_not : (path slice prefix prefix_slice : List ℕ) (b : Bool) → slice ≡ path → prefix_slice ≡ prefix → b ≡ starts_with nat_eq slice prefix_slice → b ≡ false
    → starts_with nat_eq path prefix ≡ false
begins_not path slice prefix prefix_slice b is prefix_is tested never =
    ap (λ k. starts_with nat_eq k prefix) (sym is) ∙ ap (starts_with nat_eq slice) (sym prefix_is) ∙ sym tested ∙ never

pub returns-in_default : goal.returns-in_default
returns-in_default g c = none_left c.args.query.now (g.C.EntriesLeft.left c.args.cursor.now) c.in_default.ensures.entry.0

pub returns-then-not-starts_with : goal.returns-then-not-starts_with
returns-then-not-starts_with g c =
    let path : List ℕ = c.in-Some.path.now in
    let other = begins_not path c.as_slice.result.now c.args.query.now.prefix c.as_slice-2.result.now c.starts_with.result c.as_slice.ensures.bytes
    c.as_slice-2.ensures c.starts_with.ensures.value c.if-not-starts_with.true in
    other_left c.args.query.now (g.C.EntriesLeft.left c.args.cursor.now) (g.C.EntriesLeft.left c.next.new.self)
    (path, c.in-Some.entry.now) c.in-Some.ensures.entry c.requires
    other
