use Rattle.std.proofs.Common.{ap, sym, ◌∙◌}
use Rattle.lake_values.specs.Cursor.{entries_from}
use Rattle.lake_pages.specs.Listing.{common_prefix}
use Rattle.lake_pages.proofs.ListingStepLemmas.{object_listed, prefix_listed}
use Rattle.lake_pages.proofs.listing.item_at.Goals as goal

pub returns-in_default : goal.returns-in_default
returns-in_default g c =
    rw (c.in_ok-path.ensures.equal, c.in_ok-entry.ensures.equal)
    (object_listed c.args.query.now (c.args.path.now, c.args.entry.now) (g.C.EntriesLeft.left c.args.cursor.now) c.requires.rest c.requires.under
    (ap (common_prefix c.args.query.now.prefix c.args.query.now.delimiter) (sym c.as_slice.ensures.bytes) ∙ sym c.in_default.ensures.name))

pub returns : goal.returns
returns g c =
    rw c.in_ok-text.ensures
    (prefix_listed c.args.query.now (c.args.path.now, c.args.entry.now) (g.C.EntriesLeft.left c.args.cursor.now)
    (g.C.EntriesLeft.left c.seek.new.self) c.in-Some.name.now c.requires.rest c.requires.under
    (ap (common_prefix c.args.query.now.prefix c.args.query.now.delimiter) (sym c.as_slice.ensures.bytes) ∙ sym c.in-Some.ensures.name)
    (c.seek.ensures.from ∙ ap (λ l. entries_from l (g.C.EntriesLeft.left c.args.cursor.now)) (c.as_slice-2.ensures.value ∙ c.in_ok-name_end.ensures)))
