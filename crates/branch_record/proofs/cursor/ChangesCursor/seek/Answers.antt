use Rattle.std.proofs.Common.{ap, sym, subst, ◌∙◌}
use Rattle.std.specs.Map.Iter.{deref_pair}
use Rattle.std.specs.Option.{option_map}
use Rattle.lake_base.specs.Maps.{HasAscendingKeys}
use Rattle.lake_values.specs.Cursor.{entries_from}
use Rattle.lake_values.proofs.CursorLemmas.{ascends_from}
use Rattle.branch_record.specs.TokenRows.{put_row, rows_left}
use Rattle.branch_record.proofs.CursorLemmas.{from_put}
use Rattle.branch_record.proofs.cursor.ChangesCursor.seek.Goals as goal

pub invariant_of-self : goal.invariant_of-self
invariant_of-self c =
    let least = c.args.least.now in
    let waiting = option_map deref_pair c.self.inside.waiting in
    let rows = rows_left c.self.inside.placed in
    subst HasAscendingKeys (sym ((λ i. put_row (c.drop_below.ensures i) (c.seek_placed.ensures i)) ∙ sym (from_put least waiting rows)))
    (ascends_from least (put_row waiting rows) c.self.invariant)

pub returns : goal.returns
returns c =
    let least = c.args.least.now in
    let waiting = option_map deref_pair c.self.inside.waiting in
    let rows = rows_left c.self.inside.placed in
    (λ i. put_row (c.drop_below.ensures i) (c.seek_placed.ensures i)) ∙ sym (from_put least waiting rows) ∙ ap (entries_from least) c.self.view_is
