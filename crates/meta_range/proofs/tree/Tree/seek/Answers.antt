use Rattle.std.proofs.Common.{◌≡◌, Some, ap, sym, ◌∙◌}
use Rattle.std.specs.FinMap.{entries, entries_sorted}
use Rattle.std.specs.Option.{option_copied}
use Rattle.lake_values.specs.Cursor.{entries_from}
use Rattle.meta_range.specs.Ranges.{rows_above}
use Rattle.meta_range.proofs.CursorLemmas.{from_again, above_from}
use Rattle.meta_range.proofs.tree.Tree.seek.Goals as goal

pub pass-requires : goal.pass-requires
pass-requires c =
    let path = c.in-Some.path.now in
    let rows = entries c.args.self.now.map in
    let from : c.seek.new.self ≡ entries_from path rows =
    c.seek.ensures.from ∙ ap (λ p. entries_from p c.cursor-cursor.result) c.as_slice.ensures.bytes ∙ ap (entries_from path) c.cursor-cursor.ensures in
    ap (entries_from path) from ∙ from_again path rows (entries_sorted c.args.self.now.map) ∙ sym from

pub returns-in-Some : goal.returns-in-Some
returns-in-Some c =
    let path = c.in-Some.path.now in
    let rows = entries c.args.self.now.map in
    let from : c.seek.new.self ≡ entries_from path rows =
    c.seek.ensures.from ∙ ap (λ p. entries_from p c.cursor-cursor.result) c.as_slice.ensures.bytes ∙ ap (entries_from path) c.cursor-cursor.ensures in
    c.pass.ensures ∙ ap (rows_above (Some path)) from ∙ above_from path rows (entries_sorted c.args.self.now.map)
    ∙ ap (λ above. rows_above above rows) (sym (ap option_copied c.in-Some.is))
