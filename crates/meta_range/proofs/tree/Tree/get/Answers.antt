use Rattle.std.proofs.Common.{◌≡◌, Bool, true, false, not, refl, ap, sym, subst, ◌∙◌}
use Rattle.std.specs.FinMap.{entries, entries_sorted, find, get-entries}
use Rattle.std.specs.Str.{bytes_eq}
use Rattle.lake_base.specs.Maps.{byte_order, HasAscendingKeys}
use Rattle.lake_values.specs.Cursor.{entries_from}
use Rattle.range_file.specs.Rows.{RowValue}
use Rattle.meta_range.proofs.CursorLemmas.{find_from, find_first, find_other, from_again, never_low}
use Rattle.meta_range.proofs.tree.Tree.get.Goals as goal

pub returns-in-None : goal.returns-in-None
returns-in-None c =
    let path = c.args.path.now in
    let objects = c.args.self.now.map in
    let from : c.seek.new.self ≡ entries_from path (entries objects) =
    c.seek.ensures.from ∙ ap (λ p. entries_from p c.cursor-cursor.result) c.as_slice.ensures.bytes ∙ ap (entries_from path) c.cursor-cursor.ensures in
    sym
    (get-entries objects path ∙ find_from path (entries objects) (entries_sorted objects) ∙ ap (find byte_order path) (sym from ∙ c.in-None.ensures.entry.0))

is_not : (b : Bool) → not b ≡ true → b ≡ false
is_not true h = absurd cc
is_not false h = refl

is_so : (b : Bool) → not b ≡ false → b ≡ true
is_so true h = refl
is_so false h = absurd cc

pub returns-then-ne : goal.returns-then-ne
returns-then-ne c =
    let path = c.args.path.now in
    let objects = c.args.self.now.map in
    let row : RowValue = (c.in-Some.found.now, c.in-Some.entry.now) in
    let rest = c.next.new.self in
    let from : c.seek.new.self ≡ entries_from path (entries objects) =
    c.seek.ensures.from ∙ ap (λ p. entries_from p c.cursor-cursor.result) c.as_slice.ensures.bytes ∙ ap (entries_from path) c.cursor-cursor.ensures in
    let first = sym from ∙ c.in-Some.ensures.entry in
    let other = is_not (bytes_eq c.in-Some.found.now path) (sym c.ne.ensures ∙ c.if-ne.true) in
    let never = never_low path row rest (subst (λ rows. entries_from path rows ≡ rows) first (from_again path (entries objects) (entries_sorted objects))) in
    sym (get-entries objects path ∙ find_from path (entries objects) (entries_sorted objects) ∙ ap (find byte_order path) first
    ∙ find_other path row rest (subst HasAscendingKeys c.in-Some.ensures.entry c.in-Some.ensures.ascend) never other)

pub returns-else-ne : goal.returns-else-ne
returns-else-ne c =
    let path = c.args.path.now in
    let objects = c.args.self.now.map in
    let row : RowValue = (c.in-Some.found.now, c.in-Some.entry.now) in
    let rest = c.next.new.self in
    let from : c.seek.new.self ≡ entries_from path (entries objects) =
    c.seek.ensures.from ∙ ap (λ p. entries_from p c.cursor-cursor.result) c.as_slice.ensures.bytes ∙ ap (entries_from path) c.cursor-cursor.ensures in
    let first = sym from ∙ c.in-Some.ensures.entry in
    let same = is_so (bytes_eq c.in-Some.found.now path) (sym c.ne.ensures ∙ c.if-ne.false) in
    sym (get-entries objects path ∙ find_from path (entries objects) (entries_sorted objects) ∙ ap (find byte_order path) first ∙ find_first path row rest same)
