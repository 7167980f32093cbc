use Rattle.std.proofs.Common.{arith, ap, map, not, sym, subst, ◌∙◌}
use Rattle.std.proofs.lemmas.List.{with_items_is}
use Rattle.std.specs.FinMap.{entries_sorted}
use Rattle.std.specs.Ordering.{is_lt}
use Rattle.lake_base.specs.Maps.{HasAscendingKeys, byte_order}
use Rattle.lake_values.specs.Cursor.{entries_from}
use Rattle.branch_record.specs.Joined.{AreAscending, changes_joined, rows_joined}
use Rattle.branch_record.proofs.JoinedLemmas.{kept_ascend, rows_kept}
use Rattle.branch_record.proofs.joined.JoinedCursorChangeCursor.seek.Goals as goal

pub invariant_of-self : goal.invariant_of-self
invariant_of-self c =
    let least = c.args.least.now in
    let written = with_items_is c.self.inside.layers c.seek_each.new.layers (omega arith) in
    subst AreAscending (sym (written ∙ c.seek_each.ensures ∙ ap (map (entries_from least)) c.deref_mut.ensures.value))
    (kept_ascend (λ key. not (is_lt (byte_order key least))) c.self.inside.layers.items c.self.invariant)

pub returns-clause-from : goal.returns-clause-from
returns-clause-from c =
    let least = c.args.least.now in
    let written = with_items_is c.self.inside.layers c.seek_each.new.layers (omega arith) in
    ap rows_joined (written ∙ c.seek_each.ensures ∙ ap (map (entries_from least)) c.deref_mut.ensures.value)
    ∙ rows_kept (λ key. not (is_lt (byte_order key least))) c.self.inside.layers.items c.self.invariant
    ∙ ap (entries_from least) c.self.view_is

pub returns-clause-ascend : goal.returns-clause-ascend
returns-clause-ascend c = subst HasAscendingKeys c.self.view_is (entries_sorted (changes_joined c.self.inside.layers.items))
