use Rattle.std.proofs.Common.{arith, ◌≡◌, ◌∷◌, [], List, ap, map, sym, subst, ◌∙◌}
use Rattle.std.proofs.lemmas.List.{with_items_is}
use Rattle.std.specs.FinMap.{entries_sorted}
use Rattle.std.specs.List.{AllByRecursion}
use Rattle.std.specs.Ordering.{is_lt}
use Rattle.lake_base.specs.Maps.{HasAscendingKeys, byte_order}
use Rattle.branch_record.specs.Joined.{AreAscending, IsFirst, Layer, changes_joined, rows_joined}
use Rattle.branch_record.specs.Layers.{rows_above}
use Rattle.branch_record.proofs.JoinedLemmas.{first_joined, kept_ascend, none_joined}
use Rattle.branch_record.proofs.joined.JoinedCursorChangeCursor.next.Goals as goal

pub returns-in_default-clause-change : goal.returns-in_default-clause-change
returns-in_default-clause-change c =
    let layers = c.self.inside.layers.items in
    let none : c.args.self.now ≡ [] =
    sym c.self.view_is ∙ none_joined layers (subst (λ (l : List Layer). AllByRecursion (λ layer. layer ≡ []) l) c.deref.ensures.value c.in_default.ensures) in
    (none, none)

pub returns-in_default-clause-ascend : goal.returns-in_default-clause-ascend
returns-in_default-clause-ascend c = subst HasAscendingKeys c.self.view_is (entries_sorted (changes_joined c.self.inside.layers.items))

pub invariant_of-self : goal.invariant_of-self
invariant_of-self c =
    let path = c.in-Some.path.now in
    let written = with_items_is c.self.inside.layers c.pass_each.new.layers (omega arith) in
    subst AreAscending (sym (written ∙ c.pass_each.ensures ∙ ap (map (rows_above path)) c.deref_mut.ensures.value))
    (kept_ascend (λ key. is_lt (byte_order path key)) c.self.inside.layers.items c.self.invariant)

pub returns-clause-change : goal.returns-clause-change
returns-clause-change c =
    let layers = c.self.inside.layers.items in
    let path = c.in-Some.path.now in
    let change = c.in-Some.change.now in
    let written = with_items_is c.self.inside.layers c.pass_each.new.layers (omega arith) in
    sym c.self.view_is
    ∙ first_joined layers path change c.self.invariant (subst (λ (l : List Layer). IsFirst l path change) c.deref.ensures.value c.in-Some.ensures)
    ∙ ap (λ (l : List Layer). (path, change) ∷ rows_joined l)
    (sym (written ∙ c.pass_each.ensures ∙ ap (map (rows_above path)) c.deref_mut.ensures.value))

pub returns-clause-ascend : goal.returns-clause-ascend
returns-clause-ascend c = subst HasAscendingKeys c.self.view_is (entries_sorted (changes_joined c.self.inside.layers.items))
