use Rattle.std.proofs.Common.{◌≡◌, ◌∷◌, true, false, Some, ap, sym, subst, ◌∙◌}
use Rattle.std.specs.FinMap.{entries, entries_sorted}
use Rattle.std.specs.Map.Iter.{deref_pair}
use Rattle.std.specs.Option.{option_map}
use Rattle.std.specs.Ordering.{is_lt}
use Rattle.lake_base.specs.Maps.{HasAscendingKeys, byte_order}
use Rattle.lake_values.specs.Cursor.{entries_from}
use Rattle.lake_values.proofs.CursorLemmas.{seek_stays}
use Rattle.branch_record.specs.TokenRows.{AreFromFirst, rows_from}
use Rattle.branch_record.proofs.CursorLemmas.{Row, ascends_left, given_back, sought, stands_from}
use Rattle.branch_record.proofs.placed.PlacedCursor.seek.Goals as goal

pub returns-then-not-is_below : goal.returns-then-not-is_below
returns-then-not-is_below c =
    let least = c.args.least.now in
    let all = entries c.self.inside.placed.now in
    let rest = c.self.inside.rest in
    let row : Row = (c.in-Some.path.now, c.in-Some.field-0-1.now) in
    let whole : c.args.self.now ≡ row ∷ rest = sym c.self.view_is ∙ ap (λ first. rows_from (option_map deref_pair first) rest) c.in-Some.is in
    let stands : AreFromFirst (Some row) rest all = subst (λ first. AreFromFirst (option_map deref_pair first) rest all) c.in-Some.is c.self.invariant in
    let sorted : HasAscendingKeys (row ∷ rest) = ascends_left all (entries_sorted c.self.inside.placed.now) (Some row) rest stands in
    let never : is_lt (byte_order row.0 least) ≡ false = cc in
    whole ∙ sym (ap (entries_from least) whole ∙ seek_stays least row rest sorted never)

pub invariant_of-self : goal.invariant_of-self
invariant_of-self c =
    let placed = c.self.inside.placed.now in
    stands_from (entries placed) (entries_sorted placed) c.in-Ok.path c.next-self-inside.result c.iter_from-self-inside.result c.next-self-inside.new.self
    c.next-self-inside.ensures.steps c.iter_from-self-inside.ensures

pub returns-in-Ok : goal.returns-in-Ok
returns-in-Ok c =
    let least = c.args.least.now in
    let all = entries c.self.inside.placed.now in
    let rest = c.self.inside.rest in
    let row : Row = (c.in-Some.path.now, c.in-Some.field-0-1.now) in
    let whole : c.args.self.now ≡ row ∷ rest = sym c.self.view_is ∙ ap (λ first. rows_from (option_map deref_pair first) rest) c.in-Some.is in
    let stands : AreFromFirst (Some row) rest all = subst (λ first. AreFromFirst (option_map deref_pair first) rest all) c.in-Some.is c.self.invariant in
    let low : is_lt (byte_order row.0 least) ≡ true = cc in
    given_back c.next-self-inside.result c.iter_from-self-inside.result c.next-self-inside.new.self c.next-self-inside.ensures.steps
    ∙ c.iter_from-self-inside.ensures
    ∙ ap (λ path. entries_from path all) c.in-Ok.ensures.1
    ∙ sought all (entries_sorted c.self.inside.placed.now) least row rest stands low
    ∙ sym (ap (entries_from least) whole)
