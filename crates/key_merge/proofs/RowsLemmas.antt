-- Rows whose first is at hand, and what is passed at a path.
use Rattle.std.proofs.Common.{◌≡◌, ℕ, Bool, true, false, not, cond, List, [], ◌∷◌, Some, None, Option, MatchOption, sym, ap, subst, refl, ◌∙◌}
use Rattle.std.specs.Borrow.{Bor}
use Rattle.std.specs.FinMap.{find}
use Rattle.std.specs.FinMap.Entries.{find-where_key, is_sorted-where_key}
use Rattle.std.specs.Ordering.{is_lt}
use Rattle.std.specs.Str.{bytes_eq}
use Rattle.lake_base.specs.Maps.{byte_order, HasAscendingKeys}
use Rattle.lake_base.proofs.MapsLemmas.{same_key}
use Rattle.lake_values.specs.Cursor.{entries_from}
use Rattle.lake_values.specs.Entry.{EntryValue}
use Rattle.lake_values.proofs.CursorLemmas.{ascends_from}
use Rattle.range_file.specs.Rows.{RowValue}
use Rattle.meta_range.specs.Ranges.{rows_above}
use Rattle.meta_range.proofs.CursorLemmas.{from_again, never_low, find_from, find_first, find_other, above_passed, above_stays, above_from}
use Rattle.key_merge.specs.MergeWalk.{rows_ahead}

-- the row that a cursor gives and what it has left are what it had
pub ahead_of : (first : Option (Bor (List ℕ) × Bor EntryValue)) (old new : List RowValue)
    → MatchOption first ((old ≡ []) × (new ≡ [])) (λ row. old ≡ (row.0.now, row.1.now) ∷ new) → rows_ahead first new ≡ old
ahead_of None old new gives = sym gives.0
ahead_of (Some row) old new gives = sym gives

pub is_not : (b : Bool) → not b ≡ true → b ≡ false
is_not true h = absurd cc
is_not false h = refl

pub is_so : (b : Bool) → not b ≡ false → b ≡ true
is_so true h = refl
is_so false h = absurd cc

-- what is found at a path, and what is left above it
pub record IsAtPath (path : List ℕ) (rows : List RowValue) (found : Option EntryValue) (left : List RowValue) : Type 0 where
  pub found_is : found ≡ find byte_order path rows
  pub left_is : left ≡ rows_above (Some path) rows

module _ (path : List ℕ) (rows from : List RowValue) (h : HasAscendingKeys rows) (is : from ≡ entries_from path rows) where
  found_from : find byte_order path from ≡ find byte_order path rows
  found_from = ap (find byte_order path) is ∙ sym (find_from path rows h)

  left_from : rows_above (Some path) from ≡ rows_above (Some path) rows
  left_from = ap (rows_above (Some path)) is ∙ above_from path rows h

  ascends : HasAscendingKeys from
  ascends = subst HasAscendingKeys (sym is) (ascends_from path rows h)

  again : entries_from path from ≡ from
  again = ap (entries_from path) is ∙ from_again path rows h ∙ sym is

  -- where none is left from the path on
  pub at_end : from ≡ [] → IsAtPath path rows None from
  at_end none = record {
    found_is = sym (ap (find byte_order path) none) ∙ found_from;
    left_is = none ∙ sym (ap (rows_above (Some path)) none) ∙ left_from;
  }

  -- where the first from there on is another
  pub at_other : (row : RowValue) (after : List RowValue) → from ≡ row ∷ after → bytes_eq row.0 path ≡ false → IsAtPath path rows None from
  at_other row after first other =
      let sorted : HasAscendingKeys (row ∷ after) = subst HasAscendingKeys first ascends in
      let never = never_low path row after (subst (λ l. entries_from path l ≡ l) first again) in
      record {
        found_is = sym (find_other path row after sorted never other) ∙ sym (ap (find byte_order path) first) ∙ found_from;
        left_is = first ∙ above_stays path row after sorted never other ∙ sym (ap (rows_above (Some path)) first) ∙ left_from;
      }

  -- where it is the one at the path
  pub at_it : (row : RowValue) (after : List RowValue) → from ≡ row ∷ after → bytes_eq row.0 path ≡ true → IsAtPath path rows (Some row.1) after
  at_it row after first same =
      let sorted : HasAscendingKeys (row ∷ after) = subst HasAscendingKeys first ascends in
      record {
        found_is = sym (find_first path row after same) ∙ sym (ap (find byte_order path) first) ∙ found_from;
        left_is = above_passed path row after sorted same ∙ sym (ap (rows_above (Some path)) first) ∙ left_from;
      }

-- above a path is found what was found, and nothing at or below it
pub find_above : (path q : List ℕ) (rows : List RowValue)
    → find byte_order q (rows_above (Some path) rows) ≡ cond (is_lt (byte_order path q)) (find byte_order q rows) None
find_above path q rows =
    find-where_key byte_order (λ k. is_lt (byte_order path k)) q (λ x tie. ap (λ k. is_lt (byte_order path k)) (sym (same_key q x tie))) rows

pub ascends_above : (path : List ℕ) (rows : List RowValue) → HasAscendingKeys rows → HasAscendingKeys (rows_above (Some path) rows)
ascends_above path rows h = is_sorted-where_key byte_order (λ k. is_lt (byte_order path k)) rows h
