-- What is said of the ranges of rows whose paths ascend is in order.
use Rattle.std.proofs.Common.{T, ◌≡◌, ℕ, zero, suc, ◌-◌, ◌<◌, false, List, [], ◌∷◌, ◌++◌, length, get_or, take, drop, map, refl, sym, ap, subst, ◌∙◌, arith}
use Rattle.std.specs.FinMap.Entries.{below_all}
use Rattle.std.specs.List.{AllByRecursion}
use Rattle.std.specs.Ordering.{is_gt}
use Rattle.std.specs.declared.cmp.Ordering.TheVariants.{Less}
use Rattle.std.proofs.lemmas.Cmp.{nat_list_cmp_total, tied_itself}
use Rattle.std.proofs.lemmas.List.{length-take}
use Rattle.lake_values.specs.Entry.{EntryValue}
use Rattle.lake_base.specs.Maps.{byte_order, HasAscendingKeys}
use Rattle.lake_format.specs.Spelling.{path_at, line_of, IsSpan, IsBelowNext, FollowOn, AreInOrder}
use Rattle.lake_format.specs.Cutting.{first_len, ranges_within, ranges}
use Rattle.lake_format.specs.declared.cut.Cut.{Cut}
use Rattle.lake_format.specs.declared.range_line.RangeLine.{RangeLine}
use Rattle.lake_base.proofs.MapsLemmas.{second, below_at, head_below, tail_ascends, ascends_drop}
use Rattle.lake_format.proofs.CutLemmas.{first_some, first_below}
use Rattle.plain_reference.proofs.FilesLemmas.{path_is, all_done, ascends_take}

-- what holds of all holds of the one at a place
pub all_at : {X : Type 0} (P : X → Type 0) (xs : List X) (i : ℕ) (x : X) → i < length xs → x ≡ get_or xs i x → AllByRecursion P xs → P x
all_at P [] i x lt is all = absurd (omega arith)
all_at P (y ∷ xs) zero x lt is all = subst P (sym is) all.0
all_at P (y ∷ xs) (suc i) x lt is all = all_at P xs i x (omega arith) is all.1

-- a key below all keys is below those after a front
below_drop : (key : List ℕ) (n : ℕ) (rows : List (List ℕ × EntryValue)) → T (below_all byte_order key rows) → T (below_all byte_order key (drop n rows))
below_drop key zero rows h = h
below_drop key (suc n) [] h = h
below_drop key (suc n) (row ∷ rows) h = below_drop key n rows (second _ _ h)

-- no path is below the first
at_least_first : (rows : List (List ℕ × EntryValue)) (i : ℕ) (d : List ℕ × EntryValue) → HasAscendingKeys rows → i < length rows
    → is_gt (byte_order (get_or rows 0 d).0 (get_or rows i d).0) ≡ false
at_least_first [] i d h lt = absurd (omega arith)
at_least_first (row ∷ rows) zero d h lt = ap is_gt (tied_itself nat_list_cmp_total row.0)
at_least_first (row ∷ rows) (suc i) d h lt = ap is_gt (below_at row.0 rows i d (head_below row rows h) (omega arith))

-- each path of a front is below the first path after it
front_below : (n : ℕ) (rows : List (List ℕ × EntryValue)) (i : ℕ) (d : List ℕ × EntryValue) → HasAscendingKeys rows → i < length (take n rows)
    → 0 < length (drop n rows)
    → byte_order (get_or (take n rows) i d).0 (get_or (drop n rows) 0 d).0 ≡ Less
front_below zero rows i d h lt some = absurd (omega arith)
front_below (suc n) [] i d h lt some = absurd (omega arith)
front_below (suc n) (row ∷ rows) zero d h lt some = below_at row.0 (drop n rows) 0 d (below_drop row.0 n rows (head_below row rows h)) some
front_below (suc n) (row ∷ rows) (suc i) d h lt some = front_below n rows i d (tail_ascends row rows h) (omega arith) some

-- a front of some rows has the same first path
first_of_front : (n : ℕ) (row : List ℕ × EntryValue) (rows : List (List ℕ × EntryValue)) → 0 < n → path_at (take n (row ∷ rows)) 0 ≡ row.0
first_of_front zero row rows lt = absurd (omega arith)
first_of_front (suc n) row rows lt = refl

-- what is said of rows that ascend
span_of : (rows : List (List ℕ × EntryValue)) → 0 < length rows → HasAscendingKeys rows → IsSpan (line_of rows)
unfolding line_of
span_of [] some h = absurd (omega arith)
span_of (row ∷ rows) some h = record {
  some = omega arith;
  order =
      sym (ap (λ p. is_gt (byte_order row.0 p)) (path_is (row ∷ rows) (length (row ∷ rows) - 1) row (omega arith)))
      ∙ at_least_first (row ∷ rows) (length (row ∷ rows) - 1) row h (omega arith);
}

-- the first range has rows
front_some : (cut : Cut) (row : List ℕ × EntryValue) (rows : List (List ℕ × EntryValue)) → 0 < length (take (first_len cut (row ∷ rows)) (row ∷ rows))
front_some cut row rows =
    let some = first_some cut row rows in
    let below = first_below cut (row ∷ rows) in
    let long = length-take (first_len cut (row ∷ rows)) (row ∷ rows) in
    omega arith

-- what is said of each range, for at most so many ranges
spans_within : (cut : Cut) (n : ℕ) (rows : List (List ℕ × EntryValue)) → HasAscendingKeys rows → AllByRecursion IsSpan (map line_of (ranges_within n cut rows))
spans_within cut zero rows h = tt
spans_within cut (suc n) [] h = tt
spans_within cut (suc n) (row ∷ rows) h = (
  span_of (take (first_len cut (row ∷ rows)) (row ∷ rows)) (front_some cut row rows) (ascends_take (first_len cut (row ∷ rows)) (row ∷ rows) h),
  spans_within cut n (drop (first_len cut (row ∷ rows)) (row ∷ rows)) (ascends_drop (first_len cut (row ∷ rows)) (row ∷ rows) h),
)

-- a path below the first row is below the first path of what is said of the ranges
below_next : (cut : Cut) (n : ℕ) (path : List ℕ) (rows : List (List ℕ × EntryValue))
    → ((d : List ℕ × EntryValue) → 0 < length rows → byte_order path (get_or rows 0 d).0 ≡ Less)
    → IsBelowNext path (map line_of (ranges_within n cut rows))
unfolding line_of
below_next cut zero path rows lt = tt
below_next cut (suc n) path [] lt = tt
below_next cut (suc n) path (row ∷ rows) lt =
    ap (byte_order path) (first_of_front (first_len cut (row ∷ rows)) row rows (first_some cut row rows)) ∙ lt row (omega arith)

-- the last path of a front is below the first path of what is said of the ranges after it
last_below : (cut : Cut) (n m : ℕ) (rows : List (List ℕ × EntryValue)) → HasAscendingKeys rows → 0 < length (take n rows)
    → IsBelowNext (line_of (take n rows)).last (map line_of (ranges_within m cut (drop n rows)))
unfolding line_of
last_below cut n m rows h some =
    below_next cut m (path_at (take n rows) (length (take n rows) - 1)) (drop n rows) (λ d left.
    sym (ap (λ p. byte_order p (get_or (drop n rows) 0 d).0) (path_is (take n rows) (length (take n rows) - 1) d (omega arith)))
    ∙ front_below n rows (length (take n rows) - 1) d h (omega arith) left)

-- each range is above the one before, for at most so many ranges
follow_within : (cut : Cut) (n : ℕ) (rows : List (List ℕ × EntryValue)) → HasAscendingKeys rows → FollowOn (map line_of (ranges_within n cut rows))
follow_within cut zero rows h = tt
follow_within cut (suc n) [] h = tt
follow_within cut (suc n) (row ∷ rows) h = (
  last_below cut (first_len cut (row ∷ rows)) n (row ∷ rows) h (front_some cut row rows),
  follow_within cut n (drop (first_len cut (row ∷ rows)) (row ∷ rows)) (ascends_drop (first_len cut (row ∷ rows)) (row ∷ rows) h),
)

-- what is said of the ranges of rows that ascend
pub in_order : (cut : Cut) (rows : List (List ℕ × EntryValue)) → HasAscendingKeys rows → AreInOrder (map line_of (ranges cut rows))
unfolding ranges
in_order cut rows h = record { spans = spans_within cut (length rows) rows h; follow = follow_within cut (length rows) rows h }

-- the lines are in order once no row is left
pub lines_in_order : (cut : Cut) (rows rest : List (List ℕ × EntryValue)) (lines : List RangeLine)
    → HasAscendingKeys rows → rest ≡ [] → lines ++ map line_of (ranges cut rest) ≡ map line_of (ranges cut rows) → AreInOrder lines
lines_in_order cut rows rest lines h none said =
    subst AreInOrder (sym (all_done line_of cut rows rest lines none said)) (in_order cut rows h)
