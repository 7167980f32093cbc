-- The ranges of rows are those of their segments.
use Rattle.std.proofs.Common.{◌≡◌, ℕ, zero, suc, ◌+◌, ◌-◌, ◌<◌, ◌≤◌, Bool, true, false, not, ◌&&◌, List, [], ◌∷◌, ◌++◌, length, take, drop, refl, sym, ap, ◌∙◌}
use Rattle.std.proofs.Common.{arith, inl, inr}
use Rattle.std.specs.List.{flat_map}
use Rattle.std.proofs.lemmas.Bool.{cases_Bool}
use Rattle.std.proofs.lemmas.List.{append-nil, length-append, length-drop, take-append-le, drop-append-le}
use Rattle.std.proofs.lemmas.List.Folds.{list_all-append}
use Rattle.std.proofs.Math.Seq.{drop-nil, take-append-add}
use Rattle.lake_format.specs.declared.cut.Cut.{Cut}
use Rattle.lake_format.specs.Cutting.{is_break, is_range, longest_front, first_len, ranges, segments, segments_with}
use Rattle.lake_format.proofs.CutLemmas.{first_some, first_below, ranges_none, ranges_cons}
use Rattle.plain_reference.proofs.SegmentRunLemmas.{Row, unbroken}

-- ---- the first range

-- rows that end with a break key, or none
abbrev ends : Cut → List Row → Bool
ends cut [] = true
ends cut (row ∷ []) = is_break cut row.0
ends cut (row ∷ next ∷ rows) = ends cut (next ∷ rows)

ends_broken : (cut : Cut) (s : List Row) → 0 < length s → ends cut s ≡ true → unbroken cut s ≡ false
ends_broken cut [] some h = absurd (omega arith)
ends_broken cut (row ∷ []) some h = rw h refl
ends_broken cut (row ∷ next ∷ rows) some h =
    rw (ends_broken cut (next ∷ rows) (omega arith) h) (and_no (not (is_break cut row.0)))
  where
    and_no : (b : Bool) → (b && false) ≡ false
    and_no true = refl
    and_no false = refl

ends_drop : (cut : Cut) (n : ℕ) (s : List Row) → ends cut s ≡ true → ends cut (drop n s) ≡ true
ends_drop cut zero s h = h
ends_drop cut (suc n) [] h = refl
ends_drop cut (suc n) (row ∷ []) h = ap (ends cut) (drop-nil n)
ends_drop cut (suc n) (row ∷ next ∷ rows) h = ends_drop cut n (next ∷ rows) h

-- no range goes on after a break key
over_no_range : (cut : Cut) (s r : List Row) → unbroken cut s ≡ false → 0 < length r → is_range cut (s ++ r) ≡ false
over_no_range cut s r broken some =
    let long = length-append s r in
    let e : length (s ++ r) - 1 ≡ length s + (length r - 1) = omega arith in
    rw (e, take-append-add s r (length r - 1), list_all-append (λ (row : Row). not (is_break cut row.0)) s (take (length r - 1) r), broken) refl

longest_same : (cut : Cut) (s r : List Row) (n : ℕ) → n ≤ length s → longest_front cut (s ++ r) n ≡ longest_front cut s n
longest_same cut s r zero below = refl
longest_same cut s r (suc n) below = rw (take-append-le (suc n) s r below, longest_same cut s r n (omega arith)) refl

longest_over : (cut : Cut) (s r : List Row) (k : ℕ) → unbroken cut s ≡ false → k ≤ length r
    → longest_front cut (s ++ r) (length s + k) ≡ longest_front cut (s ++ r) (length s)
longest_over cut s r zero broken below = ap (longest_front cut (s ++ r)) (omega arith)
longest_over cut s r (suc k) broken below =
    let e : length s + suc k ≡ suc (length s + k) = omega arith in
    ap (longest_front cut (s ++ r)) e
    ∙ rw (sym e, take-append-add s r (suc k), over_no_range cut s (take (suc k) r) broken (some r below)) (longest_over cut s r k broken (omega arith))
  where
    some : (r : List Row) → suc k ≤ length r → 0 < length (take (suc k) r)
    some [] h = absurd (omega arith)
    some (row ∷ rows) h = omega arith

first_over : (cut : Cut) (s r : List Row) → unbroken cut s ≡ false → first_len cut (s ++ r) ≡ first_len cut s
unfolding first_len
first_over cut s r broken =
    ap (longest_front cut (s ++ r)) (length-append s r)
    ∙ longest_over cut s r (length r) broken (omega arith)
    ∙ longest_same cut s r (length s) (omega arith)

-- ---- the ranges

-- rows that end with a break key are cut alone
ranges_over : (cut : Cut) (n : ℕ) (s r : List Row) → length s ≤ n → ends cut s ≡ true → ranges cut (s ++ r) ≡ ranges cut s ++ ranges cut r
ranges_over cut n [] r enough h = rw (ranges_none cut) refl
ranges_over cut zero (row ∷ rows) r enough h = absurd (omega arith)
ranges_over cut (suc n) (row ∷ rows) r enough h =
    let s : List Row = row ∷ rows in
    let first = first_len cut s in
    let same = first_over cut s r (ends_broken cut s (omega arith) h) in
    let some = first_some cut row rows in
    let below = first_below cut s in
    let shorter = length-drop first s in
    ranges_cons cut row (rows ++ r)
    ∙ ap (λ len. take len (s ++ r) ∷ ranges cut (drop len (s ++ r))) same
    ∙ ap (λ front. front ∷ ranges cut (drop first (s ++ r))) (take-append-le first s r below)
    ∙ ap (λ rest. take first s ∷ ranges cut rest) (drop-append-le first s r below)
    ∙ ap (λ rest. take first s ∷ rest) (ranges_over cut n (drop first s) r (omega arith) (ends_drop cut first s h))
    ∙ ap (λ all. all ++ ranges cut r) (sym (ranges_cons cut row rows))

-- ---- the segments

-- no segment is empty, and each but the last ends with a break key
abbrev AllEnd : Cut → List (List Row) → Type 0
AllEnd cut [] = Unit {0}
AllEnd cut (s ∷ []) = 0 < length s
AllEnd cut (s ∷ t ∷ ss) = (0 < length s) × (ends cut s ≡ true) × AllEnd cut (t ∷ ss)

ends_more : (cut : Cut) (row : Row) (s : List Row) → 0 < length s → ends cut s ≡ true → ends cut (row ∷ s) ≡ true
ends_more cut row [] some h = absurd (omega arith)
ends_more cut row (next ∷ s) some h = h

longer : (cut : Cut) (row : Row) (s : List Row) (ss : List (List Row)) → AllEnd cut (s ∷ ss) → AllEnd cut ((row ∷ s) ∷ ss)
longer cut row s [] h = omega arith
longer cut row s (t ∷ ss) h = (omega arith, ends_more cut row s h.0 h.1, h.2)

end_before : (cut : Cut) (row : Row) (ss : List (List Row)) → AllEnd cut ss → AllEnd cut (segments_with cut row ss)
end_before cut row [] h = omega arith
end_before cut row (s ∷ ss) h =
    elim (cases_Bool (is_break cut row.0)) [
      | inl breaks ↦ rw breaks (omega arith, breaks, h)
      | inr goes_on ↦ rw goes_on (longer cut row s ss h)
    ]

all_end : (cut : Cut) (rows : List Row) → AllEnd cut (segments cut rows)
all_end cut [] = tt
all_end cut (row ∷ rows) = end_before cut row (segments cut rows) (all_end cut rows)

whole_before : (cut : Cut) (row : Row) (ss : List (List Row))
    → flat_map (λ segment. segment) (segments_with cut row ss) ≡ row ∷ flat_map (λ segment. segment) ss
whole_before cut row [] = refl
whole_before cut row (s ∷ ss) =
    elim (cases_Bool (is_break cut row.0)) [
      | inl breaks ↦ rw breaks refl
      | inr goes_on ↦ rw goes_on refl
    ]

-- the segments are the rows
pub segments_whole : (cut : Cut) (rows : List Row) → flat_map (λ segment. segment) (segments cut rows) ≡ rows
segments_whole cut [] = refl
segments_whole cut (row ∷ rows) = whole_before cut row (segments cut rows) ∙ ap (λ rest. row ∷ rest) (segments_whole cut rows)

ranges_each : (cut : Cut) (ss : List (List Row)) → AllEnd cut ss → ranges cut (flat_map (λ segment. segment) ss) ≡ flat_map (ranges cut) ss
ranges_each cut [] h = ranges_none cut
ranges_each cut (s ∷ []) h = ap (ranges cut) (append-nil s) ∙ sym (append-nil (ranges cut s))
ranges_each cut (s ∷ t ∷ ss) h =
    ranges_over cut (length s) s (flat_map (λ segment. segment) (t ∷ ss)) (omega arith) h.1
    ∙ ap (λ rest. ranges cut s ++ rest) (ranges_each cut (t ∷ ss) h.2)

-- the ranges are those of the segments
pub segments_ranges : (cut : Cut) (rows : List Row) → ranges cut rows ≡ flat_map (ranges cut) (segments cut rows)
segments_ranges cut rows = ap (ranges cut) (sym (segments_whole cut rows)) ∙ ranges_each cut (segments cut rows) (all_end cut rows)
