-- How rows are cut into segments, segment by segment.
use Rattle.std.proofs.Common.{◌≡◌, ℕ, zero, suc, ◌+◌, ◌<◌, Bool, true, false, not, ◌||◌, Option, List, [], ◌∷◌, length, get_or, take, drop, refl, sym, ap}
use Rattle.std.proofs.Common.{subst, ◌∙◌, arith, inl, inr}
use Rattle.std.specs.List.{list_all, list_any, filter, sum_by}
use Rattle.std.proofs.lemmas.List.Sums.{sum_by-cons}
use Rattle.std.proofs.lemmas.Bool.{cases_Bool, and_parts, not-true}
use Rattle.lake_values.specs.Entry.{EntryValue}
use Rattle.lake_format.specs.declared.cut.Cut.{Cut}
use Rattle.lake_format.specs.Cutting.{is_break, segments, segments_with, last_path, with_paths_before, placed_segments, same_segment, ranges}

abbrev pub Row : Type 0
Row = List ℕ × EntryValue

before_break : (cut : Cut) (row : Row) (ss : List (List Row)) → is_break cut row.0 ≡ true → segments_with cut row ss ≡ (row ∷ []) ∷ ss
before_break cut row [] is = refl
before_break cut row (s ∷ ss) is = rw is refl

before_other : (cut : Cut) (row : Row) (s : List Row) (ss : List (List Row)) → is_break cut row.0 ≡ false → segments_with cut row (s ∷ ss) ≡ (row ∷ s) ∷ ss
before_other cut row s ss is = rw is refl

-- no break key among the rows
abbrev pub unbroken : Cut → List Row → Bool
unbroken cut rows = list_all (λ row. not (is_break cut row.0)) rows

-- a segment ends after the first break key
pub segment_at : (cut : Cut) (rows : List Row) (at : ℕ) (d : Row) → at < length rows → unbroken cut (take at rows) ≡ true
    → is_break cut (get_or rows at d).0 ≡ true
    → segments cut rows ≡ take (suc at) rows ∷ segments cut (drop (suc at) rows)
segment_at cut [] at d lt whole is = absurd (omega arith)
segment_at cut (row ∷ rows) zero d lt whole is = before_break cut row (segments cut rows) is
segment_at cut (row ∷ rows) (suc at) d lt whole is =
    let parts = and_parts (not (is_break cut row.0)) (unbroken cut (take at rows)) whole in
    ap (segments_with cut row) (segment_at cut rows at d (omega arith) parts.1 is)
    ∙ before_other cut row (take (suc at) rows) (segments cut (drop (suc at) rows)) (not-true (is_break cut row.0) parts.0)

-- rows with no break key are one segment
pub segment_whole : (cut : Cut) (rows : List Row) → 0 < length rows → unbroken cut rows ≡ true → segments cut rows ≡ rows ∷ []
segment_whole cut [] lt whole = absurd (omega arith)
segment_whole cut (row ∷ []) lt whole = refl
segment_whole cut (row ∷ next ∷ rows) lt whole =
    let parts = and_parts (not (is_break cut row.0)) (unbroken cut (next ∷ rows)) whole in
    ap (segments_with cut row) (segment_whole cut (next ∷ rows) (omega arith) parts.1)
    ∙ before_other cut row (next ∷ rows) [] (not-true (is_break cut row.0) parts.0)

-- ---- the rows of segments

-- the rows of segments, counted
abbrev total : List (List Row) → ℕ
total [] = 0
total (s ∷ ss) = length s + total ss

-- no segment is empty
abbrev AllSome : List (List Row) → Type 0
AllSome [] = Unit {0}
AllSome (s ∷ ss) = (0 < length s) × AllSome ss

total_before : (cut : Cut) (row : Row) (ss : List (List Row)) → total (segments_with cut row ss) ≡ total ss + 1
total_before cut row [] = omega arith
total_before cut row (s ∷ ss) =
    elim (cases_Bool (is_break cut row.0)) [
      | inl breaks ↦ rw breaks (omega arith)
      | inr goes_on ↦ rw goes_on (omega arith)
    ]

total_is : (cut : Cut) (rows : List Row) → total (segments cut rows) ≡ length rows
total_is cut [] = refl
total_is cut (row ∷ rows) = omega (arith, total_before cut row (segments cut rows), total_is cut rows)

some_before : (cut : Cut) (row : Row) (ss : List (List Row)) → AllSome ss → AllSome (segments_with cut row ss)
some_before cut row [] h = (omega arith, tt)
some_before cut row (s ∷ ss) h =
    elim (cases_Bool (is_break cut row.0)) [
      | inl breaks ↦ rw breaks (omega arith, h)
      | inr goes_on ↦ rw goes_on (omega arith, h.1)
    ]

some_each : (cut : Cut) (rows : List Row) → AllSome (segments cut rows)
some_each cut [] = tt
some_each cut (row ∷ rows) = some_before cut row (segments cut rows) (some_each cut rows)

-- what is known of the first segment and the rows after it
pub record IsParted (rows front rest : List Row) : Type 0 where
  pub some : 0 < length front
  pub whole : length front + length rest ≡ length rows

pub parted : (cut : Cut) (rows front rest : List Row) → segments cut rows ≡ front ∷ segments cut rest → IsParted rows front rest
parted cut rows front rest e =
    let all = subst AllSome e (some_each cut rows) in
    let same = ap total e in
    record { some = all.0; whole = omega (arith, same, total_is cut rows, total_is cut rest) }

-- ---- segments that are carried over, and those that aren't

abbrev pub Following : Type 0
Following = Option (List ℕ) × List Row

pub any_more : (test : Following → Bool) (cut : Cut) (before : Option (List ℕ)) (rows front rest : List Row) → segments cut rows ≡ front ∷ segments cut rest
    → list_any test (with_paths_before before (segments cut rows))
    ≡ (test (before, front) || list_any test (with_paths_before (last_path before front) (segments cut rest)))
any_more test cut before rows front rest e = ap (λ ss. list_any test (with_paths_before before ss)) e

-- how many ranges stand in the segments that pass a test
abbrev pub passed : (Following → Bool) → Cut → Option (List ℕ) → List Row → ℕ
passed test cut before rows = sum_by (λ segment. length (ranges cut segment.1)) (filter test (with_paths_before before (segments cut rows)))

pub passed_more : (test : Following → Bool) (cut : Cut) (before : Option (List ℕ)) (rows front rest : List Row) → segments cut rows ≡ front ∷ segments cut rest
    → test (before, front) ≡ true → passed test cut before rows ≡ length (ranges cut front) + passed test cut (last_path before front) rest
passed_more test cut before rows front rest e is =
    ap (λ ss. sum_by (λ segment. length (ranges cut segment.1)) (filter test (with_paths_before before ss))) e
    ∙ rw is (sum_by-cons (λ (segment : Following). length (ranges cut segment.1)) (before, front)
    (filter test (with_paths_before (last_path before front) (segments cut rest))))

pub passed_over : (test : Following → Bool) (cut : Cut) (before : Option (List ℕ)) (rows front rest : List Row) → segments cut rows ≡ front ∷ segments cut rest
    → test (before, front) ≡ false → passed test cut before rows ≡ passed test cut (last_path before front) rest
passed_over test cut before rows front rest e is =
    ap (λ ss. sum_by (λ segment. length (ranges cut segment.1)) (filter test (with_paths_before before ss))) e ∙ rw is refl

-- a segment that isn't carried over
abbrev pub changed : Cut → List Row → Following → Bool
changed cut old segment = not (list_any (same_segment segment) (placed_segments cut old))

pub changed_more : (cut : Cut) (old : List Row) (before after : Option (List ℕ)) (rows front rest : List Row) (carried : Bool)
    → segments cut rows ≡ front ∷ segments cut rest
    → carried ≡ list_any (same_segment (before, front)) (placed_segments cut old) → carried ≡ false → after ≡ last_path before front
    → passed (changed cut old) cut before rows ≡ length (ranges cut front) + passed (changed cut old) cut after rest
changed_more cut old before after rows front rest carried e is not_carried after-is =
    passed_more (changed cut old) cut before rows front rest e (ap not (sym is ∙ not_carried))
    ∙ ap (λ b. length (ranges cut front) + passed (changed cut old) cut b rest) (sym after-is)

pub changed_over : (cut : Cut) (old : List Row) (before after : Option (List ℕ)) (rows front rest : List Row) (carried : Bool)
    → segments cut rows ≡ front ∷ segments cut rest
    → carried ≡ list_any (same_segment (before, front)) (placed_segments cut old) → carried ≡ true → after ≡ last_path before front
    → passed (changed cut old) cut before rows ≡ passed (changed cut old) cut after rest
changed_over cut old before after rows front rest carried e is over after-is =
    passed_over (changed cut old) cut before rows front rest e (ap not (sym is ∙ over))
    ∙ ap (λ b. passed (changed cut old) cut b rest) (sym after-is)
