-- How rows are cut into ranges, range by range.
use Rattle.std.proofs.Common.{◌≡◌, ℕ, zero, suc, ◌+◌, ◌-◌, ◌<◌, ◌≤◌, Bool, true, false, not, ◌&&◌, ◌||◌, eqb, List, [], ◌∷◌, length, get_or, take, drop, refl}
use Rattle.std.proofs.Common.{sym, ap, subst, ◌∙◌, add-one, arith, inl, inr}
use Rattle.std.specs.List.{list_all}
use Rattle.std.proofs.lemmas.Bool.{cases_Bool, cases_lt, eqb-true, eqb-false, le-leb, lt-leb}
use Rattle.std.proofs.lemmas.List.{length-drop, length-take, get_or-take, take-append-drop, take_all}
use Rattle.std.proofs.lemmas.List.Folds.{list_all-append, list_all_at, list_all_more}
use Rattle.std.proofs.lemmas.List.Sums.{sum_by_more, sum_by-take-le}
use Rattle.lake_values.specs.Entry.{EntryValue}
use Rattle.lake_format.specs.declared.cut.Cut.{Cut}
use Rattle.lake_format.specs.Spelling.{row_spelling}
use Rattle.lake_format.specs.Cutting.{is_break, row_bytes, is_range, longest_front, first_len, ranges_within, ranges}

-- ---- the longest front

pub longest_here : (cut : Cut) (rows : List (List ℕ × EntryValue)) (n : ℕ) → is_range cut (take n rows) ≡ true → longest_front cut rows n ≡ n
longest_here cut rows zero fits = refl
longest_here cut rows (suc n) fits = rw fits refl

pub longest_below : (cut : Cut) (rows : List (List ℕ × EntryValue)) (n : ℕ) → longest_front cut rows n ≤ n
longest_below cut rows zero = omega arith
longest_below cut rows (suc n) =
    elim (cases_Bool (is_range cut (take (suc n) rows))) [
      | inl fits ↦ rw fits (omega arith)
      | inr over ↦ rw over (omega (arith, longest_below cut rows n))
    ]

pub longest_some : (cut : Cut) (row : List ℕ × EntryValue) (rows : List (List ℕ × EntryValue)) (n : ℕ) → 0 < longest_front cut (row ∷ rows) (suc n)
longest_some cut row rows zero = omega arith
longest_some cut row rows (suc n) =
    elim (cases_Bool (is_range cut (take (suc (suc n)) (row ∷ rows)))) [
      | inl fits ↦ rw fits (omega arith)
      | inr over ↦ rw over (longest_some cut row rows n)
    ]

-- it can be one range
longest_can : (cut : Cut) (rows : List (List ℕ × EntryValue)) (n : ℕ) → is_range cut (take (longest_front cut rows n) rows) ≡ true
longest_can cut rows zero = refl
longest_can cut rows (suc n) =
    elim (cases_Bool (is_range cut (take (suc n) rows))) [
      | inl fits ↦ rw fits fits
      | inr over ↦ rw over (longest_can cut rows n)
    ]

-- no longer front can
longest_most : (cut : Cut) (rows : List (List ℕ × EntryValue)) (n len : ℕ) → len ≤ n → is_range cut (take len rows) ≡ true → len ≤ longest_front cut rows n
longest_most cut rows zero len short fits = short
longest_most cut rows (suc n) len short fits =
    elim (cases_Bool (is_range cut (take (suc n) rows))) [
      | inl all ↦ rw all short
      | inr over ↦ rw over (elim (cases_Bool (eqb len (suc n))) [
        | inl same ↦ let is = eqb-true len (suc n) same in absurd cc
        | inr less ↦ longest_most cut rows n len (omega (arith, eqb-false len (suc n) less)) fits
      ])
    ]

pub first_some : (cut : Cut) (row : List ℕ × EntryValue) (rows : List (List ℕ × EntryValue)) → 0 < first_len cut (row ∷ rows)
unfolding first_len
first_some cut row rows = longest_some cut row rows (length rows)

pub first_below : (cut : Cut) (rows : List (List ℕ × EntryValue)) → first_len cut rows ≤ length rows
unfolding first_len
first_below cut rows = longest_below cut rows (length rows)

-- ---- the ranges

-- any number of ranges that is enough gives the same
within_enough : (cut : Cut) (n m : ℕ) (rows : List (List ℕ × EntryValue)) → length rows ≤ n → length rows ≤ m
    → ranges_within n cut rows ≡ ranges_within m cut rows
within_enough cut zero zero rows a b = refl
within_enough cut zero (suc m) [] a b = refl
within_enough cut zero (suc m) (row ∷ rows) a b = absurd (omega arith)
within_enough cut (suc n) zero [] a b = refl
within_enough cut (suc n) zero (row ∷ rows) a b = absurd (omega arith)
within_enough cut (suc n) (suc m) [] a b = refl
within_enough cut (suc n) (suc m) (row ∷ rows) a b =
    let some = first_some cut row rows in
    let shorter = length-drop (first_len cut (row ∷ rows)) (row ∷ rows) in
    ap (λ rest. take (first_len cut (row ∷ rows)) (row ∷ rows) ∷ rest)
    (within_enough cut n m (drop (first_len cut (row ∷ rows)) (row ∷ rows)) (omega arith) (omega arith))

pub ranges_none : (cut : Cut) → ranges cut [] ≡ []
unfolding ranges
ranges_none cut = refl

pub ranges_cons : (cut : Cut) (row : List ℕ × EntryValue) (rows : List (List ℕ × EntryValue))
    → ranges cut (row ∷ rows) ≡ take (first_len cut (row ∷ rows)) (row ∷ rows) ∷ ranges cut (drop (first_len cut (row ∷ rows)) (row ∷ rows))
unfolding ranges
ranges_cons cut row rows =
    let some = first_some cut row rows in
    let shorter = length-drop (first_len cut (row ∷ rows)) (row ∷ rows) in
    ap (λ rest. take (first_len cut (row ∷ rows)) (row ∷ rows) ∷ rest)
    (within_enough cut (length rows) (length (drop (first_len cut (row ∷ rows)) (row ∷ rows))) (drop (first_len cut (row ∷ rows)) (row ∷ rows)) (omega arith)
    (omega arith))

within_few : (cut : Cut) (n : ℕ) (rows : List (List ℕ × EntryValue)) → length (ranges_within n cut rows) ≤ n
within_few cut zero rows = omega arith
within_few cut (suc n) [] = omega arith
within_few cut (suc n) (row ∷ rows) = omega (arith, within_few cut n (drop (first_len cut (row ∷ rows)) (row ∷ rows)))

-- there are at most as many ranges as rows
pub ranges_few : (cut : Cut) (rows : List (List ℕ × EntryValue)) → length (ranges cut rows) ≤ length rows
unfolding ranges
ranges_few cut rows = within_few cut (length rows) rows

-- ---- by length

pub first_some_of : (cut : Cut) (rows : List (List ℕ × EntryValue)) → 0 < length rows → 0 < first_len cut rows
first_some_of cut [] lt = absurd (omega arith)
first_some_of cut (row ∷ rows) lt = first_some cut row rows

pub ranges_of : (cut : Cut) (rows : List (List ℕ × EntryValue)) → 0 < length rows
    → ranges cut rows ≡ take (first_len cut rows) rows ∷ ranges cut (drop (first_len cut rows) rows)
ranges_of cut [] lt = absurd (omega arith)
ranges_of cut (row ∷ rows) lt = ranges_cons cut row rows

pub first_can : (cut : Cut) (rows : List (List ℕ × EntryValue)) → 0 < length rows
    → (0 < first_len cut rows) × (first_len cut rows ≤ length rows) × (is_range cut (take (first_len cut rows) rows) ≡ true)
unfolding first_len
first_can cut rows lt = (first_some_of cut rows lt, first_below cut rows, longest_can cut rows (length rows))

pub first_longest : (cut : Cut) (rows : List (List ℕ × EntryValue)) (len : ℕ) → len ≤ length rows → is_range cut (take len rows) ≡ true
    → len ≤ first_len cut rows
unfolding first_len
first_longest cut rows len = longest_most cut rows (length rows) len

-- what is known of the first range and the rows after it
pub record IsFirst (cut : Cut) (rows front rest : List (List ℕ × EntryValue)) : Type 0 where
  pub some : 0 < length front
  pub few : length front ≤ length rows
  pub shorter : length rest < length rows
  pub cons : ranges cut rows ≡ front ∷ ranges cut rest

pub first_of : (cut : Cut) (rows front rest : List (List ℕ × EntryValue)) → 0 < length rows → front ≡ take (first_len cut rows) rows
    → rest ≡ drop (first_len cut rows) rows → IsFirst cut rows front rest
first_of cut rows front rest lt front-is rest-is =
    let some = first_some_of cut rows lt in
    let below = first_below cut rows in
    let a = ap length front-is ∙ length-take (first_len cut rows) rows in
    let b = ap length rest-is ∙ length-drop (first_len cut rows) rows in
    record { some = omega arith; few = omega arith; shorter = omega arith; cons = rw (front-is, rest-is) (ranges_of cut rows lt) }

-- ---- a test for no rows

pub some_left : {X : Type 0} (xs : List X) (b : Bool) → b ≡ eqb (length xs) 0 → b ≡ false → 0 < length xs
some_left [] b is not = absurd cc
some_left (x ∷ xs) b is not = omega arith

pub none_left : {X : Type 0} (xs : List X) (b : Bool) → b ≡ eqb (length xs) 0 → b ≡ true → xs ≡ []
none_left [] b is empty = refl
none_left (x ∷ xs) b is empty = let zero_long = eqb-true (length (x ∷ xs)) 0 (sym is ∙ empty) in absurd (omega arith)

-- ---- row by row

-- no break key among rows
abbrev unbroken : Cut → List (List ℕ × EntryValue) → Bool
unbroken cut rows = list_all (λ row. not (is_break cut row.0)) rows

-- the first so many rows have no break key, so much room is left by them, and they can be one range
pub record IsScanned (cut : Cut) (rows : List (List ℕ × EntryValue)) (n room : ℕ) : Type 0 where
  pub whole : unbroken cut (take n rows) ≡ true
  pub left : room ≡ cut.max_bytes - row_bytes (take n rows)
  pub fits : 1 < n → row_bytes (take n rows) ≤ cut.max_bytes

both_true : (a b : Bool) → a ≡ true → b ≡ true → (a && b) ≡ true
both_true true b h k = k
both_true false b h k = absurd cc

front_true : (a b : Bool) → (a && b) ≡ true → a ≡ true
front_true true b h = refl
front_true false b h = absurd cc

not_both : (a b : Bool) → a ≡ false → (a && b) ≡ false
not_both true b h = absurd cc
not_both false b h = refl

nor_second : (a b : Bool) → b ≡ false → (a && b) ≡ false
nor_second true b h = h
nor_second false b h = refl

-- a front of rows without a break key
unbroken_front : (cut : Cut) (rows : List (List ℕ × EntryValue)) (n : ℕ) → unbroken cut rows ≡ true → unbroken cut (take n rows) ≡ true
unbroken_front cut rows n h =
    front_true (unbroken cut (take n rows)) (unbroken cut (drop n rows))
    (sym (list_all-append (λ row. not (is_break cut row.0)) (take n rows) (drop n rows)) ∙ ap (unbroken cut) (take-append-drop n rows) ∙ h)

-- a front of a front
take_take : {X : Type 0} (n len : ℕ) (xs : List X) → n ≤ len → take n (take len xs) ≡ take n xs
take_take zero len xs le = refl
take_take (suc n) zero xs le = absurd (omega arith)
take_take (suc n) (suc len) [] le = refl
take_take (suc n) (suc len) (x ∷ xs) le = ap (λ l. x ∷ l) (take_take n len xs (omega arith))

-- the rows before the last of a front
before_last : (rows : List (List ℕ × EntryValue)) (n : ℕ) → suc n ≤ length rows → take (length (take (suc n) rows) - 1) (take (suc n) rows) ≡ take n rows
before_last rows n le =
    let len : length (take (suc n) rows) - 1 ≡ n = omega (arith, length-take (suc n) rows) in
    ap (λ k. take k (take (suc n) rows)) len ∙ take_take n (suc n) rows (omega arith)

-- when a front can be one range
front_can : (cut : Cut) (rows : List (List ℕ × EntryValue)) (n : ℕ) → suc n ≤ length rows → unbroken cut (take n rows) ≡ true
    → (1 < suc n → row_bytes (take (suc n) rows) ≤ cut.max_bytes)
    → is_range cut (take (suc n) rows) ≡ true
front_can cut rows n le whole fits =
    both_true _ _ (ap (unbroken cut) (before_last rows n le) ∙ whole) (elim (cases_lt n 1) [
      | inl few ↦ or_first _ _ (le-leb (length (take (suc n) rows)) 1 (omega (arith, length-take (suc n) rows)))
      | inr many ↦ or_second _ _ (le-leb (row_bytes (take (suc n) rows)) cut.max_bytes (fits (omega arith)))
    ])
  where
    or_first : (a b : Bool) → a ≡ true → (a || b) ≡ true
    or_first true b h = refl
    or_first false b h = absurd cc

    or_second : (a b : Bool) → b ≡ true → (a || b) ≡ true
    or_second true b h = refl
    or_second false b h = h

-- a break key before the last row
broken_front : (cut : Cut) (rows : List (List ℕ × EntryValue)) (n len : ℕ) (row : List ℕ × EntryValue) → row ≡ get_or rows n row → is_break cut row.0 ≡ true
    → suc n < len → len ≤ length rows
    → is_range cut (take len rows) ≡ false
broken_front cut rows n zero row is break lt le = absurd (omega arith)
broken_front cut rows n (suc len) row is break lt le =
    let here : not (is_break cut (get_or (take len rows) n row).0) ≡ false =
    ap (λ (r : List ℕ × EntryValue). not (is_break cut r.0)) (get_or-take len rows n row (omega arith) ∙ sym is) ∙ ap not break in
    not_both _ _ (ap (unbroken cut) (before_last rows len le)
    ∙ list_all_at (λ row. not (is_break cut row.0)) (take len rows) n row (omega (arith, length-take len rows)) here)

-- rows that pass the limit
heavy_front : (cut : Cut) (rows : List (List ℕ × EntryValue)) (n len : ℕ) → n ≤ len → len ≤ length rows → 1 < n → cut.max_bytes < row_bytes (take n rows)
    → is_range cut (take len rows) ≡ false
heavy_front cut rows n len le within some heavy =
    nor_second _ _ (neither_true _ _ (lt-leb (length (take len rows)) 1 (omega (arith, length-take len rows)))
    (lt-leb (row_bytes (take len rows)) cut.max_bytes (omega (arith, more_bytes))))
  where
    neither_true : (a b : Bool) → a ≡ false → b ≡ false → (a || b) ≡ false
    neither_true true b h k = absurd cc
    neither_true false b h k = k

    more_bytes : row_bytes (take n rows) ≤ row_bytes (take len rows)
    more_bytes =
        subst (λ l. row_bytes l ≤ row_bytes (take len rows)) (take_take n len rows le) (sum_by-take-le (λ row. length (row_spelling row)) (take len rows) n)

-- a front that can be one range, where no longer one can, is the first
first_is : (cut : Cut) (rows : List (List ℕ × EntryValue)) (n : ℕ) → n ≤ length rows → is_range cut (take n rows) ≡ true
    → ((len : ℕ) → n < len → len ≤ length rows → is_range cut (take len rows) ≡ false) → n ≡ first_len cut rows
unfolding first_len
first_is cut rows n le fits none =
    let most = longest_most cut rows (length rows) n le fits in
    elim (cases_lt n (longest_front cut rows (length rows))) [
      | inl lt ↦ absurd (cc (sym (none (longest_front cut rows (length rows)) lt (longest_below cut rows (length rows))) ∙ longest_can cut rows (length rows)))
      | inr ge ↦ omega arith
    ]

-- no row
pub scanned_none : (cut : Cut) (rows : List (List ℕ × EntryValue)) → IsScanned cut rows 0 cut.max_bytes
scanned_none cut rows = record { whole = refl; left = omega arith; fits = λ some. absurd (omega arith) }

-- what is known of the next row
pub record IsNextRow (cut : Cut) (rows : List (List ℕ × EntryValue)) (n len : ℕ) (row : List ℕ × EntryValue) : Type 0 where
  pub within : n < length rows
  pub is : row ≡ get_or rows n row
  pub len_is : len ≡ length (row_spelling row)

row_more : (cut : Cut) (rows : List (List ℕ × EntryValue)) (n len : ℕ) (row : List ℕ × EntryValue) → IsNextRow cut rows n len row
    → row_bytes (take (n + 1) rows) ≡ row_bytes (take n rows) + len
row_more cut rows n len row next =
    sum_by_more (λ row. length (row_spelling row)) rows n row next.within
    ∙ ap (λ k. row_bytes (take n rows) + k) (ap (λ (r : List ℕ × EntryValue). length (row_spelling r)) (sym next.is) ∙ sym next.len_is)

-- the rows and the next fit
fit_more : (cut : Cut) (rows : List (List ℕ × EntryValue)) (n room len : ℕ) (row : List ℕ × EntryValue) → IsScanned cut rows n room
    → IsNextRow cut rows n len row → (0 < n → len ≤ room) → 1 < n + 1 → row_bytes (take (n + 1) rows) ≤ cut.max_bytes
fit_more cut rows n room len row scanned next space some =
    let all = row_more cut rows n len row next in
    let left = scanned.left in
    let small = space (omega arith) in
    omega (arith, next.len_is)

-- one more row
pub scanned_more : (cut : Cut) (rows : List (List ℕ × EntryValue)) (n room len : ℕ) (row : List ℕ × EntryValue) → IsScanned cut rows n room
    → IsNextRow cut rows n len row → (0 < n → len ≤ room) → is_break cut row.0 ≡ false
    → IsScanned cut rows (n + 1) (room - len)
scanned_more cut rows n room len row scanned next space whole = record {
  whole = list_all_more (λ row. not (is_break cut row.0)) rows n row next.within
      ∙ both_true _ _ scanned.whole (ap (λ (r : List ℕ × EntryValue). not (is_break cut r.0)) (sym next.is) ∙ ap not whole);
  left = omega (arith, scanned.left, row_more cut rows n len row next);
  fits = fit_more cut rows n room len row scanned next space;
}

-- the next row has no room
pub scanned_full : (cut : Cut) (rows : List (List ℕ × EntryValue)) (n room len : ℕ) (row : List ℕ × EntryValue) → IsScanned cut rows n room
    → IsNextRow cut rows n len row → 0 < n → room < len → n ≡ first_len cut rows
scanned_full cut rows zero room len row scanned next some over = absurd (omega arith)
scanned_full cut rows (suc n) room len row scanned next some over =
    let within = next.within in
    let before : unbroken cut (take n rows) ≡ true =
    sym (ap (unbroken cut) (take_take n (suc n) rows (omega arith))) ∙ unbroken_front cut (take (suc n) rows) n scanned.whole in
    first_is cut rows (suc n) (omega arith) (front_can cut rows n (omega arith) before scanned.fits) (λ top lt le.
    heavy_front cut rows (suc n + 1) top (omega arith) le (omega arith) (omega (arith, scanned.left, row_more cut rows (suc n) len row next)))

-- the next row is the last
pub scanned_break : (cut : Cut) (rows : List (List ℕ × EntryValue)) (n room len : ℕ) (row : List ℕ × EntryValue) → IsScanned cut rows n room
    → IsNextRow cut rows n len row → (0 < n → len ≤ room) → is_break cut row.0 ≡ true → n + 1 ≡ first_len cut rows
scanned_break cut rows n room len row scanned next space break =
    let within = next.within in
    let one : n + 1 ≡ suc n = add-one n in
    one ∙ first_is cut rows (suc n) (omega arith)
    (front_can cut rows n (omega arith) scanned.whole
    (λ some. subst (λ k. row_bytes (take k rows) ≤ cut.max_bytes) one (fit_more cut rows n room len row scanned next space (omega arith))))
    (λ top lt le. broken_front cut rows n top row next.is break lt le)

-- all rows
pub scanned_all : (cut : Cut) (rows : List (List ℕ × EntryValue)) (n room : ℕ) → IsScanned cut rows n room → length rows ≤ n → length rows ≡ first_len cut rows
scanned_all cut rows n room scanned all = by_len (length rows) refl
  where
    every : take n rows ≡ rows
    every = take_all n rows all

    by_len : (k : ℕ) → k ≡ length rows → k ≡ first_len cut rows
    by_len zero is = first_is cut rows zero (omega arith) refl (λ len lt le. absurd (omega arith))
    by_len (suc k) is =
        let whole : unbroken cut rows ≡ true = sym (ap (unbroken cut) every) ∙ scanned.whole in
        let same : row_bytes (take n rows) ≡ row_bytes (take (suc k) rows) = ap row_bytes (every ∙ sym (take_all (suc k) rows (omega arith))) in
        first_is cut rows (suc k) (omega arith) (front_can cut rows k (omega arith) (unbroken_front cut rows k whole)
        (λ some. omega (arith, same, scanned.fits (omega arith)))) (λ len lt le. absurd (omega arith))
