-- Whether rows are the first range of themselves and what follows them.
use Rattle.std.proofs.Common.{◌≡◌, ℕ, zero, suc, ◌+◌, ◌-◌, ◌<◌, ◌≤◌, true, false, cond, not, eqb, List, [], ◌∷◌, ◌++◌, length, get_or, take, drop, Option, Some}
use Rattle.std.proofs.Common.{None, refl, sym, ap, subst, ◌∙◌, inl, inr, drop-cons, add-one, arith}
use Rattle.std.specs.List.{slice_get, list_all}
use Rattle.std.proofs.lemmas.Bool.{cases_Bool, cases_lt, eq-eqb, ne_eqb}
use Rattle.std.proofs.lemmas.List.{append-nil, length-append, length-take, take_all, get_or_append_left}
use Rattle.std.proofs.Math.Seq.{take-append_seam, drop-append_seam}
use Rattle.lake_format.specs.Spelling.{row_spelling}
use Rattle.lake_format.specs.Cutting.{is_break, row_bytes, is_range, first_len, ranges}
use Rattle.lake_format.specs.declared.cut.Cut.{Cut}
use Rattle.lake_format.proofs.CutLemmas.{IsScanned, IsNextRow, scanned_more, scanned_full, scanned_break, scanned_all, first_can, first_longest, first_below}
use Rattle.lake_format.proofs.CutLemmas.{ranges_of}
use Rattle.range_file.specs.Rows.{RowValue}
use Rattle.meta_range.specs.Ranges.{rows_of}
use Rattle.meta_range.specs.TreeReading.{first_stray}

none_after : {X : Type 0} (xs : List X) (i : ℕ) → length xs ≤ i → drop i xs ≡ []
none_after [] zero le = refl
none_after [] (suc i) le = refl
none_after (x ∷ xs) zero le = absurd (omega arith)
none_after (x ∷ xs) (suc i) le = none_after xs i (omega arith)

-- ---- the first range of rows and what follows them

-- a row of the rows is one of both
pub next_row : (cut : Cut) (rows more : List RowValue) (at len : ℕ) (row : RowValue) → at < length rows → row ≡ get_or rows at row
    → len ≡ length (row_spelling row) → IsNextRow cut (rows ++ more) at len row
next_row cut rows more at len row lt is long =
    record { within = omega (arith, length-append rows more); is = is ∙ sym (get_or_append_left rows more row at lt); len_is = long }

-- the first row of what follows
pub row_behind : (cut : Cut) (rows more : List RowValue) (len : ℕ) (row : RowValue) → slice_get more 0 ≡ Some row → len ≡ length (row_spelling row)
    → IsNextRow cut (rows ++ more) (length rows) len row
row_behind cut rows [] len row is long = absurd cc
row_behind cut rows (next ∷ more) len row is long =
    let same : row ≡ next = cc in
    record { within = omega (arith, length-append rows (next ∷ more)); is = same ∙ sym (seam rows); len_is = long }
  where
    seam : (rows : List RowValue) → get_or (rows ++ next ∷ more) (length rows) row ≡ next
    seam [] = refl
    seam (x ∷ rows) = seam rows

-- the next row has room too
fits_more : (cut : Cut) (all : List RowValue) (n room len : ℕ) (row : RowValue) → IsScanned cut all n room → IsNextRow cut all n len row → len ≤ room
    → n + 1 ≤ first_len cut all
fits_more cut all n room len row scanned next fits =
    elim (cases_Bool (is_break cut row.0)) [
      | inl break ↦ let is = scanned_break cut all n room len row scanned next (λ some. fits) break in omega (arith, is)
      | inr whole ↦
          let more = scanned_more cut all n room len row scanned next (λ some. fits) whole in
          let front = take (n + 1) all in
          let long : length front ≡ n + 1 = omega (arith, length-take (n + 1) all, next.within) in
          let every : take (n + 1) front ≡ front = take_all (n + 1) front (omega arith) in
          let again : IsScanned cut front (n + 1) (room - len) = record {
            whole = ap (λ rows. list_all (λ (row : RowValue). not (is_break cut row.0)) rows) every ∙ more.whole;
            left = more.left ∙ ap (λ rows. cut.max_bytes - row_bytes rows) (sym every);
            fits = λ some. subst (λ rows. row_bytes rows ≤ cut.max_bytes) (sym every) (more.fits some);
          } in
          let is = scanned_all cut front (n + 1) (room - len) again (omega arith) in
          let can = first_can cut front (omega arith) in
          let range : is_range cut front ≡ true =
          sym (ap (is_range cut) (ap (λ k. take k front) (sym is) ∙ take_all (length front) front (omega arith))) ∙ can.2 in
          first_longest cut all (n + 1) (omega (arith, next.within)) range
    ]

module _ (cut : Cut) (rows more : List RowValue) (at room len : ℕ) (row : RowValue) where
  -- a row before the last has no room
  pub first_full : IsScanned cut (rows ++ more) at room → at < length rows → row ≡ get_or rows at row → len ≡ length (row_spelling row) → 0 < at → room < len
      → length rows ≡ first_len cut (rows ++ more) → ⊥
  first_full scanned lt is long some over whole =
      let ends = scanned_full cut (rows ++ more) at room len row scanned (next_row cut rows more at len row lt is long) some over in
      absurd (omega arith)

  -- a row is a break key
  pub first_break : IsScanned cut (rows ++ more) at room → at < length rows → row ≡ get_or rows at row → len ≡ length (row_spelling row) → (0 < at → len ≤ room)
      → is_break cut row.0 ≡ true → at + 1 ≡ first_len cut (rows ++ more)
  first_break scanned lt is long space break =
      scanned_break cut (rows ++ more) at room len row scanned (next_row cut rows more at len row lt is long) space break

  -- one more row
  pub first_more : IsScanned cut (rows ++ more) at room → at < length rows → row ≡ get_or rows at row → len ≡ length (row_spelling row) → (0 < at → len ≤ room)
      → is_break cut row.0 ≡ false → IsScanned cut (rows ++ more) (at + 1) (room - len)
  first_more scanned lt is long space whole = scanned_more cut (rows ++ more) at room len row scanned (next_row cut rows more at len row lt is long) space whole

  -- the row behind has no room
  pub first_ends : IsScanned cut (rows ++ more) at room → at ≡ length rows → 0 < length rows → slice_get more 0 ≡ Some row → len ≡ length (row_spelling row)
      → room < len → length rows ≡ first_len cut (rows ++ more)
  first_ends scanned end some is long over =
      scanned_full cut (rows ++ more) (length rows) room len row (subst (λ k. IsScanned cut (rows ++ more) k room) end scanned)
      (row_behind cut rows more len row is long) some over

  -- the row behind has room
  pub first_goes_on : IsScanned cut (rows ++ more) at room → at ≡ length rows → slice_get more 0 ≡ Some row → len ≡ length (row_spelling row)
      → length rows ≡ first_len cut (rows ++ more) → room < len
  first_goes_on scanned end is long whole =
      elim (cases_lt room len) [
        | inl over ↦ over
        | inr fits ↦
            let beyond = fits_more cut (rows ++ more) (length rows) room len row (subst (λ k. IsScanned cut (rows ++ more) k room) end scanned)
            (row_behind cut rows more len row is long) fits in
            absurd (omega arith)
      ]

-- nothing follows
pub first_alone : (cut : Cut) (rows more : List RowValue) (at room : ℕ) → IsScanned cut (rows ++ more) at room → length rows ≤ at → slice_get more 0 ≡ None
    → length rows ≡ first_len cut (rows ++ more)
first_alone cut rows [] at room scanned le none =
    let long = ap length (append-nil rows) in
    let is = scanned_all cut (rows ++ []) at room scanned (omega arith) in
    omega arith
first_alone cut rows (row ∷ more) at room scanned le none = absurd cc

-- ---- the first range that isn't the cut's

pub first_of_none : (ranges : List (List RowValue)) (at : ℕ) → length ranges ≤ at → None ≡ slice_get (rows_of (drop at ranges)) 0
first_of_none ranges at le = sym (ap (λ rs. slice_get (rows_of rs) 0) (none_after ranges at le))

pub first_of_some : (ranges : List (List RowValue)) (at : ℕ) (range : List RowValue) → at < length ranges → range ≡ get_or ranges at range → 0 < length range
    → slice_get range 0 ≡ slice_get (rows_of (drop at ranges)) 0
first_of_some ranges at range lt is some =
    let rest : drop at ranges ≡ range ∷ drop (suc at) ranges = drop-cons ranges at range lt ∙ ap (λ r. r ∷ drop (suc at) ranges) (sym is) in
    first_append range (rows_of (drop (suc at) ranges)) some ∙ sym (ap (λ rs. slice_get (rows_of rs) 0) rest)
  where
    first_append : (a b : List RowValue) → 0 < length a → slice_get a 0 ≡ slice_get (a ++ b) 0
    first_append [] b some = absurd (omega arith)
    first_append (row ∷ a) b some = refl

module _ (cut : Cut) (read : List (List RowValue)) (at : ℕ) (range : List RowValue) (all : Option ℕ) (lt : at < length read) (is : range ≡ get_or read at range)
    (some : 0 < length range)
    (so_far : first_stray at (drop at read) (ranges cut (rows_of (drop at read))) ≡ all) where
  after : List (List RowValue)
  after = drop (at + 1) read

  rows : List RowValue
  rows = range ++ rows_of after

  tested : cond (eqb (length range) (length (take (first_len cut rows) rows))) (first_stray (suc at) after (ranges cut (drop (first_len cut rows) rows)))
      (Some at) ≡ all
  unfolding after rows
  tested =
      let rest : drop at read ≡ range ∷ after = rw add-one (drop-cons read at range lt ∙ ap (λ r. r ∷ drop (suc at) read) (sym is)) in
      let long = length-append range (rows_of after) in
      sym (ap (λ rs. first_stray at rs (ranges cut (rows_of rs))) rest ∙ ap (first_stray at (range ∷ after)) (ranges_of cut rows (omega arith))) ∙ so_far

  pub stray_here : (length range ≡ first_len cut (range ++ rows_of (drop (at + 1) read)) → ⊥) → Some at ≡ all
  unfolding after rows
  stray_here apart =
      let below = first_below cut rows in
      let long = length-take (first_len cut rows) rows in
      let other = ne_eqb (length range) (length (take (first_len cut rows) rows)) (λ same. apart (omega arith)) in
      sym (ap (λ b. cond b (first_stray (suc at) after (ranges cut (drop (first_len cut rows) rows))) (Some at)) other) ∙ tested

  pub stray_later : length range ≡ first_len cut (range ++ rows_of (drop (at + 1) read))
      → first_stray (at + 1) (drop (at + 1) read) (ranges cut (rows_of (drop (at + 1) read))) ≡ all
  unfolding after rows
  stray_later same =
      let front : take (first_len cut rows) rows ≡ range = ap (λ k. take k rows) (sym same) ∙ take-append_seam range (rows_of after) in
      let back : drop (first_len cut rows) rows ≡ rows_of after = ap (λ k. drop k rows) (sym same) ∙ drop-append_seam range (rows_of after) in
      let equal = eq-eqb (length range) (length (take (first_len cut rows) rows)) (sym (ap length front)) in
      ap (λ k. first_stray k after (ranges cut (rows_of after))) (add-one at)
      ∙ ap (λ l. first_stray (suc at) after (ranges cut l)) (sym back)
      ∙ sym (ap (λ b. cond b (first_stray (suc at) after (ranges cut (drop (first_len cut rows) rows))) (Some at)) equal) ∙ tested

pub stray_none : (cut : Cut) (read : List (List RowValue)) (at : ℕ) (all : Option ℕ) → length read ≤ at
    → first_stray at (drop at read) (ranges cut (rows_of (drop at read))) ≡ all → None ≡ all
stray_none cut read at all le so_far = sym (ap (λ rs. first_stray at rs (ranges cut (rows_of rs))) (none_after read at le)) ∙ so_far
