-- Two trees of one name have the same files, or two files of one name.
use Rattle.std.proofs.Common.{◌≡◌, ◌⊎◌, inl, inr, ℕ, zero, suc, ◌<◌, ◌^◌, List, [], ◌∷◌, ◌++◌, length, take, drop, map, refl, sym, ap, subst, ◌∙◌, arith}
use Rattle.std.specs.List.{AllByRecursion, Contains}
use Rattle.std.specs.FinMap.{entries, entries_sorted, len-entries}
use Rattle.std.specs.Str.{bytes_eq}
use Rattle.std.proofs.lemmas.Bool.{cases_Bool}
use Rattle.std.proofs.lemmas.List.{length-take, length-drop, take-append-drop}
use Rattle.std.proofs.lemmas.Slice.Eq.{bytes_eq-Decides}
use Rattle.lake_values.specs.KeyMap.{KeyMapValue}
use Rattle.lake_base.specs.Maps.{HasAscendingKeys}
use Rattle.lake_format.specs.Spelling.{range_spelling, metarange_spelling, line_of, file_name, IsRow, IsRange}
use Rattle.lake_format.specs.Cutting.{first_len, ranges_within, ranges, files, tree_id}
use Rattle.lake_format.proofs.CutLemmas.{first_some, first_below}
use Rattle.lake_format.specs.declared.cut.Cut.{Cut}
use Rattle.lake_format.specs.declared.range_line.RangeLine.{RangeLine}
use Rattle.range_file.specs.Rows.{RowValue}
use Rattle.meta_range.specs.Ranges.{first_file, AreRanges}
use Rattle.meta_range.specs.Files.{FitsTree, Clash}
use Rattle.meta_range.proofs.RangesLemmas.{rows_of_cut, ascend_front, ascend_back, is_metarange}
use Rattle.meta_range.proofs.CursorLemmas.{each_front, each_back}
use Rattle.meta_range.proofs.MetarangeLemmas.{apart}

-- a tree is known by its metarange
pub first_is : (cut : Cut) (objects : KeyMapValue) → tree_id cut objects ≡ file_name (first_file (files cut objects))
unfolding files tree_id
first_is cut objects = refl

-- ---- the ranges of a map that fits a tree

cut_ranges : (cut : Cut) (n : ℕ) (rows : List RowValue) → length rows < 2 ^ 32 → HasAscendingKeys rows → AllByRecursion IsRow rows
    → AllByRecursion IsRange (ranges_within n cut rows)
cut_ranges cut zero rows few h each = tt
cut_ranges cut (suc n) [] few h each = tt
cut_ranges cut (suc n) (row ∷ rows) few h each =
    let len = first_len cut (row ∷ rows) in
    let front = take len (row ∷ rows) in
    let back = drop len (row ∷ rows) in
    let some = first_some cut row rows in
    let below = first_below cut (row ∷ rows) in
    let long = length-take len (row ∷ rows) in
    let short = length-drop len (row ∷ rows) in
    let whole : HasAscendingKeys (front ++ back) = subst HasAscendingKeys (sym (take-append-drop len (row ∷ rows))) h in (
      record { some = omega arith; few = omega arith; ascend = ascend_front front back whole; each = each_front IsRow len (row ∷ rows) each },
      cut_ranges cut n back (omega arith) (ascend_back front back whole) (each_back IsRow len (row ∷ rows) each),
    )

pub ranges_are : (cut : Cut) (objects : KeyMapValue) → FitsTree objects → AreRanges (ranges cut (entries objects))
unfolding ranges
ranges_are cut objects fits =
    let rows = entries objects in
    let same = rows_of_cut cut rows in
    let few : length rows < 2 ^ 32 = omega (arith, len-entries objects, fits.few) in
    record {
      each = cut_ranges cut (length rows) rows few (entries_sorted objects) fits.each;
      ascend = subst HasAscendingKeys (sym same) (entries_sorted objects);
      few = subst (λ l. length l < 2 ^ 32) (sym same) few;
    }

-- ---- the same name

abbrev Same : List (List ℕ) → List (List ℕ) → Type 0
Same all others = (all ≡ others) ⊎ Clash all others

later : {X : Type 0} (y : X) (xs : List X) (x : X) → Contains xs x → Contains (y ∷ xs) x
later y xs x has = (suc has.0, omega (arith, has.1), has.2)

-- a file before both lists of files
same_more : (file : List ℕ) (all others : List (List ℕ)) → Same all others → Same (file ∷ all) (file ∷ others)
same_more file all others (inl same) = inl (ap (λ l. file ∷ l) same)
same_more file all others (inr clash) = inr (record {
  file = clash.file;
  other = clash.other;
  here = later file all clash.file clash.here;
  there = later file others clash.other clash.there;
  name = clash.name;
  apart = clash.apart;
})

-- the first files have one name
same_first : (file other : List ℕ) (all others : List (List ℕ)) → file_name file ≡ file_name other → (file ≡ other → Same all others)
    → Same (file ∷ all) (other ∷ others)
same_first file other all others named rest =
    elim (cases_Bool (bytes_eq file other)) [
      | inl equal ↦
          let is : file ≡ other = (bytes_eq-Decides file other).0 equal in
          subst (λ f. Same (file ∷ all) (f ∷ others)) is (same_more file all others (rest is))
      | inr other_bytes ↦ inr (record {
        file = file;
        other = other;
        here = (0, omega arith, refl);
        there = (0, omega arith, refl);
        name = named;
        apart = λ is. absurd (cc (sym ((bytes_eq-Decides file other).1 is) ∙ other_bytes));
      })
    ]

head_is : {X : Type 0} (x y : X) (xs ys : List X) → x ∷ xs ≡ y ∷ ys → x ≡ y
head_is x y xs ys e = cc

tail_is : {X : Type 0} (x y : X) (xs ys : List X) → x ∷ xs ≡ y ∷ ys → xs ≡ ys
tail_is x y xs ys e = cc

same_ranges : (all others : List (List RowValue)) → map line_of all ≡ map line_of others → Same (map range_spelling all) (map range_spelling others)
unfolding line_of
same_ranges [] [] e = inl refl
same_ranges [] (other ∷ others) e = absurd cc
same_ranges (range ∷ all) [] e = absurd cc
same_ranges (range ∷ all) (other ∷ others) e =
    same_first (range_spelling range) (range_spelling other) (map range_spelling all) (map range_spelling others)
    (ap (λ (line : RangeLine). line.name) (head_is (line_of range) (line_of other) (map line_of all) (map line_of others) e))
    (λ is. same_ranges all others (tail_is (line_of range) (line_of other) (map line_of all) (map line_of others) e))

pub same_files : (cut : Cut) (objects others : KeyMapValue) → FitsTree objects → FitsTree others → tree_id cut objects ≡ tree_id cut others
    → (files cut objects ≡ files cut others) ⊎ Clash (files cut objects) (files cut others)
unfolding files tree_id
same_files cut objects others fits fit named =
    let all = ranges cut (entries objects) in
    let due = ranges cut (entries others) in
    same_first (metarange_spelling (map line_of all)) (metarange_spelling (map line_of due)) (map range_spelling all) (map range_spelling due) named
    (λ is. same_ranges all due
    (apart (map line_of all) (map line_of due) (is_metarange all (ranges_are cut objects fits)) (is_metarange due (ranges_are cut others fit)) is))
