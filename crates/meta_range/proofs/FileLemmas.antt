-- One file of a tree, and trees with the same files.
use Rattle.std.proofs.Common.{◌≡◌, ℕ, zero, suc, ◌-◌, ◌<◌, Bool, true, false, List, [], ◌∷◌, length, get_or, map, Some, refl, sym, ap, subst, ◌∙◌, arith}
use native.Mathlib.Numerals.{unary_clauses}
use Rattle.std.specs.List.{AllByRecursion}
use Rattle.std.specs.Option.{option_map, unwrap_or}
use Rattle.std.specs.Str.{bytes_eq}
use Rattle.std.proofs.lemmas.Option.{slice_get-get_or, slice_get-map}
use Rattle.std.proofs.lemmas.Slice.Eq.{bytes_eq-Decides}
use Rattle.lake_format.specs.Spelling.{range_spelling, IsRange}
use Rattle.range_file.specs.Rows.{RowValue}
use Rattle.range_file.proofs.ReadingLemmas.{apart}
use Rattle.meta_range.specs.Files.{file_at}
use Rattle.meta_range.specs.RangeNames.{same_rows}
use Rattle.meta_range.specs.Ranges.{AreRanges, TreeValue, files_of, tree_of}
use Rattle.meta_range.proofs.NamesLemmas.{same_rows_are}

-- ---- one file

mapped : (ranges : List (List RowValue)) → length (map range_spelling ranges) ≡ length ranges
mapped [] = refl
mapped (range ∷ ranges) = ap suc (mapped ranges)

-- the file of a range stands behind the metarange
pub file_behind : (ranges : List (List RowValue)) (place : ℕ) (range : List RowValue) → 0 < place → place < length (files_of ranges)
    → range ≡ get_or ranges (place - 1) range → file_at (files_of ranges) place ≡ range_spelling range
file_behind ranges zero range behind within is = absurd (omega arith)
file_behind ranges (suc place) range behind within is =
    ap (λ o. unwrap_or o []) (slice_get-map range_spelling ranges place
    ∙ ap (option_map range_spelling) (slice_get-get_or ranges place range (omega (arith, mapped ranges)) ∙ ap (λ r. Some r) (sym (simp unary_clauses at is))))

-- ---- the files of two ranges

agree : (p q : Bool) → (p ≡ true → q ≡ true) → (q ≡ true → p ≡ true) → p ≡ q
agree true q more less = sym (more refl)
agree false true more less = less refl
agree false false more less = refl

-- a range of ranges within their limits
pub is_range_at : (ranges : List (List RowValue)) (place : ℕ) (range : List RowValue) → place < length ranges → range ≡ get_or ranges place range
    → AllByRecursion IsRange ranges → IsRange range
is_range_at [] place range within is each = absurd (omega arith)
is_range_at (first ∷ ranges) zero range within is each = subst IsRange (sym is) each.0
is_range_at (first ∷ ranges) (suc place) range within is each = is_range_at ranges place range (omega arith) is each.1

-- ranges with the same rows have the same file, and no others have it
pub same_file_as : (range other : List RowValue) → IsRange range → IsRange other
    → same_rows range other ≡ bytes_eq (range_spelling range) (range_spelling other)
same_file_as range other a b =
    agree (same_rows range other) (bytes_eq (range_spelling range) (range_spelling other))
    (λ same. (bytes_eq-Decides (range_spelling range) (range_spelling other)).1 (ap range_spelling ((same_rows_are range other).0 same)))
    (λ same. (same_rows_are range other).1 (apart range other a b ((bytes_eq-Decides (range_spelling range) (range_spelling other)).0 same)))

-- so it is with files of trees
module _ (tree : TreeValue) (ranges : List (List RowValue)) (here : tree ≡ tree_of ranges) where
  -- the range of a file stands there
  before : (place : ℕ) → 0 < place → place < length tree.files → place - 1 < length ranges
  before place behind within =
      omega (arith, mapped ranges, subst (λ (t : TreeValue). place < length t.files) here within)

  -- the file of a range of a tree
  pub range_file_at : (place : ℕ) (range : List RowValue) → 0 < place → place < length tree.files → range ≡ get_or ranges (place - 1) range
      → range_spelling range ≡ file_at tree.files place
  range_file_at place range behind within is =
      sym (ap (λ (t : TreeValue). file_at t.files place) here
      ∙ file_behind ranges place range behind (subst (λ (t : TreeValue). place < length t.files) here within) is)

module _ (tree other : TreeValue) (ranges others : List (List RowValue)) (here : tree ≡ tree_of ranges) (there : other ≡ tree_of others)
    (are : AreRanges ranges) (also : AreRanges others) where
  pub same_files_at : (place place_there : ℕ) (range two : List RowValue) → 0 < place → 0 < place_there → place < length tree.files
      → place_there < length other.files
      → range ≡ get_or ranges (place - 1) range → two ≡ get_or others (place_there - 1) two
      → same_rows range two ≡ bytes_eq (file_at tree.files place) (file_at other.files place_there)
  same_files_at place place_there range two behind after within inside is also_is =
      same_file_as range two
      (is_range_at ranges (place - 1) range (before tree ranges here place behind within) is are.each)
      (is_range_at others (place_there - 1) two (before other others there place_there after inside) also_is also.each)
      ∙ ap (λ bytes. bytes_eq bytes (range_spelling two)) (range_file_at tree ranges here place range behind within is)
      ∙ ap (bytes_eq (file_at tree.files place)) (range_file_at other others there place_there two after inside also_is)

-- ---- trees with the same files

same_tail : {X : Type 0} (x y : X) (xs ys : List X) → x ∷ xs ≡ y ∷ ys → xs ≡ ys
same_tail x y xs ys e = cc

same_head : {X : Type 0} (x y : X) (xs ys : List X) → x ∷ xs ≡ y ∷ ys → x ≡ y
same_head x y xs ys e = cc

same_ranges : (ranges others : List (List RowValue)) → AllByRecursion IsRange ranges → AllByRecursion IsRange others
    → map range_spelling ranges ≡ map range_spelling others → ranges ≡ others
same_ranges [] [] each all e = refl
same_ranges [] (other ∷ others) each all e = absurd cc
same_ranges (range ∷ ranges) [] each all e = absurd cc
same_ranges (range ∷ ranges) (other ∷ others) each all e =
    let one = apart range other each.0 all.0 (same_head _ _ _ _ e) in
    let more = same_ranges ranges others each.1 all.1 (same_tail _ _ _ _ e) in
    ap (λ r. r ∷ ranges) one ∙ ap (λ rs. other ∷ rs) more

pub same_tree : (ranges others : List (List RowValue)) → AreRanges ranges → AreRanges others → files_of ranges ≡ files_of others
    → tree_of ranges ≡ tree_of others
same_tree ranges others are also e = ap tree_of (same_ranges ranges others are.each also.each (same_tail _ _ _ _ e))
