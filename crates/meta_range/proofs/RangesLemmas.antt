-- The ranges of a tree: their rows together, what is said of them, and the cut.
use Rattle.std.proofs.Common.{T, ◌≡◌, ℕ, zero, suc, ◌-◌, ◌+◌, ◌^◌, ◌<◌, ◌≤◌, false, List, [], ◌∷◌, ◌++◌, length, get_or, take, drop, map, refl, sym, ap, subst}
use Rattle.std.proofs.Common.{◌∙◌, append_assoc, arith}
use Rattle.std.specs.Prelude.{slice_index, None}
use Rattle.std.specs.Int.{w32, to_be_bytes, byte_at, bytes_high_first}
use Rattle.std.specs.List.{flat_map, AllByRecursion}
use Rattle.std.specs.Ordering.{is_gt}
use Rattle.std.specs.FinMap.Entries.{below_all}
use Rattle.std.proofs.lemmas.Cmp.{nat_list_cmp_total, tied_itself}
use Rattle.std.proofs.lemmas.List.{append-nil, length-append, length-drop, take-append-drop, take_more}
use Rattle.sha2.specs.Sha256.{digest_bytes, sha256}
use Rattle.sha2.proofs.Facts256.{length-sha256}
use Rattle.lake_base.specs.Maps.{byte_order, HasAscendingKeys}
use Rattle.lake_base.specs.Names.{path_fault}
use Rattle.lake_base.proofs.MapsLemmas.{first, second, both, less, below_at, head_below, tail_ascends}
use Rattle.lake_format.specs.Spelling.{path_at, range_spelling, line_of, AreBytes, IsDigest, IsRow, IsRange, IsLine, IsBelowNext, FollowOn, IsMetarange}
use Rattle.lake_format.specs.Cutting.{first_len, ranges_within, ranges}
use Rattle.lake_format.specs.declared.cut.Cut.{Cut}
use Rattle.lake_format.specs.declared.range_line.RangeLine.{RangeLine}
use Rattle.lake_format.proofs.CutLemmas.{first_some}
use Rattle.range_file.specs.Rows.{RowValue}
use Rattle.meta_range.specs.Ranges.{rows_of, AreRanges}

-- ---- digests

byte_below : (k n : ℕ) → byte_at k n < 256
byte_below zero n = omega arith
byte_below (suc k) n = omega arith

bytes_high : (k n i : ℕ) → slice_index (bytes_high_first k n) i < 256
bytes_high zero n i = omega arith
bytes_high (suc k) n zero = byte_below k n
bytes_high (suc k) n (suc i) = bytes_high k n i

bytes_append : (a b : List ℕ) → AreBytes a → AreBytes b → AreBytes (a ++ b)
bytes_append [] b left right i = right i
bytes_append (x ∷ a) b left right zero = left zero
bytes_append (x ∷ a) b left right (suc i) = bytes_append a b (λ k. left (suc k)) right i

words_are_bytes : (h : List ℕ) (n : ℕ) → AreBytes (digest_bytes h n)
unfolding digest_bytes
words_are_bytes h zero = λ i. omega arith
words_are_bytes h (suc n) = bytes_append (digest_bytes h n) (to_be_bytes w32 (slice_index h n)) (words_are_bytes h n) (bytes_high 4 (slice_index h n))

pub is_digest : (bytes : List ℕ) → IsDigest (sha256 bytes)
unfolding sha256
is_digest bytes = record { long = length-sha256 bytes; bytes = words_are_bytes _ 8 }

-- ---- lists

-- what holds of all holds of the one at a place
pub all_at : {X : Type 0} (P : X → Type 0) (xs : List X) (i : ℕ) (x : X) → i < length xs → x ≡ get_or xs i x → AllByRecursion P xs → P x
all_at P [] i x lt is all = absurd (omega arith)
all_at P (y ∷ xs) zero x lt is all = subst P (sym is) all.0
all_at P (y ∷ xs) (suc i) x lt is all = all_at P xs i x (omega arith) is all.1

pub all_append : {X : Type 0} (P : X → Type 0) (low high : List X) → AllByRecursion P low → AllByRecursion P high → AllByRecursion P (low ++ high)
all_append P [] high a b = b
all_append P (x ∷ low) high a b = (a.0, all_append P low high a.1 b)

-- what is appended for each item is appended for what is said of it
pub flat_of_map : {X Y : Type 0} (f : Y → List ℕ) (g : X → Y) (xs : List X) → flat_map (λ x. f (g x)) xs ≡ flat_map f (map g xs)
flat_of_map f g [] = refl
flat_of_map f g (x ∷ xs) = ap (λ l. f (g x) ++ l) (flat_of_map f g xs)

pub length_map : {X Y : Type 0} (f : X → Y) (xs : List X) → length (map f xs) ≡ length xs
length_map f [] = refl
length_map f (x ∷ xs) = omega (arith, length_map f xs)

-- what is written piece by piece
pub four : (out name count first last o1 o2 o3 all : List ℕ) → o1 ≡ out ++ name → o2 ≡ o1 ++ count → o3 ≡ o2 ++ first → all ≡ o3 ++ last
    → all ≡ out ++ (name ++ (count ++ (first ++ last)))
four out name count first last o1 o2 o3 all e1 e2 e3 e4 = rw (e4, e3, e2, e1) (simp append_assoc)

-- ---- rows of ranges

pub rows_append : (a b : List (List RowValue)) → rows_of (a ++ b) ≡ rows_of a ++ rows_of b
rows_append [] b = refl
rows_append (range ∷ a) b = ap (λ l. range ++ l) (rows_append a b) ∙ sym (append_assoc range (rows_of a) (rows_of b))

-- one more range
pub rows_more : (ranges : List (List RowValue)) (i : ℕ) (range : List RowValue) → i < length ranges → range ≡ get_or ranges i range
    → length (rows_of (take (i + 1) ranges)) ≡ length (rows_of (take i ranges)) + length range
rows_more ranges i range lt is =
    let whole : take (i + 1) ranges ≡ take i ranges ++ range ∷ [] = take_more ranges i range lt ∙ ap (λ r. take i ranges ++ r ∷ []) (sym is) in
    ap (λ rs. length (rows_of rs)) whole ∙ ap length (rows_append (take i ranges) (range ∷ [])) ∙ length-append (rows_of (take i ranges)) (range ++ [])
    ∙ ap (λ l. length (rows_of (take i ranges)) + length l) (append-nil range)

-- where each range has rows, there are no more ranges than rows
pub ranges_few : (ranges : List (List RowValue)) → AllByRecursion IsRange ranges → length ranges ≤ length (rows_of ranges)
ranges_few [] each = omega arith
ranges_few (range ∷ ranges) each = omega (arith, each.0.some, ranges_few ranges each.1, length-append range (rows_of ranges))

pub ranges_count : (ranges : List (List RowValue)) → AreRanges ranges → length ranges < 2 ^ 32
ranges_count ranges are = omega (arith, ranges_few ranges are.each, are.few)

-- each row of ranges within their limits
pub rows_within : (ranges : List (List RowValue)) → AllByRecursion IsRange ranges → AllByRecursion IsRow (rows_of ranges)
rows_within [] each = tt
rows_within (range ∷ ranges) each = all_append IsRow range (rows_of ranges) each.0.each (rows_within ranges each.1)

cut_within : (cut : Cut) (n : ℕ) (rows : List RowValue) → length rows ≤ n → rows_of (ranges_within n cut rows) ≡ rows
cut_within cut zero [] few = refl
cut_within cut zero (row ∷ rows) few = absurd (omega arith)
cut_within cut (suc n) [] few = refl
cut_within cut (suc n) (row ∷ rows) few =
    let len = first_len cut (row ∷ rows) in
    let some = first_some cut row rows in
    let shorter = length-drop len (row ∷ rows) in
    ap (λ l. take len (row ∷ rows) ++ l) (cut_within cut n (drop len (row ∷ rows)) (omega arith)) ∙ take-append-drop len (row ∷ rows)

-- the rows of the ranges that the cut gives
pub rows_of_cut : (cut : Cut) (rows : List RowValue) → rows_of (ranges cut rows) ≡ rows
unfolding ranges
rows_of_cut cut rows = cut_within cut (length rows) rows (omega arith)

-- ---- paths that ascend

below_append : (key : List ℕ) (a b : List RowValue) → T (below_all byte_order key (a ++ b)) → T (below_all byte_order key a) × T (below_all byte_order key b)
below_append key [] b h = (tt, h)
below_append key (row ∷ a) b h = let more = below_append key a b (second _ _ h) in (both _ _ (first _ _ h) more.0, more.1)

pub ascend_front : (a b : List RowValue) → HasAscendingKeys (a ++ b) → HasAscendingKeys a
ascend_front [] b h = tt
ascend_front (row ∷ a) b h = both _ _ (below_append row.0 a b (head_below row (a ++ b) h)).0 (ascend_front a b (tail_ascends row (a ++ b) h))

pub ascend_back : (a b : List RowValue) → HasAscendingKeys (a ++ b) → HasAscendingKeys b
ascend_back [] b h = h
ascend_back (row ∷ a) b h = ascend_back a b (tail_ascends row (a ++ b) h)

pub ascend_take : (n : ℕ) (rows : List RowValue) → HasAscendingKeys rows → HasAscendingKeys (take n rows)
ascend_take n rows h = ascend_front (take n rows) (drop n rows) (subst HasAscendingKeys (sym (take-append-drop n rows)) h)

-- the path at a place
pub path_is : (rows : List RowValue) (i : ℕ) (d : RowValue) → i < length rows → (get_or rows i d).0 ≡ path_at rows i
path_is [] i d lt = absurd (omega arith)
path_is (row ∷ rows) zero d lt = refl
path_is (row ∷ rows) (suc i) d lt = path_is rows i d (omega arith)

pub last_of_more : (row next : RowValue) (rows : List RowValue)
    → path_at (row ∷ next ∷ rows) (length (row ∷ next ∷ rows) - 1) ≡ path_at (next ∷ rows) (length (next ∷ rows) - 1)
last_of_more row next rows =
    let place : length (row ∷ next ∷ rows) - 1 ≡ suc (length (next ∷ rows) - 1) = omega arith in
    ap (path_at (row ∷ next ∷ rows)) place

-- the last path of rows is below each of those after them
pub last_below : (a b : List RowValue) → 0 < length a → HasAscendingKeys (a ++ b) → T (below_all byte_order (path_at a (length a - 1)) b)
last_below [] b some h = absurd (omega arith)
last_below (row ∷ []) b some h = head_below row b h
last_below (row ∷ next ∷ a) b some h =
    subst (λ path. T (below_all byte_order path b)) (sym (last_of_more row next a)) (last_below (next ∷ a) b (omega arith) (tail_ascends row (next ∷ a ++ b) h))

-- no path of rows that ascend is below the first
at_least_first : (rows : List RowValue) (i : ℕ) (d : RowValue) → HasAscendingKeys rows → i < length rows
    → is_gt (byte_order (get_or rows 0 d).0 (get_or rows i d).0) ≡ false
at_least_first [] i d h lt = absurd (omega arith)
at_least_first (row ∷ rows) zero d h lt = ap is_gt (tied_itself nat_list_cmp_total row.0)
at_least_first (row ∷ rows) (suc i) d h lt = ap is_gt (below_at row.0 rows i d (head_below row rows h) (omega arith))

-- ---- what is said of ranges

path_within : (rows : List RowValue) (i : ℕ) → i < length rows → AllByRecursion IsRow rows → path_fault (path_at rows i) ≡ None
path_within [] i lt each = absurd (omega arith)
path_within (row ∷ rows) zero lt each = each.0.0
path_within (row ∷ rows) (suc i) lt each = path_within rows i (omega arith) each.1

-- what is said of a range is within its limits
line_within : (rows : List RowValue) → IsRange rows → IsLine (line_of rows)
unfolding line_of
line_within [] is = absurd (omega (arith, is.some))
line_within (row ∷ rows) is = record {
  span = record {
    some = is.some;
    order =
        sym (ap (λ p. is_gt (byte_order row.0 p)) (path_is (row ∷ rows) (length (row ∷ rows) - 1) row (omega arith)))
        ∙ at_least_first (row ∷ rows) (length (row ∷ rows) - 1) row is.ascend (omega arith);
  };
  name = is_digest (range_spelling (row ∷ rows));
  wide = is.few;
  first = path_within (row ∷ rows) 0 (omega arith) is.each;
  last = path_within (row ∷ rows) (length (row ∷ rows) - 1) (omega arith) is.each;
}

lines_within : (ranges : List (List RowValue)) → AllByRecursion IsRange ranges → AllByRecursion IsLine (map line_of ranges)
lines_within [] each = tt
lines_within (range ∷ ranges) each = (line_within range each.0, lines_within ranges each.1)

-- rows above a path, the first of which begins the next range
above_next : (path : List ℕ) (ranges : List (List RowValue)) → AllByRecursion IsRange ranges → T (below_all byte_order path (rows_of ranges))
    → IsBelowNext path (map line_of ranges)
unfolding line_of
above_next path [] each h = tt
above_next path ([] ∷ ranges) each h = absurd (omega (arith, each.0.some))
above_next path ((row ∷ rows) ∷ ranges) each h = less _ (first _ _ h)

lines_follow : (ranges : List (List RowValue)) → AllByRecursion IsRange ranges → HasAscendingKeys (rows_of ranges) → FollowOn (map line_of ranges)
unfolding line_of
lines_follow [] each h = tt
lines_follow (range ∷ ranges) each h = (
  above_next (path_at range (length range - 1)) ranges each.1 (last_below range (rows_of ranges) (omega (arith, each.0.some)) h),
  lines_follow ranges each.1 (ascend_back range (rows_of ranges) h),
)

-- what is said of the ranges of a tree is a metarange
pub is_metarange : (ranges : List (List RowValue)) → AreRanges ranges → IsMetarange (map line_of ranges)
is_metarange ranges are = record {
  few = omega (arith, length_map line_of ranges, ranges_few ranges are.each, are.few);
  each = lines_within ranges are.each;
  follow = lines_follow ranges are.each are.ascend;
}

-- what is said of rows, part by part
pub line_is : (rows : List RowValue) (line : RangeLine) → line.name.0 ≡ sha256 (range_spelling rows) → line.rows ≡ length rows → line.first ≡ path_at rows 0
    → line.last ≡ path_at rows (length rows - 1) → line ≡ line_of rows
unfolding line_of
line_is rows line name len low high = λ i. record { name = record { 0 = name i }; rows = len i; first = low i; last = high i }
