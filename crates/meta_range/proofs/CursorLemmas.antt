-- What a cursor over the ranges of a tree has left.
use Rattle.std.proofs.Common.{T, ◌≡◌, ℕ, zero, suc, ◌-◌, ◌<◌, ◌≤◌, Bool, true, false, cond, not, List, [], ◌∷◌, ◌++◌, length, get_or, take, drop, Some, None}
use Rattle.std.proofs.Common.{refl, sym, ap, subst, ◌∙◌, arith}
use Rattle.std.specs.List.{filter, AllByRecursion, AllWithin}
use Rattle.std.specs.List.Sorted.{IsPartitionedBy}
use Rattle.std.specs.Ordering.{is_lt, is_eq}
use Rattle.std.specs.FinMap.{find}
use Rattle.std.specs.FinMap.Entries.{below_all}
use Rattle.std.specs.Str.{bytes_eq}
use Rattle.std.specs.declared.cmp.Ordering.{Ordering}
use Rattle.std.specs.declared.cmp.Ordering.TheVariants.{Less, Equal, Greater}
use Rattle.std.proofs.lemmas.Cmp.{nat_list_cmp_total, tied_itself}
use Rattle.std.proofs.lemmas.List.{take-append-drop}
use Rattle.std.proofs.lemmas.List.Elements.{filter-append}
use Rattle.std.proofs.lemmas.Slice.Eq.{bytes_eq-Decides}
use Rattle.std.proofs.lemmas.Map.Text.{is_eq-slice_cmp}
use Rattle.lake_base.specs.Maps.{byte_order, HasAscendingKeys}
use Rattle.lake_base.proofs.MapsLemmas.{first, second, both, less, turned, below_at, head_below, tail_ascends, less_more, find_none}
use Rattle.lake_values.specs.Cursor.{entries_from}
use Rattle.lake_values.proofs.CursorLemmas.{lt_is, below_down, all_kept, front_lost, part_front, kept_len, none_passed, seek_stays, seek_passes, ascends_from}
use Rattle.lake_format.specs.Spelling.{path_at, IsRange}
use Rattle.range_file.specs.Rows.{RowValue}
use Rattle.meta_range.specs.Ranges.{rows_of, rows_above, AreLeft}
use Rattle.meta_range.proofs.RangesLemmas.{path_is, last_of_more, last_below, all_append, rows_append, ascend_back}

abbrev is_low : List ℕ → RowValue → Bool
is_low least row = is_lt (byte_order row.0 least)

abbrev pub ends_low : List ℕ → List RowValue → Bool
ends_low least range = is_lt (byte_order (path_at range (length range - 1)) least)

-- ---- ranges whose paths are all below

below_append : (key : List ℕ) (a b : List RowValue) → T (below_all byte_order key (a ++ b)) → T (below_all byte_order key a) × T (below_all byte_order key b)
below_append key [] b h = (tt, h)
below_append key (row ∷ a) b h = let more = below_append key a b (second _ _ h) in (both _ _ (first _ _ h) more.0, more.1)

-- a key below all rows is below the last
below_last : (key : List ℕ) (rows : List RowValue) → 0 < length rows → T (below_all byte_order key rows)
    → byte_order key (path_at rows (length rows - 1)) ≡ Less
below_last key [] some h = absurd (omega arith)
below_last key (row ∷ rows) some h =
    sym (ap (byte_order key) (path_is (row ∷ rows) (length (row ∷ rows) - 1) row (omega arith)))
    ∙ below_at key (row ∷ rows) (length (row ∷ rows) - 1) row h (omega arith)

-- and below the last of each range
below_end : (key : List ℕ) (ranges : List (List RowValue)) (j : ℕ) (d : List RowValue) → j < length ranges → AllByRecursion IsRange ranges
    → T (below_all byte_order key (rows_of ranges))
    → byte_order key (path_at (get_or ranges j d) (length (get_or ranges j d) - 1)) ≡ Less
below_end key [] j d lt each h = absurd (omega arith)
below_end key (range ∷ ranges) zero d lt each h = below_last key range (omega (arith, each.0.some)) (below_append key range (rows_of ranges) h).0
below_end key (range ∷ ranges) (suc j) d lt each h = below_end key ranges j d (omega arith) each.1 (below_append key range (rows_of ranges) h).1

-- where a range ends below, so do those before it
pub ranges_parted : (least : List ℕ) (ranges : List (List RowValue)) → AllByRecursion IsRange ranges → HasAscendingKeys (rows_of ranges)
    → IsPartitionedBy (ends_low least) ranges
ranges_parted least [] each h i j d le lt passed = absurd (omega arith)
ranges_parted least (range ∷ ranges) each h zero zero d le lt passed = passed
ranges_parted least (range ∷ ranges) each h zero (suc j) d le lt passed =
    below_down least (path_at range (length range - 1)) (path_at (get_or ranges j d) (length (get_or ranges j d) - 1))
    (below_end (path_at range (length range - 1)) ranges j d (omega arith) each.1 (last_below range (rows_of ranges) (omega (arith, each.0.some)) h)) passed
ranges_parted least (range ∷ ranges) each h (suc i) zero d le lt passed = absurd (omega arith)
ranges_parted least (range ∷ ranges) each h (suc i) (suc j) d le lt passed =
    ranges_parted least ranges each.1 (ascend_back range (rows_of ranges) h) i j d (omega arith) (omega arith) passed

-- each row of rows that end below is below
all_low : (least : List ℕ) (rows : List RowValue) → HasAscendingKeys rows → 0 < length rows → ends_low least rows ≡ true
    → AllByRecursion (λ row. not (is_low least row) ≡ false) rows
all_low least [] h some low = absurd (omega arith)
all_low least (row ∷ []) h some low = (ap not low, tt)
all_low least (row ∷ next ∷ rows) h some low =
    let later : ends_low least (next ∷ rows) ≡ true = sym (ap (λ path. is_lt (byte_order path least)) (last_of_more row next rows)) ∙ low in (
      ap not (below_down least row.0 (path_at (next ∷ rows) (length (next ∷ rows) - 1))
          (below_last row.0 (next ∷ rows) (omega arith) (head_below row (next ∷ rows) h)) later),
      all_low least (next ∷ rows) (tail_ascends row (next ∷ rows) h) (omega arith) later,
    )

ranges_low : (least : List ℕ) (ranges : List (List RowValue)) → AllByRecursion IsRange ranges → AllByRecursion (λ range. ends_low least range ≡ true) ranges
    → AllByRecursion (λ row. not (is_low least row) ≡ false) (rows_of ranges)
ranges_low least [] each low = tt
ranges_low least (range ∷ ranges) each low =
    all_append (λ row. not (is_low least row) ≡ false) range (rows_of ranges) (all_low least range each.0.ascend (omega (arith, each.0.some)) low.0)
    (ranges_low least ranges each.1 low.1)

pub each_front : {X : Type 0} (P : X → Type 0) (n : ℕ) (xs : List X) → AllByRecursion P xs → AllByRecursion P (take n xs)
each_front P zero xs all = tt
each_front P (suc n) [] all = tt
each_front P (suc n) (x ∷ xs) all = (all.0, each_front P n xs all.1)

pub each_back : {X : Type 0} (P : X → Type 0) (n : ℕ) (xs : List X) → AllByRecursion P xs → AllByRecursion P (drop n xs)
each_back P zero xs all = all
each_back P (suc n) [] all = tt
each_back P (suc n) (x ∷ xs) all = each_back P n xs all.1

-- the ranges that end below are passed
pub ranges_passed : (least : List ℕ) (ranges : List (List RowValue)) (at : ℕ) → at ≤ length ranges → AllByRecursion IsRange ranges
    → AllWithin (λ range. ends_low least range ≡ true) ranges 0 at
    → entries_from least (rows_of (drop at ranges)) ≡ entries_from least (rows_of ranges)
ranges_passed least ranges at le each low =
    let p : RowValue → Bool = λ row. not (is_low least row) in
    sym (
    ap (λ rs. filter p (rows_of rs)) (sym (take-append-drop at ranges))
    ∙ ap (filter p) (rows_append (take at ranges) (drop at ranges))
    ∙ front_lost p (rows_of (take at ranges)) (rows_of (drop at ranges))
    (ranges_low least (take at ranges) (each_front IsRange at ranges each) (part_front (λ range. ends_low least range ≡ true) ranges at le low))
    )

-- ---- the range in which a seek ends

kept_all : (least : List ℕ) (rows : List RowValue) → AllByRecursion (λ row. is_low least row ≡ false) rows
    → AllByRecursion (λ row. not (is_low least row) ≡ true) rows
kept_all least [] all = tt
kept_all least (row ∷ rows) all = (ap not all.0, kept_all least rows all.1)

-- rows above a path that isn't below stay
stay_above : (least path : List ℕ) (rows : List RowValue) → is_lt (byte_order path least) ≡ false → T (below_all byte_order path rows)
    → entries_from least rows ≡ rows
stay_above least path rows never h = all_kept (λ row. not (is_low least row)) rows (kept_all least rows (none_passed least path rows never h))

pub in_range : (least : List ℕ) (range : List RowValue) (after : List (List RowValue)) → 0 < length range → HasAscendingKeys (range ++ rows_of after)
    → ends_low least range ≡ false
    → entries_from least range ++ rows_of after ≡ entries_from least (range ++ rows_of after)
in_range least range after some h never =
    sym (filter-append (λ row. not (is_low least row)) range (rows_of after)
    ∙ ap (λ l. entries_from least range ++ l)
    (stay_above least (path_at range (length range - 1)) (rows_of after) never (last_below range (rows_of after) some h)))

-- what stands first from a place on
at_drop : {X : Type 0} (xs : List X) (at : ℕ) (x : X) (rest : List X) → drop at xs ≡ x ∷ rest → (at < length xs) × (get_or xs at x ≡ x)
at_drop [] zero x rest e = absurd cc
at_drop [] (suc at) x rest e = absurd cc
at_drop (y ∷ xs) zero x rest e = let is : y ≡ x = cc in (omega arith, is)
at_drop (y ∷ xs) (suc at) x rest e = let more = at_drop xs at x rest e in (omega (arith, more.0), more.1)

-- a seek among ranges ends in the first that doesn't end below
pub ranges_sought : (least : List ℕ) (ranges : List (List RowValue)) (at : ℕ) (range : List RowValue) (after : List (List RowValue)) → at ≤ length ranges
    → AllByRecursion IsRange ranges → HasAscendingKeys (rows_of ranges)
    → AllWithin (λ range. ends_low least range ≡ true) ranges 0 at → AllWithin (λ range. ends_low least range ≡ false) ranges at (length ranges)
    → drop at ranges ≡ range ∷ after
    → entries_from least range ++ rows_of after ≡ entries_from least (rows_of ranges)
ranges_sought least ranges at range after le each h low never is =
    let here = at_drop ranges at range after is in
    let ends : ends_low least range ≡ false = subst (λ r. ends_low least r ≡ false) here.1 (never at range (omega arith) here.0) in
    let back : HasAscendingKeys (rows_of (take at ranges) ++ rows_of (drop at ranges)) =
    subst HasAscendingKeys (ap rows_of (sym (take-append-drop at ranges)) ∙ rows_append (take at ranges) (drop at ranges)) h in
    let rest : HasAscendingKeys (range ++ rows_of after) =
    subst (λ rs. HasAscendingKeys (rows_of rs)) is (ascend_back (rows_of (take at ranges)) (rows_of (drop at ranges)) back) in
    let some = subst (AllByRecursion IsRange) is (each_back IsRange at ranges each) in
    in_range least range after (omega (arith, some.0.some)) rest ends
    ∙ sym (ap (λ rs. entries_from least (rows_of rs)) is)
    ∙ ranges_passed least ranges at le each low

-- and it passes all where each ends below
pub none_sought : (least : List ℕ) (ranges : List (List RowValue)) (at : ℕ) → at ≤ length ranges → AllByRecursion IsRange ranges
    → AllWithin (λ range. ends_low least range ≡ true) ranges 0 at → length (drop at ranges) ≡ 0
    → rows_of (drop at ranges) ≡ entries_from least (rows_of ranges)
none_sought least ranges at le each low none =
    let gone = none_left (drop at ranges) none in
    ap rows_of gone ∙ sym (ap (λ rs. entries_from least (rows_of rs)) gone) ∙ ranges_passed least ranges at le each low
  where
    none_left : {X : Type 0} (xs : List X) → length xs ≡ 0 → xs ≡ []
    none_left [] e = refl
    none_left (x ∷ xs) e = absurd (omega arith)

-- where some of the rows stay, so do all after them
pub rows_stay : (least : List ℕ) (rows more : List RowValue) → HasAscendingKeys (rows ++ more) → 0 < length (entries_from least rows)
    → entries_from least rows ++ more ≡ entries_from least (rows ++ more)
rows_stay least rows more h some = sym (filter-append (λ row. not (is_low least row)) rows more ∙ ap (λ l. entries_from least rows ++ l) (after rows h some))
  where
    after : (rows : List RowValue) → HasAscendingKeys (rows ++ more) → 0 < length (entries_from least rows) → entries_from least more ≡ more
    after [] h some = absurd (omega arith)
    after (row ∷ rows) h some = by (is_low least row) refl (after rows (tail_ascends row (rows ++ more) h))
      where
        by : (b : Bool) → is_low least row ≡ b → (0 < length (entries_from least rows) → entries_from least more ≡ more) → entries_from least more ≡ more
        by true low rest = rest (subst (λ l. 0 < length l) (seek_passes least row rows low) some)
        by false never rest = stay_above least row.0 more never (below_append row.0 rows more (head_below row (rows ++ more) h)).1

-- where none of them stays, those after them are sought
pub rows_gone : (least : List ℕ) (rows more : List RowValue) → entries_from least rows ≡ [] → entries_from least more ≡ entries_from least (rows ++ more)
rows_gone least rows more none = sym (filter-append (λ row. not (is_low least row)) rows more ∙ ap (λ l. l ++ entries_from least more) none)

-- what is left after a seek ascends
pub left_from : (least : List ℕ) (all rows : List RowValue) (ranges : List (List RowValue)) → HasAscendingKeys all
    → rows ++ rows_of ranges ≡ entries_from least all → AllByRecursion IsRange ranges → AreLeft rows ranges
left_from least all rows ranges h is each = record { ascend = subst HasAscendingKeys (sym is) (ascends_from least all h); each = each }

-- what is left behind a row
pub left_behind : (row : RowValue) (all rows : List RowValue) (ranges : List (List RowValue)) → HasAscendingKeys all → all ≡ row ∷ (rows ++ rows_of ranges)
    → AllByRecursion IsRange ranges → AreLeft rows ranges
left_behind row all rows ranges h is each = record { ascend = tail_ascends row (rows ++ rows_of ranges) (subst HasAscendingKeys is h); each = each }

-- ---- the rows above a path

-- a second seek to the same place changes nothing
pub from_again : (least : List ℕ) (rows : List RowValue) → HasAscendingKeys rows → entries_from least (entries_from least rows) ≡ entries_from least rows
from_again least [] h = refl
from_again least (row ∷ rows) h = by (is_low least row) refl (from_again least rows (tail_ascends row rows h))
  where
    by : (b : Bool) → is_low least row ≡ b → entries_from least (entries_from least rows) ≡ entries_from least rows
        → entries_from least (entries_from least (row ∷ rows)) ≡ entries_from least (row ∷ rows)
    by true low rest = ap (entries_from least) (seek_passes least row rows low) ∙ rest ∙ sym (seek_passes least row rows low)
    by false never rest = ap (entries_from least) (seek_stays least row rows h never)

-- the first row isn't below where a seek changes nothing
pub never_low : (least : List ℕ) (row : RowValue) (rows : List RowValue) → entries_from least (row ∷ rows) ≡ row ∷ rows → is_low least row ≡ false
never_low least row rows same = by (is_low least row) refl
  where
    by : (b : Bool) → is_low least row ≡ b → is_low least row ≡ false
    by true low =
        let fewer = kept_len (λ row. not (is_low least row)) rows in
        let long = ap length (sym (seek_passes least row rows low) ∙ same) in
        absurd (omega arith)
    by false never = never

all_above : (path : List ℕ) (rows : List RowValue) → T (below_all byte_order path rows) → rows_above (Some path) rows ≡ rows
all_above path rows h = all_kept (λ row. is_lt (byte_order path row.0)) rows (each rows h)
  where
    each : (rows : List RowValue) → T (below_all byte_order path rows) → AllByRecursion (λ row. is_lt (byte_order path row.0) ≡ true) rows
    each [] h = tt
    each (row ∷ rows) h = (ap is_lt (less _ (first _ _ h)), each rows (second _ _ h))

-- the row at the path isn't above it
pub above_passed : (path : List ℕ) (row : RowValue) (rows : List RowValue) → HasAscendingKeys (row ∷ rows) → bytes_eq row.0 path ≡ true
    → rows ≡ rows_above (Some path) (row ∷ rows)
above_passed path row rows h same =
    let is : row.0 ≡ path = (bytes_eq-Decides row.0 path).0 same in
    let itself : is_lt (byte_order path row.0) ≡ false = ap (λ p. is_lt (byte_order p row.0)) (sym is) ∙ ap is_lt (tied_itself nat_list_cmp_total row.0) in
    sym (ap (λ b. cond b (row ∷ rows_above (Some path) rows) (rows_above (Some path) rows)) itself
    ∙ all_above path rows (subst (λ p. T (below_all byte_order p rows)) is (head_below row rows h)))

-- a row that is neither below nor at the path is above it
above_when : (path key : List ℕ) (o : Ordering) → byte_order key path ≡ o → is_lt o ≡ false → is_eq o ≡ false → byte_order path key ≡ Less
above_when path key Less is low tie = absurd cc
above_when path key Equal is low tie = absurd cc
above_when path key Greater is low tie = turned key path Greater is

pub above_stays : (path : List ℕ) (row : RowValue) (rows : List RowValue) → HasAscendingKeys (row ∷ rows) → is_low path row ≡ false
    → bytes_eq row.0 path ≡ false → row ∷ rows ≡ rows_above (Some path) (row ∷ rows)
above_stays path row rows h never other =
    let above : byte_order path row.0 ≡ Less = above_when path row.0 (byte_order row.0 path) refl never (is_eq-slice_cmp row.0 path ∙ other) in
    sym (ap (λ b. cond b (row ∷ rows_above (Some path) rows) (rows_above (Some path) rows)) (ap is_lt above)
    ∙ ap (λ l. row ∷ l) (all_above path rows (less_more path row.0 rows above (head_below row rows h))))

-- what is above a path is what is above it from there on
pub above_from : (path : List ℕ) (rows : List RowValue) → HasAscendingKeys rows → rows_above (Some path) (entries_from path rows) ≡ rows_above (Some path) rows
above_from path [] h = refl
above_from path (row ∷ rows) h = by (is_low path row) refl (above_from path rows (tail_ascends row rows h))
  where
    by : (b : Bool) → is_low path row ≡ b → rows_above (Some path) (entries_from path rows) ≡ rows_above (Some path) rows
        → rows_above (Some path) (entries_from path (row ∷ rows)) ≡ rows_above (Some path) (row ∷ rows)
    by true low rest =
        let behind : byte_order path row.0 ≡ Greater = turned row.0 path Less (lt_is (byte_order row.0 path) low) in
        ap (rows_above (Some path)) (seek_passes path row rows low) ∙ rest
        ∙ sym (ap (λ o. cond (is_lt o) (row ∷ rows_above (Some path) rows) (rows_above (Some path) rows)) behind)
    by false never rest = ap (rows_above (Some path)) (seek_stays path row rows h never)

-- ---- a look-up

-- what is found at a path is found from there on
pub find_from : (path : List ℕ) (rows : List RowValue) → HasAscendingKeys rows → find byte_order path rows ≡ find byte_order path (entries_from path rows)
find_from path [] h = refl
find_from path (row ∷ rows) h = by (is_low path row) refl (find_from path rows (tail_ascends row rows h))
  where
    by : (b : Bool) → is_low path row ≡ b → find byte_order path rows ≡ find byte_order path (entries_from path rows)
        → find byte_order path (row ∷ rows) ≡ find byte_order path (entries_from path (row ∷ rows))
    by true low rest =
        let behind : byte_order path row.0 ≡ Greater = turned row.0 path Less (lt_is (byte_order row.0 path) low) in
        ap (λ o. cond (is_eq o) (Some row.1) (find byte_order path rows)) behind ∙ rest
        ∙ ap (find byte_order path) (sym (seek_passes path row rows low))
    by false never rest = ap (find byte_order path) (sym (seek_stays path row rows h never))

-- the row at the path is found
pub find_first : (path : List ℕ) (row : RowValue) (rows : List RowValue) → bytes_eq row.0 path ≡ true → find byte_order path (row ∷ rows) ≡ Some row.1
find_first path row rows same =
    let is : row.0 ≡ path = (bytes_eq-Decides row.0 path).0 same in
    ap (λ p. cond (is_eq (byte_order p row.0)) (Some row.1) (find byte_order path rows)) (sym is)
    ∙ ap (λ o. cond (is_eq o) (Some row.1) (find byte_order path rows)) (tied_itself nat_list_cmp_total row.0)

-- nothing is found where the first row that isn't below is another
pub find_other : (path : List ℕ) (row : RowValue) (rows : List RowValue) → HasAscendingKeys (row ∷ rows) → is_low path row ≡ false → bytes_eq row.0 path ≡ false
    → find byte_order path (row ∷ rows) ≡ None
find_other path row rows h never other =
    let above : byte_order path row.0 ≡ Less = above_when path row.0 (byte_order row.0 path) refl never (is_eq-slice_cmp row.0 path ∙ other) in
    ap (λ o. cond (is_eq o) (Some row.1) (find byte_order path rows)) above ∙ find_none path rows (less_more path row.0 rows above (head_below row rows h))
