-- A range of a tree is what its map has from the first to the last of its paths.
use Rattle.std.proofs.Common.{T, ◌≡◌, ℕ, zero, suc, ◌-◌, ◌<◌, ◌&&◌, Bool, true, false, cond, not, List, [], ◌∷◌, ◌++◌, length, get_or, Option, Some, None, refl}
use Rattle.std.proofs.Common.{sym, ap, subst, ◌∙◌, arith}
use Rattle.std.specs.List.{AllByRecursion}
use Rattle.std.specs.Ordering.{is_lt, is_eq}
use Rattle.std.specs.FinMap.{find, get, from_sorted, entries, get-from_sorted, entries-from_sorted, same_map, slice_cmp-IsAntisymmetric}
use Rattle.std.specs.FinMap.{nat_cmp-IsAntisymmetric}
use Rattle.std.specs.FinMap.Entries.{below_all}
use Rattle.std.specs.declared.cmp.Ordering.{Ordering}
use Rattle.std.specs.declared.cmp.Ordering.TheVariants.{Less, Equal, Greater}
use Rattle.std.proofs.lemmas.Cmp.{nat_list_cmp_total}
use Rattle.std.proofs.lemmas.Option.{slice_get_within, get_or_from_slice_get}
use Rattle.lake_base.specs.Maps.{byte_order, HasAscendingKeys}
use Rattle.lake_base.proofs.MapsLemmas.{first, second, both, less, turned, head_below, tail_ascends, same_key, less_more, find_none}
use Rattle.lake_values.specs.Entry.{EntryValue}
use Rattle.lake_format.specs.Spelling.{path_at, range_spelling, IsRange}
use Rattle.range_file.specs.Rows.{RowValue}
use Rattle.range_file.proofs.ReadingLemmas.{apart}
use Rattle.meta_range.specs.Ends.{AgreeBetween, HasEnds, IsRangeAt, is_between}
use Rattle.meta_range.specs.Files.{file_at}
use Rattle.meta_range.specs.Ranges.{TreeValue, rows_of, tree_of}
use Rattle.meta_range.proofs.FileLemmas.{file_behind, is_range_at}
use Rattle.meta_range.proofs.RangesLemmas.{ascend_back, last_below, last_of_more, length_map}

abbrev first_of : List RowValue → List ℕ
first_of range = path_at range 0

abbrev last_of : List RowValue → List ℕ
last_of range = path_at range (length range - 1)

-- ---- look-ups in rows

find_front : (path : List ℕ) (rows more : List RowValue) → find byte_order path more ≡ None → find byte_order path (rows ++ more) ≡ find byte_order path rows
find_front path [] more none = none
find_front path (row ∷ rows) more none = ap (λ found. cond (is_eq (byte_order path row.0)) (Some row.1) found) (find_front path rows more none)

find_behind : (path : List ℕ) (rows more : List RowValue) → find byte_order path rows ≡ None → find byte_order path (rows ++ more) ≡ find byte_order path more
find_behind path [] more none = refl
find_behind path (row ∷ rows) more none = by (is_eq (byte_order path row.0)) none (find_behind path rows more)
  where
    by : (b : Bool) → cond b (Some row.1) (find byte_order path rows) ≡ None
        → (find byte_order path rows ≡ None → find byte_order path (rows ++ more) ≡ find byte_order path more)
        → cond b (Some row.1) (find byte_order path (rows ++ more)) ≡ find byte_order path more
    by true none later = absurd cc
    by false none later = later none

-- a path that isn't below one that is above a third is above that
pub reaches : (low mid path : List ℕ) → byte_order low mid ≡ Less → is_lt (byte_order path mid) ≡ false → byte_order low path ≡ Less
reaches low mid path less never = by (byte_order path mid) refl
  where
    by : (o : Ordering) → byte_order path mid ≡ o → byte_order low path ≡ Less
    by Less is = absurd (cc (sym (ap is_lt is) ∙ never))
    by Equal is = subst (λ k. byte_order low k ≡ Less) (sym (same_key path mid is)) less
    by Greater is = nat_list_cmp_total.trans low mid path less (turned path mid Greater is)

-- a path that isn't above one that is below all rows is below all of them
pub below_rows : {X : Type 0} (last path : List ℕ) (rows : List (List ℕ × X)) → is_lt (byte_order last path) ≡ false → T (below_all byte_order last rows)
    → T (below_all byte_order path rows)
below_rows last path rows never all = by (byte_order last path) refl
  where
    by : (o : Ordering) → byte_order last path ≡ o → T (below_all byte_order path rows)
    by Less is = absurd (cc (sym (ap is_lt is) ∙ never))
    by Equal is = subst (λ k. T (below_all byte_order k rows)) (same_key last path is) all
    by Greater is = less_more path last rows (turned last path Greater is) all

-- nothing is found above the last path
none_after : (path : List ℕ) (rows : List RowValue) → HasAscendingKeys rows → byte_order (last_of rows) path ≡ Less → find byte_order path rows ≡ None
none_after path [] h above = refl
none_after path (row ∷ []) h above = ap (λ o. cond (is_eq o) (Some row.1) None) (turned row.0 path Less above)
none_after path (row ∷ next ∷ rows) h above =
    let later : byte_order (last_of (next ∷ rows)) path ≡ Less = sym (ap (λ k. byte_order k path) (last_of_more row next rows)) ∙ above in
    let low : byte_order row.0 path ≡ Less = below_last row next rows h later in
    ap (λ o. cond (is_eq o) (Some row.1) (find byte_order path (next ∷ rows))) (turned row.0 path Less low)
    ∙ none_after path (next ∷ rows) (tail_ascends row (next ∷ rows) h) later
  where
    below_last : (row next : RowValue) (rows : List RowValue) → HasAscendingKeys (row ∷ next ∷ rows) → byte_order (last_of (next ∷ rows)) path ≡ Less
        → byte_order row.0 path ≡ Less
    below_last row next [] h later = nat_list_cmp_total.trans row.0 next.0 path (less _ (first _ _ (head_below row (next ∷ []) h))) later
    below_last row next (more ∷ rows) h later =
        nat_list_cmp_total.trans row.0 next.0 path (less _ (first _ _ (head_below row (next ∷ more ∷ rows) h)))
        (below_last next more rows (tail_ascends row (next ∷ more ∷ rows) h) (sym (ap (λ k. byte_order k path) (last_of_more next more rows)) ∙ later))

-- a path below all rows of ranges is below the first of each
below_first : (key : List ℕ) (ranges : List (List RowValue)) (at : ℕ) (range : List RowValue) → at < length ranges → range ≡ get_or ranges at range
    → AllByRecursion IsRange ranges → T (below_all byte_order key (rows_of ranges)) → byte_order key (first_of range) ≡ Less
below_first key [] at range within is each h = absurd (omega arith)
below_first key ([] ∷ ranges) at range within is each h = absurd (omega (arith, each.0.some))
below_first key ((row ∷ rows) ∷ ranges) zero range within is each h = subst (λ r. byte_order key (first_of r) ≡ Less) (sym is) (less _ (first _ _ h))
below_first key ((row ∷ rows) ∷ ranges) (suc at) range within is each h = below_first key ranges at range (omega arith) is each.1 (behind (row ∷ rows) h)
  where
    behind : (rows : List RowValue) → T (below_all byte_order key (rows ++ rows_of ranges)) → T (below_all byte_order key (rows_of ranges))
    behind [] h = h
    behind (row ∷ rows) h = behind rows (second _ _ h)

-- ---- what stands between the ends of a range

module _ (path : List ℕ) where
  -- the first of ranges
  found_first : (range more : List RowValue) → IsRange range → HasAscendingKeys (range ++ more)
      → find byte_order path range ≡ cond (is_between (first_of range) (last_of range) path) (find byte_order path (range ++ more)) None
  found_first [] more is h = absurd (omega (arith, is.some))
  found_first (row ∷ rows) more is h = by (is_lt (byte_order path row.0)) refl (is_lt (byte_order (last_of (row ∷ rows)) path)) refl
    where
      range : List RowValue
      range = row ∷ rows

      by : (low : Bool) → is_lt (byte_order path row.0) ≡ low → (high : Bool) → is_lt (byte_order (last_of range) path) ≡ high
          → find byte_order path range ≡ cond (not low && not high) (find byte_order path (range ++ more)) None
      by true low high above = find_none path range (less_more_all (lt_less _ low))
        where
          lt_less : (o : Ordering) → is_lt o ≡ true → o ≡ Less
          lt_less Less e = refl
          lt_less Equal e = absurd cc
          lt_less Greater e = absurd cc

          less_more_all : byte_order path row.0 ≡ Less → T (below_all byte_order path range)
          less_more_all lt = both _ _ (subst (λ o. T (is_lt o)) (sym lt) tt) (less_more path row.0 rows lt (head_below row rows is.ascend))
      by false low true above = none_after path range is.ascend (less _ (subst T (sym above) tt))
      by false low false above =
          sym (find_front path range more (find_none path more (below_rows (last_of range) path more above (last_below range more is.some h))))

  pub found_within : (ranges : List (List RowValue)) (at : ℕ) (range : List RowValue) → at < length ranges → range ≡ get_or ranges at range
      → AllByRecursion IsRange ranges → HasAscendingKeys (rows_of ranges)
      → find byte_order path range ≡ cond (is_between (first_of range) (last_of range) path) (find byte_order path (rows_of ranges)) None
  found_within [] at range within is each h = absurd (omega arith)
  found_within (first ∷ ranges) zero range within is each h =
      subst (λ r. find byte_order path r ≡ cond (is_between (first_of r) (last_of r) path) (find byte_order path (first ++ rows_of ranges)) None) (sym is)
      (found_first first (rows_of ranges) each.0 h)
  found_within (before ∷ ranges) (suc at) range within is each h =
      found_within ranges at range (omega arith) is each.1 (ascend_back before (rows_of ranges) h)
      ∙ by (is_lt (byte_order path (first_of range))) refl (not (is_lt (byte_order (last_of range) path)))
    where
      by : (low : Bool) → is_lt (byte_order path (first_of range)) ≡ low → (within : Bool)
          → cond (not low && within) (find byte_order path (rows_of ranges)) None
          ≡ cond (not low && within) (find byte_order path (before ++ rows_of ranges)) None
      by true low more = refl
      by false low false = refl
      by false low true =
          let apart : byte_order (last_of before) (first_of range) ≡ Less =
          below_first (last_of before) ranges at range (omega arith) is each.1 (last_below before (rows_of ranges) each.0.some h) in
          sym (find_behind path before (rows_of ranges) (none_after path before each.0.ascend (reaches (last_of before) (first_of range) path apart low)))

-- ---- ranges of trees

module _ (tree : TreeValue) (place : ℕ) (range : List RowValue) (at : IsRangeAt tree place range) where
  within : place - 1 < length at.ranges
  within = slice_get_within at.ranges (place - 1) range at.there

  here : range ≡ get_or at.ranges (place - 1) range
  here = sym (get_or_from_slice_get at.ranges (place - 1) range range at.there)

  pub range_is : IsRange range
  range_is = is_range_at at.ranges (place - 1) range within here at.are.each

  -- its file
  pub file_is : file_at tree.files place ≡ range_spelling range
  file_is = ap (λ (t : TreeValue). file_at t.files place) at.of_tree ∙ spelled at.behind
    where
      spelled : 0 < place → file_at (tree_of at.ranges).files place ≡ range_spelling range
      spelled behind = file_behind at.ranges place range behind (inside behind) here
        where
          inside : 0 < place → place < length (tree_of at.ranges).files
          inside behind = omega (arith, within, long at.ranges)
            where
              long : (ranges : List (List RowValue)) → length (tree_of ranges).files ≡ suc (length ranges)
              long ranges = ap suc (length_map range_spelling ranges)

  -- it is what the map has between its ends
  pub found_is : (path : List ℕ) → find byte_order path range ≡ cond (is_between (first_of range) (last_of range) path) (get tree.map path) None
  found_is path =
      found_within path at.ranges (place - 1) range within here at.are.each at.are.ascend
      ∙ ap (λ found. cond (is_between (first_of range) (last_of range) path) found None)
      (sym (ap (λ (t : TreeValue). get t.map path) at.of_tree ∙ get-from_sorted byte_order (rows_of at.ranges) path at.are.ascend))

-- rows in which the same is found are the same
same_rows_found : (rows others : List RowValue) → HasAscendingKeys rows → HasAscendingKeys others
    → ((path : List ℕ) → find byte_order path rows ≡ find byte_order path others) → rows ≡ others
same_rows_found rows others h k found =
    sym (entries-from_sorted byte_order rows h)
    ∙ ap entries (same_map nat_list_cmp_total (slice_cmp-IsAntisymmetric nat_cmp-IsAntisymmetric) (from_sorted rows) (from_sorted others)
    (λ path. get-from_sorted byte_order rows path h ∙ found path ∙ sym (get-from_sorted byte_order others path k)))
    ∙ entries-from_sorted byte_order others k

module _ (tree other : TreeValue) (place at : ℕ) (first last : List ℕ) (one : HasEnds tree place first last) (two : HasEnds other at first last) where
  -- what is found in a range with these ends
  between : (t : TreeValue) (p : ℕ) (e : HasEnds t p first last) (path : List ℕ)
      → find byte_order path e.range ≡ cond (is_between first last path) (get t.map path) None
  between t p e path =
      found_is t p e.range e.at path
      ∙ ap (λ f. cond (is_between f (last_of e.range) path) (get t.map path) None) e.begins
      ∙ ap (λ l. cond (is_between first l path) (get t.map path) None) e.ends

  pub same_file : AgreeBetween first last tree.map other.map → file_at tree.files place ≡ file_at other.files at
  same_file agree =
      file_is tree place one.range one.at
      ∙ ap range_spelling (same_rows_found one.range two.range (range_is tree place one.range one.at).ascend (range_is other at two.range two.at).ascend
      (λ path. between tree place one path ∙ tested (is_between first last path) (agree path) ∙ sym (between other at two path)))
      ∙ sym (file_is other at two.range two.at)
    where
      tested : (b : Bool) {x y : Option EntryValue} → (b ≡ true → x ≡ y) → cond b x None ≡ cond b y None
      tested true e = e refl
      tested false e = refl

  pub same_between : file_at tree.files place ≡ file_at other.files at → AgreeBetween first last tree.map other.map
  same_between same path within =
      let rows : one.range ≡ two.range =
      apart one.range two.range (range_is tree place one.range one.at) (range_is other at two.range two.at)
      (sym (file_is tree place one.range one.at) ∙ same ∙ file_is other at two.range two.at) in
      sym (ap (λ b. cond b (get tree.map path) None) within) ∙ sym (between tree place one path)
      ∙ ap (find byte_order path) rows
      ∙ between other at two path ∙ ap (λ b. cond b (get other.map path) None) within
