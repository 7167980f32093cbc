-- A tree whose files are there is read again, and what its range files name stands in its map.
use Rattle.std.proofs.Common.{◌≡◌, ◌⊎◌, inl, inr, ℕ, suc, ◌-◌, true, cond, List, [], ◌∷◌, ◌++◌, length}
use Rattle.std.proofs.Common.{map, drop, Option, Some, None, Ok, Err}
use Rattle.std.proofs.Common.{refl, sym, ap, subst, ◌∙◌, append_assoc, arith}
use Rattle.std.specs.List.{AllByRecursion, Contains, cons_option, filter_map}
use Rattle.std.specs.Cmp.{tied_itself}
use Rattle.std.specs.Option.{option_map_or}
use Rattle.std.specs.Result.{result_ok}
use Rattle.std.specs.Str.{bytes_eq}
use Rattle.std.specs.FinMap.{entries, entries_sorted, from_sorted, get, get-entries}
use Rattle.std.specs.declared.cmp.Ordering.TheVariants.{Equal}
use Rattle.std.proofs.lemmas.Bool.{eq-eqb}
use Rattle.std.proofs.lemmas.Cmp.{nat_list_cmp_total}
use Rattle.std.proofs.lemmas.List.{append-nil, get_or_default}
use Rattle.std.proofs.lemmas.List.Elements.{Contains-append_left, Contains-append_right}
use Rattle.std.proofs.lemmas.Slice.Eq.{bytes_eq-Decides}
use Rattle.lake_base.specs.Digest.{sha256}
use Rattle.lake_base.specs.Maps.{byte_order}
use Rattle.lake_base.specs.declared.digest.Digest.{Digest}
use Rattle.lake_base.proofs.MapsLemmas.{find_at, same_again}
use Rattle.lake_values.specs.KeyMap.{KeyMapValue}
use Rattle.lake_values.proofs.OrderLemmas.{first_or_later}
use Rattle.lake_format.specs.Cutting.{files, ranges, tree_id}
use Rattle.lake_format.specs.Spelling.{IsRange, file_name, line_of, path_at, range_spelling}
use Rattle.lake_format.specs.declared.cut.Cut.{Cut}
use Rattle.range_file.specs.RangeReading.{range_from}
use Rattle.range_file.specs.Rows.{RowValue}
use Rattle.range_file.proofs.ReadingLemmas.{again as range_again}
use Rattle.meta_range.specs.ReadingSteps.{◌>>=◌}
use Rattle.meta_range.specs.Files.{FitsTree, bytes_named}
use Rattle.meta_range.specs.Ranges.{files_of, first_file, metarange_of, rows_of}
use Rattle.meta_range.specs.TreeReading.{IsGiven, first_stray, not_cut, read_file, read_range, read_ranges, tree_with, whole}
use Rattle.meta_range.specs.declared.fault.TreeFault.TheVariants.{Damaged}
use Rattle.meta_range.specs.declared.file.File.{File}
use Rattle.meta_range.proofs.LawLemmas.{ranges_are}
use Rattle.meta_range.proofs.MetarangeLemmas.{again as metarange_again}
use Rattle.meta_range.proofs.RangesLemmas.{is_metarange, rows_of_cut}
use Rattle.lake_model.specs.Naming.{IsInMap}
use Rattle.lake_model.specs.Uncommitted.{own_number}
use Rattle.pair_trees.specs.PairTrees.{numbers_in, numbers_of}

-- ---- files

itself : (bytes : List ℕ) → bytes_eq bytes bytes ≡ true
itself bytes = (bytes_eq-Decides bytes bytes).1 refl

file_again : (bytes : List ℕ) (given : List File) → bytes_named (file_name bytes) given ≡ Some bytes → read_file (file_name bytes) given ≡ Ok bytes
unfolding read_file
file_again bytes given here =
    ap (whole (file_name bytes)) here ∙ ap (λ b. cond b (Ok bytes) (Err (Damaged (file_name bytes) (file_name bytes)))) (itself (sha256 bytes))

range_read : (given : List File) (i : ℕ) (rows : List RowValue) → IsRange rows → IsGiven given rows → read_range given i (line_of rows) ≡ Ok rows
unfolding read_range line_of
range_read given i rows is here =
    rw (
      file_again (range_spelling rows) given here,
      range_again rows is,
      eq-eqb (length rows) (length rows) refl,
      itself (path_at rows 0),
      itself (path_at rows (length rows - 1)),
    ) refl

read_all : (given : List File) (before read : List (List RowValue)) → AllByRecursion IsRange read → AllByRecursion (IsGiven given) read
    → read_ranges given before (map line_of read) ≡ Ok (before ++ read)
unfolding read_ranges
read_all given before [] each all = ap (λ l. Ok l) (sym (append-nil before))
read_all given before (range ∷ read) each all =
    ap (λ r. r >>= λ range. read_ranges given (before ++ range ∷ []) (map line_of read)) (range_read given (length before) range each.0 all.0)
    ∙ read_all given (before ++ range ∷ []) read each.1 all.1
    ∙ ap (λ l. Ok l) (append_assoc before (range ∷ []) read)

none_stray : (i : ℕ) (read : List (List RowValue)) → first_stray i read read ≡ None
none_stray i [] = refl
none_stray i (range ∷ read) = ap (λ b. cond b (first_stray (suc i) read read) (Some i)) (eq-eqb (length range) (length range) refl) ∙ none_stray (suc i) read

never_stray : (cut : Cut) (rows : List RowValue) → not_cut cut (ranges cut rows) ≡ None
unfolding not_cut
never_stray cut rows = ap (λ l. first_stray 0 (ranges cut rows) (ranges cut l)) (rows_of_cut cut rows) ∙ none_stray 0 (ranges cut rows)

behind : {X : Type 0} (y : X) (xs : List X) (x : X) → Contains xs x → Contains (y ∷ xs) x
behind y xs x has = (suc has.0, omega (arith, has.1), has.2)

-- each range is given whose file is
ranges_given : (given : List File) (read : List (List RowValue))
    → ((bytes : List ℕ) → Contains (map range_spelling read) bytes → bytes_named (file_name bytes) given ≡ Some bytes)
    → AllByRecursion (IsGiven given) read
ranges_given given [] all = tt
ranges_given given (range ∷ read) all = (
  all (range_spelling range) (0, omega arith, refl),
  ranges_given given read (λ bytes has. all bytes (behind (range_spelling range) (map range_spelling read) bytes has)),
)

-- ---- a tree

-- the tree of a map, whose metarange is one of these files, and its ranges some of those
pub among_again : (name : Digest) (metaranges given : List File) (cut : Cut) (objects : KeyMapValue) → FitsTree objects → name ≡ tree_id cut objects
    → bytes_named (file_name (first_file (files cut objects))) metaranges ≡ Some (first_file (files cut objects))
    → ((bytes : List ℕ) → Contains (drop 1 (files cut objects)) bytes → bytes_named (file_name bytes) given ≡ Some bytes)
    → tree_with name (bytes_named name metaranges) given cut ≡ Ok (record { map = objects; files = files cut objects })
unfolding tree_with files tree_id read_file
among_again name metaranges given cut objects fits named first all =
    let read = ranges cut (entries objects) in
    let metarange = metarange_of read in
    let are = ranges_are cut objects fits in
    let file : whole (file_name metarange) (bytes_named (file_name metarange) metaranges) ≡ Ok metarange = file_again metarange metaranges first in
    let lines = metarange_again (map line_of read) (is_metarange read are) in
    let each = read_all given [] read are.each (ranges_given given read all) in
    let objects_are : from_sorted {R = byte_order} (rows_of read) ≡ objects =
    ap (from_sorted {R = byte_order}) (rows_of_cut cut (entries objects)) ∙ same_again objects in
    ap (λ n. tree_with n (bytes_named n metaranges) given cut) named
    ∙ rw (file, lines, each, never_stray cut (entries objects)) (ap (λ o. Ok (record { map = o; files = files_of read })) objects_are)

-- ---- numbers

-- one of what h gives is given of one of these
record IsGivenOf {X Y : Type 0} (h : X → Option Y) (xs : List X) (y : Y) : Type 0 where
  one : X
  among : Contains xs one
  gives : h one ≡ Some y

module _ {X Y : Type 0} (h : X → Option Y) where
  more_given : (x : X) (xs : List X) (y : Y) → IsGivenOf h xs y → IsGivenOf h (x ∷ xs) y
  more_given x xs y rest = record { one = rest.one; among = behind x xs rest.one rest.among; gives = rest.gives }

  given_first : (x : X) (xs : List X) (z y : Y) → h x ≡ Some z → (z ≡ y) ⊎ Contains (filter_map h xs) y → (Contains (filter_map h xs) y → IsGivenOf h xs y)
      → IsGivenOf h (x ∷ xs) y
  given_first x xs z y e (inl is) rest = record { one = x; among = (0, omega arith, refl); gives = e ∙ ap (λ w. Some w) is }
  given_first x xs z y e (inr later) rest = more_given x xs y (rest later)

  given_either : (x : X) (xs : List X) (y : Y) (o : Option Y) → h x ≡ o → Contains (cons_option o (filter_map h xs)) y
      → (Contains (filter_map h xs) y → IsGivenOf h xs y) → IsGivenOf h (x ∷ xs) y
  given_either x xs y None e has rest = more_given x xs y (rest has)
  given_either x xs y (Some z) e has rest = given_first x xs z y e (first_or_later z y (filter_map h xs) has) rest

  given_of : (xs : List X) (y : Y) → Contains (filter_map h xs) y → IsGivenOf h xs y
  given_of [] y has = absurd (omega (arith, has.1))
  given_of (x ∷ xs) y has = given_either x xs y (h x) refl has (given_of xs y)

-- a range of these has these bytes
record IsSpelledOf (read : List (List RowValue)) (bytes : List ℕ) : Type 0 where
  range : List RowValue
  valid : IsRange range
  spelled : range_spelling range ≡ bytes
  inside : (row : RowValue) → Contains range row → Contains (rows_of read) row

spelled_of : (read : List (List RowValue)) → AllByRecursion IsRange read → (bytes : List ℕ) → Contains (map range_spelling read) bytes → IsSpelledOf read bytes
spelled_of [] each bytes has = absurd (omega (arith, has.1))
spelled_of (range ∷ read) each bytes has =
    by (first_or_later (range_spelling range) bytes (map range_spelling read) has) (spelled_of read each.1 bytes)
  where
    by : (range_spelling range ≡ bytes) ⊎ Contains (map range_spelling read) bytes → (Contains (map range_spelling read) bytes → IsSpelledOf read bytes)
        → IsSpelledOf (range ∷ read) bytes
    by (inl is) rest = record {
      range = range;
      valid = each.0;
      spelled = is;
      inside = λ row among. Contains-append_left range (rows_of read) row among;
    }
    by (inr later) rest =
        let one = rest later in
        record {
          range = one.range;
          valid = one.valid;
          spelled = one.spelled;
          inside = λ row among. Contains-append_right range (rows_of read) row (one.inside row among);
        }

-- a row of a map is found in it
row_found : (objects : KeyMapValue) (row : RowValue) → Contains (entries objects) row → get objects row.0 ≡ Some row.1
row_found objects row has =
    get-entries objects row.0
    ∙ find_at (entries objects) row.0 has.0 row (entries_sorted objects)
    (record {
      within = has.1;
      same = λ d. subst (λ (e : RowValue). byte_order e.0 row.0 ≡ Equal) (sym (get_or_default (entries objects) has.0 d row has.1 ∙ has.2))
          (tied_itself nat_list_cmp_total row.0);
    })
    ∙ ap (λ (e : RowValue). Some e.1) has.2

-- a number that a range file of a map's tree names stands in the map
pub number_back : (cut : Cut) (objects : KeyMapValue) (bytes : List ℕ) (number : ℕ) → FitsTree objects → Contains (drop 1 (files cut objects)) bytes
    → Contains (numbers_in bytes) number → IsInMap objects number
unfolding files numbers_in
number_back cut objects bytes number fits among names =
    let read = ranges cut (entries objects) in
    let range = spelled_of read (ranges_are cut objects fits).each bytes among in
    let read_again : range_from bytes ≡ Ok range.range = ap range_from (sym range.spelled) ∙ range_again range.range range.valid in
    let row = given_of (λ (row : RowValue). own_number row.1.place) range.range number
    (subst (λ r. Contains (option_map_or numbers_of (result_ok r) []) number) read_again names) in
    let inside = subst (λ rows. Contains rows row.one) (rows_of_cut cut (entries objects)) (range.inside row.one row.among) in
    record { path = row.one.0; entry = row.one.1; stands = row_found objects row.one inside; names = row.gives }
