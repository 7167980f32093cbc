-- A tree that is read has the files that were given, and a tree whose files are given is read.
use Rattle.std.proofs.Common.{T, inl, inr, ◌≡◌, ℕ, zero, suc, ◌+◌, ◌-◌, ◌<◌, ◌≤◌, ◌^◌, Bool, true, false, cond, ◌&&◌, eqb, List, [], ◌∷◌, ◌++◌, length, get_or}
use Rattle.std.proofs.Common.{take, drop, map, Option, Some, None, Result, Ok, Err, refl, sym, ap, subst, ◌∙◌, append_assoc, drop-cons, add-one, arith}
use Rattle.std.specs.List.{AllByRecursion, Contains}
use Rattle.std.specs.FinMap.{entries, from_sorted, entries-from_sorted, len-entries}
use Rattle.std.specs.FinMap.Entries.{below_all}
use Rattle.std.specs.BTreeMap.{BTreeMap, get}
use Rattle.std.specs.Str.{bytes_eq}
use Rattle.std.specs.declared.cmp.Ordering.TheVariants.{Less}
use Rattle.std.specs.Ordering.{is_eq, is_lt}
use Rattle.std.proofs.lemmas.Bool.{eqb-true, eq-eqb, cases_Bool}
use Rattle.std.proofs.lemmas.List.{append-nil, length-append, length-take, take_more}
use Rattle.std.proofs.Math.Seq.{take-append_seam, drop-append_seam}
use Rattle.std.proofs.lemmas.Slice.Eq.{bytes_eq-Decides}
use Rattle.lake_base.specs.Digest.{sha256}
use Rattle.lake_base.specs.Maps.{byte_order, HasAscendingKeys}
use Rattle.lake_base.specs.declared.digest.Digest.{Digest}
use Rattle.lake_base.proofs.MapsLemmas.{first, both, less, less_more, head_below, tail_ascends, same_again}
use Rattle.lake_values.specs.Ancestry.{id_order, same_id}
use Rattle.lake_values.specs.KeyMap.{KeyMapValue}
use Rattle.lake_format.specs.Spelling.{file_name, path_at, range_spelling, metarange_spelling, line_of, IsRow, IsRange, IsMetarange, IsBelowNext, FollowOn}
use Rattle.lake_format.specs.Cutting.{first_len, ranges, files, tree_id}
use Rattle.lake_format.specs.declared.cut.Cut.{Cut}
use Rattle.lake_format.specs.declared.range_line.RangeLine.{RangeLine}
use Rattle.lake_format.proofs.CutLemmas.{ranges_none, ranges_of, first_below}
use Rattle.range_file.specs.Rows.{RowValue}
use Rattle.range_file.specs.RangeReading.{range_from, Fails as RangeFails}
use Rattle.range_file.specs.declared.fault.RangeFault.{RangeFault}
use Rattle.range_file.specs.declared.fault.RangeFault.TheVariants.{NoMemory as RangeNoMemory}
use Rattle.range_file.proofs.ReadingLemmas.{again as range_again}
use Rattle.meta_range.specs.ReadingSteps.{◌>>=◌}
use Rattle.meta_range.specs.Ranges.{TreeValue, first_file, rows_of, metarange_of, files_of, tree_of, AreRanges}
use Rattle.meta_range.specs.Files.{bytes_named, FitsTree}
use Rattle.meta_range.specs.Metarange.{metarange_from, Fails as MetaFails}
use Rattle.meta_range.specs.TreeReading.{Fails, whole, read_file, of_metarange, in_metarange, of_range, in_range, is_said, read_range, read_ranges, first_stray}
use Rattle.meta_range.specs.TreeReading.{not_cut, cut_of, tree_from, tree_with, AreGiven, AreShelved, IsShelved, IsTreeOf, IsTreeWith, IsGiven, IsRead, AreRead}
use Rattle.meta_range.specs.declared.file.File.{File}
use Rattle.meta_range.specs.declared.fault.MetaFault.{MetaFault}
use Rattle.meta_range.specs.declared.fault.MetaFault.TheVariants.{NoMemory as MetaNoMemory}
use Rattle.meta_range.specs.declared.fault.TreeFault.{TreeFault}
use Rattle.meta_range.specs.declared.fault.TreeFault.TheVariants.{Damaged, Mismatch, NotCut, NoMemory}
use Rattle.meta_range.proofs.RangesLemmas.{all_append, rows_within, rows_of_cut, line_is, is_metarange}
use Rattle.meta_range.proofs.MetarangeLemmas.{again as metarange_again}
use Rattle.meta_range.proofs.NamesLemmas.{id_same, tie_id}
use Rattle.meta_range.proofs.LawLemmas.{ranges_are}

-- ---- faults

pub failed : {A B : Type 0} (e : TreeFault) (r : Result A TreeFault) (f : A → Result B TreeFault) → Fails e r → Fails e (r >>= f)
failed NoMemory r f h = tt
failed e r f h = ap (λ x. x >>= f) h

-- the fault of a range is the tree's
pub range_failed : {X : Type 0} (i : ℕ) (fault : RangeFault) (r : Result X RangeFault) → RangeFails fault r → Fails (of_range i fault) (in_range i r)
range_failed i RangeNoMemory r h = tt
range_failed i fault r h = ap (in_range i) h

-- and so is that of the metarange
pub metarange_failed : {X : Type 0} (fault : MetaFault) (r : Result X MetaFault) → MetaFails fault r → Fails (of_metarange fault) (in_metarange r)
metarange_failed MetaNoMemory r h = tt
metarange_failed fault r h = ap in_metarange h

-- ---- files

abbrev done : {A : Type 0} → A → Result A TreeFault
done x = Ok x

abbrev refused : {A : Type 0} → TreeFault → Result A TreeFault
refused fault = Err fault

ok_is : {A : Type 0} (x y : A) → done x ≡ done y → x ≡ y
ok_is x y e = cc

named : (digest : Digest) (bytes : List ℕ) → sha256 bytes ≡ digest.0 → digest ≡ file_name bytes
named digest bytes is = λ i. record { 0 = sym is i }

-- the bytes that are read of a name are given, and have that SHA-256
whole_is : (name : Digest) (found : Option (List ℕ)) (bytes : List ℕ) → whole name found ≡ Ok bytes → (found ≡ Some bytes) × (name ≡ file_name bytes)
whole_is name None bytes e = absurd cc
whole_is name (Some other) bytes e =
    elim (cases_Bool (bytes_eq (sha256 other) name.0)) [
      | inl same ↦
          let ok : done other ≡ done bytes = sym (ap (λ b. cond b (Ok other) (Err (Damaged name (file_name other)))) same) ∙ e in
          let is = ok_is other bytes ok in
          (ap Some is, named name other ((bytes_eq-Decides (sha256 other) name.0).0 same) ∙ ap file_name is)
      | inr apart ↦
          let bad : refused (Damaged name (file_name other)) ≡ done bytes =
          sym (ap (λ b. cond b (Ok other) (Err (Damaged name (file_name other)))) apart) ∙ e in
          absurd cc
    ]

pub file_read : (name : Digest) (given : List File) (bytes : List ℕ) → read_file name given ≡ Ok bytes
    → (bytes_named name given ≡ Some bytes) × (name ≡ file_name bytes)
unfolding read_file
file_read name given bytes = whole_is name (bytes_named name given) bytes

-- a file that is given under its SHA-256 is read
file_again : (bytes : List ℕ) (given : List File) → bytes_named (file_name bytes) given ≡ Some bytes → read_file (file_name bytes) given ≡ Ok bytes
unfolding read_file
file_again bytes given here = ap (whole (file_name bytes)) here
    ∙ ap (λ b. cond b (Ok bytes) (Err (Damaged (file_name bytes) (file_name bytes)))) ((bytes_eq-Decides (sha256 bytes) (sha256 bytes)).1 refl)

-- ---- one range

parts : (a b c : Bool) → (a && b && c) ≡ true → (a ≡ true) × (b ≡ true) × (c ≡ true)
parts true true c h = (refl, refl, h)
parts true false c h = absurd cc
parts false b c h = absurd cc

pub is_read : (given : List File) (line : RangeLine) (bytes : List ℕ) (rows : List RowValue) → read_file line.name given ≡ Ok bytes
    → IsRange rows × (bytes ≡ range_spelling rows) → is_said line rows ≡ true → IsRead given line rows
is_read given line bytes rows reads is said =
    let file = file_read line.name given bytes reads in
    let tests = parts (eqb (length rows) line.rows) (bytes_eq (path_at rows 0) line.first) (bytes_eq (path_at rows (length rows - 1)) line.last) said in
    let name : line.name ≡ file_name (range_spelling rows) = file.1 ∙ ap file_name is.1 in
    record {
      valid = is.0;
      said =
          line_is rows line (ap (λ (digest : Digest). digest.0) name) (sym (eqb-true (length rows) line.rows tests.0))
          (sym ((bytes_eq-Decides (path_at rows 0) line.first).0 tests.1)) (sym ((bytes_eq-Decides (path_at rows (length rows - 1)) line.last).0 tests.2));
      given = subst (λ (n : Digest). bytes_named n given ≡ Some (range_spelling rows)) name (file.0 ∙ ap Some is.1);
    }

itself : (bytes : List ℕ) → bytes_eq bytes bytes ≡ true
itself bytes = (bytes_eq-Decides bytes bytes).1 refl

range_read : (given : List File) (i : ℕ) (rows : List RowValue) → IsRange rows → IsGiven given rows → read_range given i (line_of rows) ≡ Ok rows
unfolding read_range line_of
range_read given i rows is here =
    rw (
      file_again (range_spelling rows) given here,
      range_again rows is,
      eq-eqb (length rows) (length rows) refl,
      itself (path_at rows 0),
      itself (path_at rows (length rows - 1)),
    ) refl

-- ---- range by range

pub goes_on : (given : List File) (before : List (List RowValue)) (lines : List RangeLine) (i : ℕ) (line : RangeLine) (range : List RowValue)
    (all : Result (List (List RowValue)) TreeFault) → i < length lines → line ≡ get_or lines i line
    → read_range given (length before) line ≡ Ok range → read_ranges given before (drop i lines) ≡ all
    → read_ranges given (before ++ range ∷ []) (drop (i + 1) lines) ≡ all
unfolding read_ranges
goes_on given before lines i line range all lt is here so_far =
    let rest : drop i lines ≡ line ∷ drop (i + 1) lines = rw add-one (drop-cons lines i line lt ∙ ap (λ l. l ∷ drop (suc i) lines) (sym is)) in
    sym (ap (λ r. r >>= λ range. read_ranges given (before ++ range ∷ []) (drop (i + 1) lines)) here) ∙ ap (read_ranges given before) (sym rest) ∙ so_far

pub ends : (e : TreeFault) (given : List File) (before : List (List RowValue)) (lines : List RangeLine) (i : ℕ) (line : RangeLine)
    (all : Result (List (List RowValue)) TreeFault) → i < length lines → line ≡ get_or lines i line
    → Fails e (read_range given (length before) line) → read_ranges given before (drop i lines) ≡ all → Fails e all
unfolding read_ranges
ends e given before lines i line all lt is fails so_far =
    let rest : drop i lines ≡ line ∷ drop (i + 1) lines = rw add-one (drop-cons lines i line lt ∙ ap (λ l. l ∷ drop (suc i) lines) (sym is)) in
    subst (Fails e) (ap (read_ranges given before) (sym rest) ∙ so_far)
    (failed e (read_range given (length before) line) (λ range. read_ranges given (before ++ range ∷ []) (drop (i + 1) lines)) fails)

none_after : {X : Type 0} (xs : List X) (i : ℕ) → length xs ≤ i → drop i xs ≡ []
none_after [] zero le = refl
none_after [] (suc i) le = refl
none_after (x ∷ xs) zero le = absurd (omega arith)
none_after (x ∷ xs) (suc i) le = none_after xs i (omega arith)

pub is_done : (given : List File) (before : List (List RowValue)) (lines : List RangeLine) (i : ℕ) (all : Result (List (List RowValue)) TreeFault)
    → length lines ≤ i → read_ranges given before (drop i lines) ≡ all → all ≡ Ok before
unfolding read_ranges
is_done given before lines i all le so_far = sym so_far ∙ ap (read_ranges given before) (none_after lines i le)

map_end : {X Y : Type 0} (f : X → Y) (xs : List X) (x : X) → map f (xs ++ x ∷ []) ≡ map f xs ++ f x ∷ []
map_end f [] x = refl
map_end f (y ∷ xs) x = ap (λ l. f y ∷ l) (map_end f xs x)

pub read_more : (given : List File) (lines : List RangeLine) (i : ℕ) (line : RangeLine) (before : List (List RowValue)) (range : List RowValue)
    → i < length lines → line ≡ get_or lines i line
    → AreRead given (take i lines) before → IsRead given line range → AreRead given (take (i + 1) lines) (before ++ range ∷ [])
read_more given lines i line before range lt is are one = record {
  each = all_append IsRange before (range ∷ []) are.each (one.valid, tt);
  said = map_end line_of before range ∙ ap (λ l. l ++ line_of range ∷ []) are.said ∙ ap (λ l. take i lines ++ l ∷ []) (sym one.said ∙ is)
      ∙ sym (take_more lines i line lt);
  given = all_append (IsGiven given) before (range ∷ []) are.given (one.given, tt);
}

-- ---- ranges that follow each other

ascend_both : (a b : List RowValue) → HasAscendingKeys a → HasAscendingKeys b → (0 < length a → T (below_all byte_order (path_at a (length a - 1)) b))
    → HasAscendingKeys (a ++ b)
ascend_both [] b h k seam = k
ascend_both (row ∷ []) b h k seam = both _ _ (seam (omega arith)) k
ascend_both (row ∷ next ∷ a) b h k seam =
    let place : length (row ∷ next ∷ a) - 1 ≡ suc (length (next ∷ a) - 1) = omega arith in
    let last : path_at (row ∷ next ∷ a) (length (row ∷ next ∷ a) - 1) ≡ path_at (next ∷ a) (length (next ∷ a) - 1) = ap (path_at (row ∷ next ∷ a)) place in
    let more = ascend_both (next ∷ a) b (tail_ascends row (next ∷ a) h) k (λ some. subst (λ p. T (below_all byte_order p b)) last (seam (omega arith))) in
    let lt : byte_order row.0 next.0 ≡ Less = less (byte_order row.0 next.0) (first _ _ (head_below row (next ∷ a) h)) in
    both _ _ (both _ _ (first _ _ (head_below row (next ∷ a) h)) (less_more row.0 next.0 (a ++ b) lt (head_below next (a ++ b) more))) more

above_first : (path : List ℕ) (ranges : List (List RowValue)) → AllByRecursion IsRange ranges → IsBelowNext path (map line_of ranges)
    → HasAscendingKeys (rows_of ranges) → T (below_all byte_order path (rows_of ranges))
unfolding line_of
above_first path [] each below h = tt
above_first path ([] ∷ ranges) each below h = absurd (omega (arith, each.0.some))
above_first path ((row ∷ rows) ∷ ranges) each below h =
    both _ _ (subst (λ o. T (is_lt o)) (sym below) tt) (less_more path row.0 (rows ++ rows_of ranges) below (head_below row (rows ++ rows_of ranges) h))

pub ascend_read : (ranges : List (List RowValue)) → AllByRecursion IsRange ranges → FollowOn (map line_of ranges) → HasAscendingKeys (rows_of ranges)
unfolding line_of
ascend_read [] each follow = tt
ascend_read (range ∷ ranges) each follow =
    let more = ascend_read ranges each.1 follow.1 in
    ascend_both range (rows_of ranges) each.0.ascend more (λ some. above_first (path_at range (length range - 1)) ranges each.1 follow.0 more)

-- the ranges that were read can be those of a tree
pub ranges_read : (given : List File) (lines : List RangeLine) (ranges : List (List RowValue)) → IsMetarange lines → AreRead given lines ranges
    → length (rows_of ranges) < 2 ^ 32 → AreRanges ranges
ranges_read given lines ranges is are few =
    record { each = are.each; ascend = ascend_read ranges are.each (subst FollowOn (sym are.said) is.follow); few = few }

-- ---- the cut

-- the ranges of the cut, where none is astray
uncut : (cut : Cut) (i : ℕ) (read : List (List RowValue)) → AllByRecursion IsRange read → first_stray i read (ranges cut (rows_of read)) ≡ None
    → read ≡ ranges cut (rows_of read)
uncut cut i [] each none = sym (ranges_none cut)
uncut cut i (range ∷ read) each none =
    let rows = range ++ rows_of read in
    let n = first_len cut rows in
    let some : 0 < length rows = omega (arith, each.0.some, length-append range (rows_of read)) in
    let cons = ranges_of cut rows some in
    let tested : cond (eqb (length range) (length (take n rows))) (first_stray (suc i) read (ranges cut (drop n rows))) (Some i) ≡ None =
    ap (first_stray i (range ∷ read)) (sym cons) ∙ none in
    elim (cases_Bool (eqb (length range) (length (take n rows)))) [
      | inl same ↦
          let long : length range ≡ n = omega (arith, eqb-true (length range) (length (take n rows)) same, length-take n rows, first_below cut rows) in
          let front : take n rows ≡ range = ap (λ k. take k rows) (sym long) ∙ take-append_seam range (rows_of read) in
          let back : drop n rows ≡ rows_of read = ap (λ k. drop k rows) (sym long) ∙ drop-append_seam range (rows_of read) in
          let rest : first_stray (suc i) read (ranges cut (rows_of read)) ≡ None =
          ap (λ l. first_stray (suc i) read (ranges cut l)) (sym back)
          ∙ sym (ap (λ b. cond b (first_stray (suc i) read (ranges cut (drop n rows))) (Some i)) same) ∙ tested in
          ap (λ l. range ∷ l) (uncut cut (suc i) read each.1 rest)
          ∙ sym (cons ∙ ap (λ l. l ∷ ranges cut (drop n rows)) front ∙ ap (λ l. range ∷ ranges cut l) back)
      | inr other ↦
          let bad : Some i ≡ None = sym (ap (λ b. cond b (first_stray (suc i) read (ranges cut (drop n rows))) (Some i)) other) ∙ tested in
          absurd cc
    ]

pub is_cut : (cut : Cut) (read : List (List RowValue)) → AllByRecursion IsRange read → not_cut cut read ≡ None → read ≡ ranges cut (rows_of read)
unfolding not_cut
is_cut cut read each none = uncut cut 0 read each none

none_stray : (i : ℕ) (read : List (List RowValue)) → first_stray i read read ≡ None
none_stray i [] = refl
none_stray i (range ∷ read) = ap (λ b. cond b (first_stray (suc i) read read) (Some i)) (eq-eqb (length range) (length range) refl) ∙ none_stray (suc i) read

never_stray : (cut : Cut) (rows : List RowValue) → not_cut cut (ranges cut rows) ≡ None
unfolding not_cut
never_stray cut rows = ap (λ l. first_stray 0 (ranges cut rows) (ranges cut l)) (rows_of_cut cut rows) ∙ none_stray 0 (ranges cut rows)

-- ---- the tree that was read

with_first : (given : List File) (file : List ℕ) (all : List (List ℕ)) → bytes_named (file_name file) given ≡ Some file → AreGiven all given
    → AreGiven (file ∷ all) given
with_first given file all here rest bytes has = by has.0 has.1 has.2
  where
    by : (k : ℕ) → k < length (file ∷ all) → get_or (file ∷ all) k bytes ≡ bytes → bytes_named (file_name bytes) given ≡ Some bytes
    by zero lt is = subst (λ b. bytes_named (file_name b) given ≡ Some b) is here
    by (suc k) lt is = rest bytes (k, omega arith, is)

each_given : (given : List File) (ranges : List (List RowValue)) → AllByRecursion (IsGiven given) ranges → AreGiven (map range_spelling ranges) given
each_given given [] all = λ bytes has. absurd (omega (arith, has.1))
each_given given (range ∷ ranges) all = with_first given (range_spelling range) (map range_spelling ranges) all.0 (each_given given ranges all.1)

-- what is known of the parts of a reading
pub record HasRead (name : Digest) (metarange : Option (List ℕ)) (given : List File) (bytes : List ℕ) (lines : List RangeLine)
    (ranges : List (List RowValue)) : Type 0 where
  pub file : whole name metarange ≡ Ok bytes
  pub valid : IsMetarange lines × (bytes ≡ metarange_spelling lines)
  pub read : AreRead given lines ranges
  pub few : length (rows_of ranges) < 2 ^ 32

module _ (name : Digest) (metarange : Option (List ℕ)) (given : List File) (cut : Cut) (bytes : List ℕ) (lines : List RangeLine)
    (read : List (List RowValue)) (h : HasRead name metarange given bytes lines read) where
  -- the metarange is that of the ranges
  pub metarange_is : bytes ≡ metarange_of read
  metarange_is = h.valid.1 ∙ ap metarange_spelling (sym h.read.said)

  pub name_is : name ≡ file_name (metarange_of read)
  name_is = (whole_is name metarange bytes h.file).1 ∙ ap file_name metarange_is

  pub are_ranges : AreRanges read
  are_ranges = ranges_read given lines read h.valid.0 h.read h.few

  entries_are : entries (from_sorted {R = byte_order} (rows_of read)) ≡ rows_of read
  entries_are = entries-from_sorted byte_order (rows_of read) are_ranges.ascend

  pub is_tree : not_cut cut read ≡ None → IsTreeWith name metarange given cut (tree_of read)
  unfolding files
  is_tree none =
      let due = is_cut cut read h.read.each none in
      let cut_is : read ≡ ranges cut (entries (from_sorted {R = byte_order} (rows_of read))) = due ∙ ap (ranges cut) (sym entries_are) in
      record {
        named = name_is;
        cut_so = ap files_of cut_is;
        first = (whole_is name metarange bytes h.file).0 ∙ ap Some metarange_is;
        given = each_given given read h.read.given;
        limits = record {
          each = subst (AllByRecursion IsRow) (sym entries_are) (rows_within read h.read.each);
          few = omega (arith, len-entries (from_sorted {R = byte_order} (rows_of read)), ap length entries_are, h.few);
        };
      }

-- a tree whose metarange is among the files too
pub of_one_list : (name : Digest) (given : List File) (cut : Cut) (tree : TreeValue) → IsTreeWith name (bytes_named name given) given cut tree
    → IsTreeOf name given cut tree
of_one_list name given cut tree is = record { named = is.named; cut_so = is.cut_so; given = by tree.files is.named is.first is.given; limits = is.limits }
  where
    by : (all : List (List ℕ)) → name ≡ file_name (first_file all) → bytes_named name given ≡ Some (first_file all) → AreGiven (drop 1 all) given
        → AreGiven all given
    by [] named first rest = λ bytes has. absurd (omega (arith, has.1))
    by (file ∷ all) named first rest = with_first given file all (subst (λ (n : Digest). bytes_named n given ≡ Some file) named first) rest

-- ---- a tree whose files are given

read_all : (given : List File) (before ranges : List (List RowValue)) → AllByRecursion IsRange ranges → AllByRecursion (IsGiven given) ranges
    → read_ranges given before (map line_of ranges) ≡ Ok (before ++ ranges)
unfolding read_ranges
read_all given before [] each all = ap (λ l. Ok l) (sym (append-nil before))
read_all given before (range ∷ ranges) each all =
    ap (λ r. r >>= λ range. read_ranges given (before ++ range ∷ []) (map line_of ranges)) (range_read given (length before) range each.0 all.0)
    ∙ read_all given (before ++ range ∷ []) ranges each.1 all.1
    ∙ ap (λ l. Ok l) (append_assoc before (range ∷ []) ranges)

later : {X : Type 0} (y : X) (xs : List X) (x : X) → Contains xs x → Contains (y ∷ xs) x
later y xs x has = (suc has.0, omega (arith, has.1), has.2)

ranges_given : (given : List File) (ranges : List (List RowValue)) → AreGiven (map range_spelling ranges) given → AllByRecursion (IsGiven given) ranges
ranges_given given [] all = tt
ranges_given given (range ∷ ranges) all = (
  all (range_spelling range) (0, omega arith, refl),
  ranges_given given ranges (λ bytes has. all bytes (later (range_spelling range) (map range_spelling ranges) bytes has)),
)

pub tree_again : (name : Digest) (given : List File) (cut : Cut) (objects : KeyMapValue) → FitsTree objects → name ≡ tree_id cut objects
    → AreGiven (files cut objects) given → tree_from name given cut ≡ Ok (record { map = objects; files = files cut objects })
unfolding tree_with files tree_id read_file
tree_again name given cut objects fits named all =
    let read = ranges cut (entries objects) in
    let metarange = metarange_of read in
    let are = ranges_are cut objects fits in
    let file : whole (file_name metarange) (bytes_named (file_name metarange) given) ≡ Ok metarange =
    file_again metarange given (all metarange (0, omega arith, refl)) in
    let lines = metarange_again (map line_of read) (is_metarange read are) in
    let each = read_all given [] read are.each (ranges_given given read (λ bytes has. all bytes (later metarange (map range_spelling read) bytes has))) in
    let objects_are : from_sorted {R = byte_order} (rows_of read) ≡ objects =
    ap (from_sorted {R = byte_order}) (rows_of_cut cut (entries objects)) ∙ same_again objects in
    ap (λ n. tree_from n given cut) named
    ∙ rw (file, lines, each, never_stray cut (entries objects)) (ap (λ o. Ok (record { map = o; files = files_of read })) objects_are)

-- ---- a reading step by step

module _ (name : Digest) (metarange : Option (List ℕ)) (given : List File) (cut : Cut) where
  after_ranges : List (List RowValue) → Result TreeValue TreeFault
  after_ranges read = cut_of (not_cut cut read) read

  after_lines : List RangeLine → Result TreeValue TreeFault
  after_lines lines = read_ranges given [] lines >>= after_ranges

  after_file : List ℕ → Result TreeValue TreeFault
  after_file bytes = in_metarange (metarange_from bytes) >>= after_lines

  steps : tree_with name metarange given cut ≡ (whole name metarange >>= after_file)
  unfolding tree_with after_file after_lines after_ranges
  steps = refl

  pub fails_file : (e : TreeFault) → Fails e (whole name metarange) → Fails e (tree_with name metarange given cut)
  fails_file e h = subst (Fails e) (sym steps) (failed e (whole name metarange) after_file h)

  module _ (bytes : List ℕ) (file : whole name metarange ≡ Ok bytes) where
    with_file : tree_with name metarange given cut ≡ (in_metarange (metarange_from bytes) >>= after_lines)
    unfolding after_file
    with_file = steps ∙ ap (λ r. r >>= after_file) file

    pub fails_metarange : (fault : MetaFault) → MetaFails fault (metarange_from bytes) → Fails (of_metarange fault) (tree_with name metarange given cut)
    fails_metarange fault h = subst (Fails (of_metarange fault)) (sym with_file)
        (failed (of_metarange fault) (in_metarange (metarange_from bytes)) after_lines (metarange_failed fault (metarange_from bytes) h))

    module _ (lines : List RangeLine) (said : metarange_from bytes ≡ Ok lines) where
      with_lines : tree_with name metarange given cut ≡ (read_ranges given [] lines >>= after_ranges)
      unfolding after_lines
      with_lines = with_file ∙ ap (λ r. in_metarange r >>= after_lines) said

      pub fails_ranges : (e : TreeFault) → Fails e (read_ranges given [] lines) → Fails e (tree_with name metarange given cut)
      fails_ranges e h = subst (Fails e) (sym with_lines) (failed e (read_ranges given [] lines) after_ranges h)

      module _ (read : List (List RowValue)) (reads : read_ranges given [] lines ≡ Ok read) where
        pub with_ranges : tree_with name metarange given cut ≡ cut_of (not_cut cut read) read
        unfolding after_ranges
        with_ranges = with_lines ∙ ap (λ r. r >>= after_ranges) reads

        pub reads_stray : (i : ℕ) → not_cut cut read ≡ Some i → tree_with name metarange given cut ≡ Err (NotCut i)
        reads_stray i stray = with_ranges ∙ ap (λ found. cut_of found read) stray

        pub reads_tree : not_cut cut read ≡ None → tree_with name metarange given cut ≡ Ok (tree_of read)
        reads_tree none = with_ranges ∙ ap (λ found. cut_of found read) none

-- ---- ranges on a shelf

module _ (given : List File) (i : ℕ) (line : RangeLine) where
  pub range_fails_file : (e : TreeFault) → Fails e (read_file line.name given) → Fails e (read_range given i line)
  unfolding read_range
  range_fails_file e h =
      failed e (read_file line.name given) (λ bytes. in_range i (range_from bytes) >>= λ rows. cond (is_said line rows) (Ok rows) (Err (Mismatch i))) h

  pub range_fails_rows : (bytes : List ℕ) → read_file line.name given ≡ Ok bytes → (fault : RangeFault) → RangeFails fault (range_from bytes)
      → Fails (of_range i fault) (read_range given i line)
  unfolding read_range
  range_fails_rows bytes file fault h =
      subst (λ r. Fails (of_range i fault) (r >>= λ bytes. in_range i (range_from bytes) >>= λ rows. cond (is_said line rows) (Ok rows) (Err (Mismatch i))))
      (sym file)
      (failed (of_range i fault) (in_range i (range_from bytes)) (λ rows. cond (is_said line rows) (Ok rows) (Err (Mismatch i)))
      (range_failed i fault (range_from bytes) h))

-- a range whose file is read is read of what is said, where that is so
pub shelved_read : (given : List File) (i : ℕ) (line : RangeLine) (rows : List RowValue) → IsShelved given line.name rows
    → read_range given i line ≡ cond (is_said line rows) (Ok rows) (Err (Mismatch i))
unfolding read_range
shelved_read given i line rows is =
    ap (λ r. r >>= λ bytes. in_range i (range_from bytes) >>= λ rows. cond (is_said line rows) (Ok rows) (Err (Mismatch i))) is.file
    ∙ ap (λ r. in_range i r >>= λ rows. cond (is_said line rows) (Ok rows) (Err (Mismatch i))) (range_again rows is.valid)

-- with one more
pub more_shelved : (given : List File) (old new : BTreeMap Digest (List RowValue)) (name : Digest) (rows : List RowValue) → AreShelved given old.entries
    → IsShelved given name rows
    → ((other : Digest) → get id_order new other ≡ cond (is_eq (id_order name other)) (Some rows) (get id_order old other))
    → AreShelved given new.entries
more_shelved given old new name rows are is put other range found = by (same_id name other) refl
  where
    told : cond (same_id name other) (Some rows) (get id_order old other) ≡ Some range
    told = ap (λ b. cond b (Some rows) (get id_order old other)) (sym (tie_id name other)) ∙ sym (put other) ∙ found

    some_is : {x y : List RowValue} → Some x ≡ Some y → x ≡ y
    some_is e = cc

    by : (b : Bool) → same_id name other ≡ b → IsShelved given other range
    by true same =
        let rows_are = some_is (sym (ap (λ b. cond b (Some rows) (get id_order old other)) same) ∙ told) in
        subst (IsShelved given other) rows_are (subst (λ n. IsShelved given n rows) (id_same name other same) is)
    by false apart = are other range (sym (ap (λ b. cond b (Some rows) (get id_order old other)) apart) ∙ told)
