-- The files of a tree that is read are there, each under its own kind of key.
use Rattle.std.proofs.Common.{◌≡◌, ℕ, zero, suc, ◌<◌, Bool, true, false, cond, List, [], ◌∷◌, ◌++◌, length, map, get_or, drop, Option, Some, None}
use Rattle.std.proofs.Common.{Result, Ok, Err, refl, sym, ap, subst, ◌∙◌, inl, inr, arith, append_assoc}
use Rattle.std.specs.List.{AllByRecursion, Contains, find}
use Rattle.std.specs.List.{cons_option, filter_map}
use Rattle.std.specs.FinMap.{entries, find as find_row, get, entries-from_sorted, get-from_sorted}
use Rattle.std.specs.Ordering.{eq_by_cmp}
use Rattle.std.specs.Option.{option_map}
use Rattle.std.specs.Str.{bytes_eq}
use Rattle.std.proofs.lemmas.Bool.{cases_Bool}
use Rattle.std.proofs.lemmas.List.{append-nil}
use Rattle.std.proofs.lemmas.List.Elements.{Contains-append_cases}
use Rattle.std.proofs.lemmas.Map.Text.{is_eq-slice_cmp}
use Rattle.std.proofs.lemmas.Slice.Eq.{bytes_eq-Decides}
use Rattle.lake_base.specs.Maps.{byte_order, HasAscendingKeys}
use Rattle.lake_base.specs.declared.digest.Digest.{Digest}
use Rattle.lake_format.specs.Cutting.{files, ranges}
use Rattle.lake_format.specs.Spelling.{file_name, line_of, metarange_spelling, range_spelling, AreBytes, FollowOn, IsMetarange, IsRange}
use Rattle.lake_format.specs.declared.cut.Cut.{Cut}
use Rattle.lake_format.specs.declared.range_line.RangeLine.{RangeLine}
use Rattle.lake_values.specs.Commit.{CommitRecordValue}
use Rattle.lake_values.specs.Entry.{EntryValue}
use Rattle.range_file.specs.Rows.{RowValue}
use Rattle.range_file.specs.RangeReading.{range_from}
use Rattle.range_file.specs.declared.fault.RangeFault.{RangeFault}
use Rattle.range_file.proofs.ReadingLemmas.{again as range_again, found as range_found}
use Rattle.meta_range.specs.ReadingSteps.{◌>>=◌}
use Rattle.meta_range.specs.Ranges.{TreeValue, files_of, first_file, rows_of, tree_of}
use Rattle.meta_range.specs.Files.{bytes_named}
use Rattle.meta_range.specs.Metarange.{metarange_from}
use Rattle.meta_range.specs.TreeReading.{cut_of, in_metarange, in_range, is_said, not_cut, read_file, read_range, read_ranges, tree_with, IsGiven}
use Rattle.meta_range.specs.declared.file.File.{File}
use Rattle.meta_range.specs.declared.fault.MetaFault.{MetaFault}
use Rattle.meta_range.specs.declared.fault.TreeFault.{TreeFault}
use Rattle.meta_range.specs.declared.fault.TreeFault.TheVariants.{Mismatch}
use Rattle.meta_range.proofs.MetarangeLemmas.{found as metarange_found}
use Rattle.meta_range.proofs.ReadingLemmas.{ascend_read, file_read, is_cut, is_read}
use Rattle.pair_format.specs.declared.stored.Stored.{Stored}
use Rattle.pair_format.specs.declared.stored.Stored.TheVariants as stored
use Rattle.pair_format.specs.PairSpelling.{IsSpelledStored}
use Rattle.pair_trees.specs.Things.{IsThere, Things}
use Rattle.pair_trees.specs.PairTrees.{metarange_in, metaranges_in, range_in, ranges_in, tree_named}

-- ---- readings that came to Ok

bind_ok : {A B E : Type 0} (r : Result A E) (f : A → Result B E) (y : B) → (r >>= f) ≡ Ok y → (x : A) × (r ≡ Ok x) × (f x ≡ Ok y)
bind_ok (Ok x) f y e = (x, refl, e)
bind_ok (Err fault) f y e = absurd cc

abbrev done : {A : Type 0} → A → Result A TreeFault
done x = Ok x

ok_is : {A : Type 0} (x y : A) → done x ≡ done y → x ≡ y
ok_is x y e = cc

metarange_ok : {X : Type 0} (r : Result X MetaFault) (x : X) → in_metarange r ≡ Ok x → r ≡ Ok x
metarange_ok (Ok y) x e = ap (λ z. Ok z) (ok_is y x e)
metarange_ok (Err fault) x e = absurd cc

range_ok : {X : Type 0} (i : ℕ) (r : Result X RangeFault) (x : X) → in_range i r ≡ Ok x → r ≡ Ok x
range_ok i (Ok y) x e = ap (λ z. Ok z) (ok_is y x e)
range_ok i (Err fault) x e = absurd cc

-- ---- files

later : {X : Type 0} (y : X) (xs : List X) (x : X) → Contains xs x → Contains (y ∷ xs) x
later y xs x has = (suc has.0, omega (arith, has.1), has.2)

same_name : (name other : Digest) → bytes_eq name.0 other.0 ≡ true → name ≡ other
same_name name other same = let bytes = (bytes_eq-Decides name.0 other.0).0 same in λ i. record { 0 = bytes i }

module _ (file_in : Option Stored → Option File) (of_file : Digest → List ℕ → Stored)
    (back : (thing : Option Stored) (file : File) → file_in thing ≡ Some file → thing ≡ Some (of_file file.name file.bytes)) where
  -- what is found by a name among the files that are there is there
  pub file_there : (things : Things) (name : Digest) (bytes : List ℕ) → bytes_named name (filter_map file_in things) ≡ Some bytes
      → IsThere things (of_file name bytes)
  unfolding bytes_named
  file_there [] name bytes e = absurd cc
  file_there (thing ∷ things) name bytes e = by (file_there things name bytes) (file_in thing) refl
    where
      by : (bytes_named name (filter_map file_in things) ≡ Some bytes → IsThere things (of_file name bytes)) → (found : Option File) → file_in thing ≡ found
          → IsThere (thing ∷ things) (of_file name bytes)
      by more None is = later thing things (Some (of_file name bytes)) (more
          (subst (λ o. bytes_named name (cons_option o (filter_map file_in things)) ≡ Some bytes) is e))
      by more (Some file) is =
          let here : bytes_named name (file ∷ filter_map file_in things) ≡ Some bytes =
          subst (λ o. bytes_named name (cons_option o (filter_map file_in things)) ≡ Some bytes) is e in
          elim (cases_Bool (bytes_eq file.name.0 name.0)) [
            | inl same ↦
                let found : Some file.bytes ≡ Some bytes =
                sym (ap (λ b. option_map (λ (f : File). f.bytes) (cond b (Some file) (find (λ f. bytes_eq f.name.0 name.0) (filter_map file_in things)))) same)
                ∙ here in (
                  0,
                  omega arith,
                  back thing file is ∙ ap (λ n. Some (of_file n file.bytes)) (same_name file.name name same)
                      ∙ ap (λ b. Some (of_file name b)) (inside found),
                )
            | inr apart ↦
                let rest : bytes_named name (filter_map file_in things) ≡ Some bytes =
                sym (ap (λ b. option_map (λ (f : File). f.bytes) (cond b (Some file) (find (λ f. bytes_eq f.name.0 name.0) (filter_map file_in things))))
                apart) ∙ here in
                later thing things (Some (of_file name bytes)) (more rest)
          ]
        where
          inside : {a b : List ℕ} → Some a ≡ Some b → a ≡ b
          inside h = cc

pub metarange_back : (thing : Option Stored) (file : File) → metarange_in thing ≡ Some file → thing ≡ Some (stored.MetaRange file.name file.bytes)
metarange_back (Some (stored.MetaRange name bytes)) file e = ap (λ (f : File). Some (stored.MetaRange f.name f.bytes)) (inside e)
  where
    inside : {a b : File} → Some a ≡ Some b → a ≡ b
    inside h = cc
metarange_back None file e = absurd cc
metarange_back (Some (stored.Repository repo created branch settings)) file e = absurd cc
metarange_back (Some (stored.Branch repo branch version head staging sealed)) file e = absurd cc
metarange_back (Some (stored.Tag repo tag commit)) file e = absurd cc
metarange_back (Some (stored.Commit repo id expired commit)) file e = absurd cc
metarange_back (Some (stored.Range name bytes)) file e = absurd cc
metarange_back (Some (stored.Staged token path change)) file e = absurd cc
metarange_back (Some (stored.Note repo name text)) file e = absurd cc
metarange_back (Some (stored.Gone number)) file e = absurd cc
metarange_back (Some (stored.Counts number version token)) file e = absurd cc

pub range_back : (thing : Option Stored) (file : File) → range_in thing ≡ Some file → thing ≡ Some (stored.Range file.name file.bytes)
range_back (Some (stored.Range name bytes)) file e = ap (λ (f : File). Some (stored.Range f.name f.bytes)) (inside e)
  where
    inside : {a b : File} → Some a ≡ Some b → a ≡ b
    inside h = cc
range_back None file e = absurd cc
range_back (Some (stored.Repository repo created branch settings)) file e = absurd cc
range_back (Some (stored.Branch repo branch version head staging sealed)) file e = absurd cc
range_back (Some (stored.Tag repo tag commit)) file e = absurd cc
range_back (Some (stored.Commit repo id expired commit)) file e = absurd cc
range_back (Some (stored.MetaRange name bytes)) file e = absurd cc
range_back (Some (stored.Staged token path change)) file e = absurd cc
range_back (Some (stored.Note repo name text)) file e = absurd cc
range_back (Some (stored.Gone number)) file e = absurd cc
range_back (Some (stored.Counts number version token)) file e = absurd cc

-- ---- ranges

chosen : {X : Type 0} (b : Bool) (x y : X) (fault : TreeFault) → cond b (Ok x) (Err fault) ≡ Ok y → (b ≡ true) × (x ≡ y)
chosen true x y fault e = (refl, cc)
chosen false x y fault e = absurd cc

-- a range is read that is within its limits, of which this is said, and whose file is given
pub record IsReadAt (given : List File) (line : RangeLine) (range : List RowValue) : Type 0 where
  pub valid : IsRange range
  pub said : line ≡ line_of range
  pub named : IsGiven given range

module _ (given : List File) (fits : (name : Digest) (bytes : List ℕ) → bytes_named name given ≡ Some bytes → AreBytes bytes) where
  read_one : (i : ℕ) (line : RangeLine) (range : List RowValue) → read_range given i line ≡ Ok range → IsReadAt given line range
  unfolding read_range
  read_one i line range e =
      let file = bind_ok (read_file line.name given)
      (λ bytes. in_range i (range_from bytes) >>= λ rows. cond (is_said line rows) (Ok rows) (Err (Mismatch i))) range e in
      let rows = bind_ok (in_range i (range_from file.0)) (λ rows. cond (is_said line rows) (Ok rows) (Err (Mismatch i))) range file.2 in
      let last = chosen (is_said line rows.0) rows.0 range (Mismatch i) rows.2 in
      let named = file_read line.name given file.0 file.1 in
      let read = is_read given line file.0 rows.0 file.1 (range_found file.0 rows.0 (fits line.name file.0 named.0)
      (range_ok i (range_from file.0) rows.0 rows.1)) last.0 in
      subst (IsReadAt given line) last.1 (record { valid = read.valid; said = read.said; named = read.given })

  read_all : (lines : List RangeLine) (before ranges : List (List RowValue)) → read_ranges given before lines ≡ Ok ranges
      → AllByRecursion IsRange before → AllByRecursion (IsGiven given) before
      → AllByRecursion IsRange ranges × AllByRecursion (IsGiven given) ranges × (map line_of ranges ≡ map line_of before ++ lines)
  unfolding read_ranges
  read_all [] before ranges e within all = (
    subst (AllByRecursion IsRange) (ok_is before ranges e) within,
    subst (AllByRecursion (IsGiven given)) (ok_is before ranges e) all,
    sym (ap (map line_of) (ok_is before ranges e)) ∙ sym (append-nil (map line_of before)),
  )
  read_all (line ∷ lines) before ranges e within all =
      let one = bind_ok (read_range given (length before) line) (λ rows. read_ranges given (before ++ rows ∷ []) lines) ranges e in
      let is = read_one (length before) line one.0 one.1 in
      let rest = read_all lines (before ++ one.0 ∷ []) ranges one.2 (all_more IsRange before within one.0 is.valid)
      (all_more (IsGiven given) before all one.0 is.named) in (
        rest.0,
        rest.1,
        rest.2 ∙ ap (λ l. l ++ lines) (map_end before one.0) ∙ append_assoc (map line_of before) (line_of one.0 ∷ []) lines
            ∙ ap (λ l. map line_of before ++ l ∷ lines) (sym is.said),
      )
    where
      all_more : (P : List RowValue → Type 0) (xs : List (List RowValue)) → AllByRecursion P xs → (x : List RowValue) → P x
          → AllByRecursion P (xs ++ x ∷ [])
      all_more P [] all x is = (is, tt)
      all_more P (y ∷ xs) all x is = (all.0, all_more P xs all.1 x is)

      map_end : (xs : List (List RowValue)) (x : List RowValue) → map line_of (xs ++ x ∷ []) ≡ map line_of xs ++ line_of x ∷ []
      map_end [] x = refl
      map_end (y ∷ xs) x = ap (λ l. line_of y ∷ l) (map_end xs x)

  given_one : (ranges : List (List RowValue)) → AllByRecursion (IsGiven given) ranges → (bytes : List ℕ) → Contains (map range_spelling ranges) bytes
      → bytes_named (file_name bytes) given ≡ Some bytes
  given_one ranges all bytes has = by ranges all has.0 has.1 has.2
    where
      by : (ranges : List (List RowValue)) → AllByRecursion (IsGiven given) ranges → (k : ℕ) → k < length (map range_spelling ranges)
          → get_or (map range_spelling ranges) k bytes ≡ bytes → bytes_named (file_name bytes) given ≡ Some bytes
      by [] all k lt is = absurd (omega (arith, lt))
      by (range ∷ ranges) all zero lt is = subst (λ b. bytes_named (file_name b) given ≡ Some b) is all.0
      by (range ∷ ranges) all (suc k) lt is = by ranges all.1 k (omega (arith, lt)) is

-- ---- trees

-- the parts of a tree that is read
pub record HasParts (name : Digest) (metaranges ranges : List File) (cut : Cut) (tree : TreeValue) : Type 0 where
  pub bytes : List ℕ
  pub file : read_file name metaranges ≡ Ok bytes
  pub lines : List RangeLine
  pub said : metarange_from bytes ≡ Ok lines
  pub read : List (List RowValue)
  pub reads : read_ranges ranges [] lines ≡ Ok read
  pub uncut : not_cut cut read ≡ None
  pub is : tree_of read ≡ tree

parts_of : (name : Digest) (metaranges ranges : List File) (cut : Cut) (tree : TreeValue) → tree_with name (bytes_named name metaranges) ranges cut ≡ Ok tree
    → HasParts name metaranges ranges cut tree
unfolding tree_with read_file
parts_of name metaranges ranges cut tree e =
    let file = bind_ok (read_file name metaranges)
    (λ bytes. in_metarange (metarange_from bytes) >>= λ lines. read_ranges ranges [] lines >>= λ read. cut_of (not_cut cut read) read) tree e in
    let lines = bind_ok (in_metarange (metarange_from file.0)) (λ lines. read_ranges ranges [] lines >>= λ read. cut_of (not_cut cut read) read) tree file.2 in
    let read = bind_ok (read_ranges ranges [] lines.0) (λ read. cut_of (not_cut cut read) read) tree lines.2 in
    record {
      bytes = file.0;
      file = file.1;
      lines = lines.0;
      said = metarange_ok (metarange_from file.0) lines.0 lines.1;
      read = read.0;
      reads = read.1;
      uncut = none_so (not_cut cut read.0) read.0 tree read.2;
      is = cut_so (not_cut cut read.0) read.0 tree read.2;
    }
  where
    none_so : (found : Option ℕ) (read : List (List RowValue)) (tree : TreeValue) → cut_of found read ≡ Ok tree → found ≡ None
    none_so None read tree e = refl
    none_so (Some i) read tree e = absurd cc

    cut_so : (found : Option ℕ) (read : List (List RowValue)) (tree : TreeValue) → cut_of found read ≡ Ok tree → tree_of read ≡ tree
    cut_so None read tree e = ok_is (tree_of read) tree e
    cut_so (Some i) read tree e = absurd cc

module _ (cut : Cut) (things : Things) (limits : (s : Stored) → IsThere things s → IsSpelledStored s) (commit : CommitRecordValue) (tree : TreeValue)
    (e : tree_named cut things commit ≡ Ok tree) where
  parts : HasParts commit.meta_range (metaranges_in things) (ranges_in things) cut tree
  unfolding tree_named
  parts = parts_of commit.meta_range (metaranges_in things) (ranges_in things) cut tree e

  range_fits : (name : Digest) (bytes : List ℕ) → bytes_named name (ranges_in things) ≡ Some bytes → AreBytes bytes
  range_fits name bytes is = (limits (stored.Range name bytes) (file_there range_in stored.Range range_back things name bytes is)).valued

  given_all : AllByRecursion IsRange parts.read × AllByRecursion (IsGiven (ranges_in things)) parts.read × (map line_of parts.read ≡ parts.lines)
  given_all = read_all (ranges_in things) range_fits parts.lines [] parts.read parts.reads tt tt

  -- a range of it is there
  pub range_there : (bytes : List ℕ) → Contains (drop 1 tree.files) bytes → IsThere things (stored.Range (file_name bytes) bytes)
  range_there bytes has =
      file_there range_in stored.Range range_back things (file_name bytes) bytes
      (given_one (ranges_in things) range_fits parts.read given_all.1 bytes (subst (λ (t : TreeValue). Contains (drop 1 t.files) bytes) (sym parts.is) has))

  metarange_spelled : IsMetarange parts.lines × (parts.bytes ≡ metarange_spelling parts.lines)
  metarange_spelled =
      let named = file_read commit.meta_range (metaranges_in things) parts.bytes parts.file in
      let there = file_there metarange_in stored.MetaRange metarange_back things commit.meta_range parts.bytes named.0 in
      metarange_found parts.bytes parts.lines (limits (stored.MetaRange commit.meta_range parts.bytes) there).valued parts.said

  rows_ascend : HasAscendingKeys (rows_of parts.read)
  rows_ascend = ascend_read parts.read given_all.0 (subst FollowOn (sym given_all.2) metarange_spelled.0.follow)

  -- its files are those that the cut gives of its map
  pub read_cut : tree.files ≡ files cut tree.map
  unfolding files
  read_cut =
      let entries_are = entries-from_sorted byte_order (rows_of parts.read) rows_ascend in
      let due = is_cut cut parts.read given_all.0 parts.uncut ∙ ap (ranges cut) (sym entries_are) in
      subst (λ (t : TreeValue). t.files ≡ files_of (ranges cut (entries t.map))) parts.is (ap files_of due)

  -- an entry of its map stands in one of its ranges
  pub row_there : (path : List ℕ) (entry : EntryValue) → get tree.map path ≡ Some entry
      → (bytes : List ℕ) × (rows : List RowValue) × Contains (drop 1 tree.files) bytes × (range_from bytes ≡ Ok rows) × Contains rows (path, entry)
  row_there path entry stands =
      let found : find_row byte_order path (rows_of parts.read) ≡ Some entry =
      sym (get-from_sorted byte_order (rows_of parts.read) path rows_ascend) ∙ ap (λ (t : TreeValue). get t.map path) parts.is ∙ stands in
      let row = row_in parts.read given_all.0 path entry (found_row (rows_of parts.read) path entry found) in
      (row.0, row.1, subst (λ (t : TreeValue). Contains (drop 1 t.files) row.0) parts.is row.2, row.3, row.4)
    where
      -- what is found by a path stands there
      found_row : (rows : List RowValue) (path : List ℕ) (entry : EntryValue) → find_row byte_order path rows ≡ Some entry → Contains rows (path, entry)
      found_row [] path entry e = absurd cc
      found_row (row ∷ rows) path entry e = by (eq_by_cmp byte_order path row.0) refl (found_row rows path entry)
        where
          by : (b : Bool) → eq_by_cmp byte_order path row.0 ≡ b → (find_row byte_order path rows ≡ Some entry → Contains rows (path, entry))
              → Contains (row ∷ rows) (path, entry)
          by true same more =
              let value : row.1 ≡ entry = one (sym (ap (λ b. cond b (Some row.1) (find_row byte_order path rows)) same) ∙ e) in
              let key : path ≡ row.0 = (bytes_eq-Decides path row.0).0 (sym (is_eq-slice_cmp path row.0) ∙ same) in
              (0, omega arith, λ i. (sym key i, value i))
            where
              one : {x y : EntryValue} → Some x ≡ Some y → x ≡ y
              one h = cc
          by false apart more = later row rows (path, entry) (more (sym (ap (λ b. cond b (Some row.1) (find_row byte_order path rows)) apart) ∙ e))

      row_in : (ranges : List (List RowValue)) → AllByRecursion IsRange ranges → (path : List ℕ) (entry : EntryValue)
          → Contains (rows_of ranges) (path, entry)
          → (bytes : List ℕ) × (rows : List RowValue) × Contains (map range_spelling ranges) bytes × (range_from bytes ≡ Ok rows) × Contains rows (path, entry)
      row_in [] within path entry has = absurd (omega (arith, has.1))
      row_in (range ∷ ranges) within path entry has =
          elim (Contains-append_cases range (rows_of ranges) (path, entry) has) [
            | inl here ↦ (range_spelling range, range, (0, omega arith, refl), range_again range within.0, here)
            | inr there ↦
                let rest = row_in ranges within.1 path entry there in
                (rest.0, rest.1, later (range_spelling range) (map range_spelling ranges) rest.0 rest.2, rest.3, rest.4)
          ]

  -- its metarange is there, under the name that the commit tells
  pub metarange_there : IsThere things (stored.MetaRange commit.meta_range (first_file tree.files)) × (commit.meta_range ≡ file_name (first_file tree.files))
  metarange_there =
      let named = file_read commit.meta_range (metaranges_in things) parts.bytes parts.file in
      let there = file_there metarange_in stored.MetaRange metarange_back things commit.meta_range parts.bytes named.0 in
      let same : parts.bytes ≡ first_file tree.files =
      metarange_spelled.1 ∙ ap metarange_spelling (sym given_all.2) ∙ ap (λ (t : TreeValue). first_file t.files) parts.is in
      (subst (λ b. IsThere things (stored.MetaRange commit.meta_range b)) same there, named.1 ∙ ap file_name same)
