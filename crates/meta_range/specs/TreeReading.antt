-- Reading a tree from its files: the metarange first, then each range in order, and last where the ranges end.
use Rattle.std.specs.Prelude.{◌≡◌, ◌==◌, ◌&&◌, ◌-◌, ℕ, suc, Bool, List, [], ◌∷◌, ◌++◌, length, drop, map, Option, Some, None, Result, Ok, Err, if◌then◌else◌}
use Rattle.std.specs.List.{AllByRecursion, Contains}
use Rattle.std.specs.Map.{lookup}
use Rattle.std.specs.Ordering.{eq_by_cmp}
use Rattle.std.specs.Str.{bytes_eq}
use Rattle.lake_base.specs.Digest.{sha256}
use Rattle.lake_base.specs.declared.digest.Digest.{Digest}
use Rattle.lake_values.specs.Ancestry.{id_order}
use Rattle.lake_format.specs.Spelling.{file_name, path_at, range_spelling, line_of, IsRange}
use Rattle.lake_format.specs.Cutting.{ranges, files}
use Rattle.lake_format.specs.declared.cut.Cut.{Cut}
use Rattle.lake_format.specs.declared.range_line.RangeLine.{RangeLine}
use Rattle.range_file.specs.Rows.{RowValue}
use Rattle.range_file.specs.RangeReading.{range_from}
use Rattle.range_file.specs.declared.fault.RangeFault.{RangeFault}
use Rattle.range_file.specs.declared.fault.RangeFault.TheVariants.{NoMemory as RangeNoMemory}
use Rattle.meta_range.specs.ReadingSteps.{◌>>=◌}
use Rattle.meta_range.specs.Ranges.{TreeValue, rows_of, tree_of, first_file}
use Rattle.meta_range.specs.Files.{bytes_named, FitsTree}
use Rattle.meta_range.specs.Metarange.{metarange_from}
use Rattle.meta_range.specs.declared.file.File.{File}
use Rattle.meta_range.specs.declared.fault.MetaFault.{MetaFault}
use Rattle.meta_range.specs.declared.fault.MetaFault.TheVariants.{NoMemory as MetaNoMemory}
use Rattle.meta_range.specs.declared.fault.TreeFault.{TreeFault}
use Rattle.meta_range.specs.declared.fault.TreeFault.TheVariants.{Missing, Damaged, BadMeta, Bad, Mismatch, NotCut, NoMemory}

-- reading meets the fault that was answered, unless memory ran out
abbrev pub Fails : {Y : Type 0} → TreeFault → Result Y TreeFault → Type 0
Fails NoMemory read = Unit {0}
Fails fault read = read ≡ Err fault

-- What was answered, seen by view, is what reading gives, unless memory ran out.
abbrev pub ReadsAs : {X Y : Type 0} → (X → Y) → Result X TreeFault → Result Y TreeFault → Type 0
ReadsAs view (Ok x) read = read ≡ Ok (view x)
ReadsAs view (Err fault) read = Fails fault read

-- these bytes, which have to have the SHA-256 by which they are named
abbrev pub whole : Digest → Option (List ℕ) → Result (List ℕ) TreeFault
whole name None = Err (Missing name)
whole name (Some bytes) = if bytes_eq (sha256 bytes) name.0 then Ok bytes else Err (Damaged name (file_name bytes))

-- the bytes of the file of this name
unfoldable pub read_file : Digest → List File → Result (List ℕ) TreeFault
read_file name given = whole name (bytes_named name given)

-- what the fault of a metarange is to the tree
abbrev pub of_metarange : MetaFault → TreeFault
of_metarange MetaNoMemory = NoMemory
of_metarange fault = BadMeta fault

-- a reading of a metarange
abbrev pub in_metarange : {X : Type 0} → Result X MetaFault → Result X TreeFault
in_metarange (Ok x) = Ok x
in_metarange (Err fault) = Err (of_metarange fault)

-- what the fault of range i is to the tree
abbrev pub of_range : ℕ → RangeFault → TreeFault
of_range i RangeNoMemory = NoMemory
of_range i fault = Bad i fault

-- a reading of range i
abbrev pub in_range : {X : Type 0} → ℕ → Result X RangeFault → Result X TreeFault
in_range i (Ok x) = Ok x
in_range i (Err fault) = Err (of_range i fault)

-- rows of which this is said: as many, with this first path and this last
abbrev pub is_said : RangeLine → List RowValue → Bool
is_said line rows = (length rows == line.rows) && bytes_eq (path_at rows 0) line.first && bytes_eq (path_at rows (length rows - 1)) line.last

-- range i, of which this is said
unfoldable pub read_range : List File → ℕ → RangeLine → Result (List RowValue) TreeFault
read_range given i line = do
  bytes ← read_file line.name given
  rows ← in_range i (range_from bytes)
  if is_said line rows then Ok rows else Err (Mismatch i)

-- the ranges before, and those of which this is said
unfoldable pub read_ranges : List File → List (List RowValue) → List RangeLine → Result (List (List RowValue)) TreeFault
read_ranges given before [] = Ok before
read_ranges given before (line ∷ lines) = do
  rows ← read_range given (length before) line
  read_ranges given (before ++ rows ∷ []) lines

-- the first place, counted from i, at which a range of these isn't the one due there. Both are of the same rows,
-- so that ranges of one length are the same.
abbrev pub first_stray : ℕ → List (List RowValue) → List (List RowValue) → Option ℕ
first_stray i [] due = None
first_stray i (range ∷ read) [] = Some i
first_stray i (range ∷ read) (first ∷ due) = if length range == length first then first_stray (suc i) read due else Some i

-- the least range that isn't the cut rule's
unfoldable pub not_cut : Cut → List (List RowValue) → Option ℕ
not_cut cut read = first_stray 0 read (ranges cut (rows_of read))

-- the ranges, which have to be those of the cut
abbrev pub cut_of : Option ℕ → List (List RowValue) → Result TreeValue TreeFault
cut_of None read = Ok (tree_of read)
cut_of (Some i) read = Err (NotCut i)

-- the tree of this name, whose metarange has these bytes, where it is given, and whose ranges are among these files
unfoldable pub tree_with : Digest → Option (List ℕ) → List File → Cut → Result TreeValue TreeFault
tree_with name metarange given cut = do
  bytes ← whole name metarange
  lines ← in_metarange (metarange_from bytes)
  ranges ← read_ranges given [] lines
  cut_of (not_cut cut ranges) ranges

-- the tree of this name, whose metarange is among the files too
abbrev pub tree_from : Digest → List File → Cut → Result TreeValue TreeFault
tree_from name given cut = tree_with name (bytes_named name given) given cut

-- each of these files is the first of its name among those given
abbrev pub AreGiven : List (List ℕ) → List File → Type 0
AreGiven all given = (bytes : List ℕ) → Contains all bytes → bytes_named (file_name bytes) given ≡ Some bytes

-- a tree of this name and cut, whose metarange has these bytes, and whose ranges are given
pub record IsTreeWith (name : Digest) (metarange : Option (List ℕ)) (all : List File) (cut : Cut) (tree : TreeValue) : Type 0 where
  pub named : name ≡ file_name (first_file tree.files)
  pub cut_so : tree.files ≡ files cut tree.map
  pub first : metarange ≡ Some (first_file tree.files)
  pub given : AreGiven (drop 1 tree.files) all
  pub limits : FitsTree tree.map

-- a tree of this name and cut, whose files are given
pub record IsTreeOf (name : Digest) (all : List File) (cut : Cut) (tree : TreeValue) : Type 0 where
  pub named : name ≡ file_name (first_file tree.files)
  pub cut_so : tree.files ≡ files cut tree.map
  pub given : AreGiven tree.files all
  pub limits : FitsTree tree.map

-- the file of these rows is given under its name
abbrev pub IsGiven : List File → List RowValue → Type 0
IsGiven all range = bytes_named (file_name (range_spelling range)) all ≡ Some (range_spelling range)

-- a range within its limits of which this is said, and whose file is given
pub record IsRead (all : List File) (line : RangeLine) (range : List RowValue) : Type 0 where
  pub valid : IsRange range
  pub said : line ≡ line_of range
  pub given : IsGiven all range

-- ranges within their limits of which this is said, one after the other, and whose files are given
pub record AreRead (all : List File) (lines : List RangeLine) (ranges : List (List RowValue)) : Type 0 where
  pub each : AllByRecursion IsRange ranges
  pub said : map line_of ranges ≡ lines
  pub given : AllByRecursion (IsGiven all) ranges

-- rows within their limits, of which the file of this name, which has its SHA-256, is given
pub record IsShelved (all : List File) (name : Digest) (range : List RowValue) : Type 0 where
  pub valid : IsRange range
  pub file : read_file name all ≡ Ok (range_spelling range)

-- the ranges of a table are those of their names
abbrev pub AreShelved : List File → List (Digest × List RowValue) → Type 0
AreShelved all table = (name : Digest) (range : List RowValue) → lookup (eq_by_cmp id_order name) table ≡ Some range → IsShelved all name range
