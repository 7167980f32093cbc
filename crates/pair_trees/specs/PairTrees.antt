-- The trees of the commits that pairs spell, and the numbers of objects in them.
use Rattle.std.specs.Prelude.{◌≡◌, ◌<◌, ℕ, Bool, List, [], drop, map, Option, Some, None, Result, Ok, Err, IsOk}
use Rattle.std.specs.List.{Contains, filter_map}
use Rattle.std.specs.Option.{option_map_or}
use Rattle.std.specs.Result.{result_ok}
use Rattle.lake_base.specs.declared.digest.Digest.{Digest}
use Rattle.lake_values.specs.Commit.{CommitRecordValue}
use Rattle.lake_format.specs.Spelling.{file_name}
use Rattle.lake_format.specs.declared.cut.Cut.{Cut}
use Rattle.range_file.specs.RangeReading.{range_from}
use Rattle.range_file.specs.Rows.{RowValue}
use Rattle.meta_range.specs.Files.{bytes_named}
use Rattle.meta_range.specs.Ranges.{TreeValue, first_file}
use Rattle.meta_range.specs.TreeReading.{tree_with}
use Rattle.meta_range.specs.declared.fault.TreeFault.{TreeFault}
use Rattle.meta_range.specs.declared.file.File.{File}
use Rattle.lake_model.specs.Uncommitted.{own_number}
use Rattle.pair_format.specs.declared.stored.Stored.{Stored}
use Rattle.pair_format.specs.declared.stored.Stored.TheVariants as stored
use Rattle.pair_trees.specs.Things.{Spells, Things, IsThere}

-- ---- files

-- a metarange file, where this is one, and a range file
abbrev pub metarange_in : Option Stored → Option File
metarange_in (Some (stored.MetaRange name bytes)) = Some (record { name = name; bytes = bytes })
metarange_in _ = None

abbrev pub range_in : Option Stored → Option File
range_in (Some (stored.Range name bytes)) = Some (record { name = name; bytes = bytes })
range_in _ = None

-- the metarange files that are there, and the range files
abbrev pub metaranges_in : Things → List File
metaranges_in things = filter_map metarange_in things

abbrev pub ranges_in : Things → List File
ranges_in things = filter_map range_in things

-- ---- trees

-- The tree that a commit names, or the first fault: its metarange is one of the metarange files that are there, and its ranges are among the range files.
unfoldable pub tree_named : Cut → Things → CommitRecordValue → Result TreeValue TreeFault
tree_named cut things commit = tree_with commit.meta_range (bytes_named commit.meta_range (metaranges_in things)) (ranges_in things) cut

-- what is read of the tree of a commit, where this is one
abbrev pub tree_in : Cut → Things → Option Stored → Option (Result TreeValue TreeFault)
tree_in cut things (Some (stored.Commit repo id expired commit)) = Some (tree_named cut things commit)
tree_in cut things _ = None

-- what is read of the tree of each commit, in the place of its pair
unfoldable pub trees_of : Cut → Things → List (Option (Result TreeValue TreeFault))
trees_of cut things = map (tree_in cut things) things

-- the tree of each commit is read
abbrev pub AreTreesRead : Cut → Things → Type 0
AreTreesRead cut things = (repo : List ℕ) (id : Digest) (expired : Bool) (commit : CommitRecordValue)
    → IsThere things (stored.Commit repo id expired commit) → IsOk (tree_named cut things commit)

-- the tree of this commit has this fault, and the tree of each commit in a pair before is read
pub record IsFirstUnread (cut : Cut) (things : Things) (id : Digest) (fault : TreeFault) : Type 0 where
  pub place : ℕ
  pub repo : List ℕ
  pub expired : Bool
  pub commit : CommitRecordValue
  pub stands : Spells things place (stored.Commit repo id expired commit)
  pub unread : tree_named cut things commit ≡ Err fault
  pub before : (k : ℕ) (home : List ℕ) (other : Digest) (old : Bool) (earlier : CommitRecordValue) → k < place
      → Spells things k (stored.Commit home other old earlier) → IsOk (tree_named cut things earlier)

-- ---- numbers

-- the own numbers of objects that rows name
abbrev pub numbers_of : List RowValue → List ℕ
numbers_of rows = filter_map (λ row. own_number row.1.place) rows

-- those that a range file names
unfoldable pub numbers_in : List ℕ → List ℕ
numbers_in bytes = option_map_or numbers_of (result_ok (range_from bytes)) []

-- a commit, expired or not, whose tree is read has this metarange
pub record IsReadMetaRange (cut : Cut) (things : Things) (name : Digest) (bytes : List ℕ) : Type 0 where
  pub repo : List ℕ
  pub id : Digest
  pub expired : Bool
  pub commit : CommitRecordValue
  pub there : IsThere things (stored.Commit repo id expired commit)
  pub tree : TreeValue
  pub read : tree_named cut things commit ≡ Ok tree
  pub first : first_file tree.files ≡ bytes
  pub named : file_name bytes ≡ name

-- a commit, expired or not, whose tree is read has this range
pub record IsReadRange (cut : Cut) (things : Things) (expired : Bool) (name : Digest) (bytes : List ℕ) : Type 0 where
  pub repo : List ℕ
  pub id : Digest
  pub commit : CommitRecordValue
  pub there : IsThere things (stored.Commit repo id expired commit)
  pub tree : TreeValue
  pub read : tree_named cut things commit ≡ Ok tree
  pub among : Contains (drop 1 tree.files) bytes
  pub named : file_name bytes ≡ name
