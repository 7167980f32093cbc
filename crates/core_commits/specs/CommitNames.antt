-- The names of a new commit and of the files of its tree, for the index.
use Rattle.std.specs.Prelude.{◌≡◌, true, ℕ, List, [], ◌∷◌, Option, map}
use Rattle.std.specs.List.{AllByRecursion}
use Rattle.std.specs.FinMap.{contains_key, insert}
use Rattle.lake_base.specs.Maps.{ByteMap}
use Rattle.lake_base.specs.declared.digest.Digest.{Digest}
use Rattle.lake_format.specs.Spelling.{file_name}
use Rattle.meta_range.specs.Files.{file_of}
use Rattle.meta_range.specs.Ranges.{TreeValue}
use Rattle.meta_range.specs.declared.file.File.{File}
use Rattle.core_state.specs.declared.file_place.FilePlace.{FilePlace}
use Rattle.core_state.specs.declared.names.NameIndex.{NameIndex}
use Rattle.core_changes.specs.NewPlaces.{IsPlaceIn}
use Rattle.core_commits.specs.declared.naming.NamedFile.{NamedFile}
use Rattle.core_commits.specs.declared.naming.NewNames.{NewNames}

-- a file under its name
abbrev pub named_file : NamedFile → File
named_file file = record { name = file.name; bytes = file.place.bytes }

-- the repository of a commit, and the files of its tree under their names
pub record AreNames (repo : List ℕ) (tree_files : List (List ℕ)) (names : NewNames) : Type 0 where
  pub home : names.home ≡ repo
  pub files : map named_file names.files.items ≡ map file_of tree_files

-- a file of a tree under its name, of the kind that it has there
pub record IsFileOf (tree : TreeValue) (file : NamedFile) : Type 0 where
  pub name : file.name ≡ file_name file.place.bytes
  pub place : IsPlaceIn tree file.place

abbrev pub AreFilesOf : TreeValue → List NamedFile → Type 0
AreFilesOf tree files = AllByRecursion (IsFileOf tree) files

-- files under their names, over those that are kept
abbrev pub with_named : List NamedFile → ByteMap (List ℕ) → ByteMap (List ℕ)
with_named [] kept = kept
with_named (file ∷ files) kept = insert (with_named files kept) file.name.0 file.place.bytes

-- there is a place for a file
abbrev pub HasPlace : ByteMap (Option FilePlace) → NamedFile → Type 0
HasPlace places file = contains_key places file.name.0 ≡ true

-- there is room for a commit and for files
pub record HasNamesRoom (id : Digest) (files : List NamedFile) (index : NameIndex) : Type 0 where
  pub commit : contains_key index.homes id.0 ≡ true
  pub each : AllByRecursion (HasPlace index.files) files
