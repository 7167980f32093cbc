-- Places of files that join an index.
use Rattle.std.specs.Prelude.{◌≡◌, ◌⊎◌, ℕ, List, Option, Some}
use Rattle.std.specs.FinMap.{get}
use Rattle.std.specs.List.{Contains}
use Rattle.lake_base.specs.Maps.{ByteMap}
use Rattle.lake_format.specs.Spelling.{file_name}
use Rattle.meta_range.specs.Ranges.{TreeValue}
use Rattle.core_state.specs.declared.file_place.FilePlace.{FilePlace}
use Rattle.core_pairs.specs.KeptPlaces.{IsPlaceIn}
use Rattle.core_filling.specs.Filling.{CommitRead}

-- a place is that of a file of a tree, which has this name
pub record IsPlaceOf (tree : TreeValue) (name : List ℕ) (place : FilePlace) : Type 0 where
  pub named : (file_name place.bytes).0 ≡ name
  pub is : IsPlaceIn tree place

-- an index has the places that it had, and some of files of a tree
abbrev pub AddsPlaces : TreeValue → ByteMap (Option FilePlace) → ByteMap (Option FilePlace) → Type 0
AddsPlaces tree before after = (name : List ℕ) (place : FilePlace) → get after name ≡ Some (Some place)
    → (get before name ≡ Some (Some place)) ⊎ IsPlaceOf tree name place

-- a place is that of a file of the tree of one of these commits
pub record IsPlaceAmong (commits : List CommitRead) (name : List ℕ) (place : FilePlace) : Type 0 where
  pub commit : CommitRead
  pub among : Contains commits commit
  pub of : IsPlaceOf commit.tree name place

-- an index has the places that it had, and some of files of the trees of these commits
abbrev pub AddsPlacesOf : List CommitRead → ByteMap (Option FilePlace) → ByteMap (Option FilePlace) → Type 0
AddsPlacesOf commits before after = (name : List ℕ) (place : FilePlace) → get after name ≡ Some (Some place)
    → (get before name ≡ Some (Some place)) ⊎ IsPlaceAmong commits name place
