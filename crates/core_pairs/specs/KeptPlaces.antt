-- What an index of files tells of those that are kept.
use Rattle.std.specs.Prelude.{◌≡◌, ℕ, List, Option, Some}
use Rattle.std.specs.FinMap.{get}
use Rattle.lake_base.specs.Maps.{ByteMap}
use Rattle.lake_format.specs.Spelling.{file_name}
use Rattle.meta_range.specs.Ranges.{TreeValue}
use Rattle.core_state.specs.declared.file_place.FilePlace.{FilePlace}
use Rattle.core_state.specs.LakeStates.{LakeStateValue}
use Rattle.core_pairs.specs.LakePairs.{IsTreeIn}
pub use Rattle.core_changes.specs.NewPlaces.{HasNewPlaces, IsFileAs, IsPlaceIn}

-- each place that an index has under a name is that of a file of this name, of the kind that it has in some tree of the lake
pub record HasPlaces (kept : ByteMap (Option FilePlace)) (l : LakeStateValue) : Type 0 where
  pub named : (name : List ℕ) (place : FilePlace) → get kept name ≡ Some (Some place) → (file_name place.bytes).0 ≡ name
  pub told : (name : List ℕ) (place : FilePlace) → get kept name ≡ Some (Some place)
      → (tree : TreeValue) × (IsTreeIn l tree × IsPlaceIn tree place)
