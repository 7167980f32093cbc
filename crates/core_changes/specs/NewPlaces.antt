-- The places of files that an index has, and those of a tree that come to it.
use Rattle.std.specs.Prelude.{◌≡◌, ◌⊎◌, true, false, ℕ, Bool, List, ◌∷◌, Option, Some}
use Rattle.std.specs.FinMap.{get}
use Rattle.std.specs.List.{Contains}
use Rattle.lake_base.specs.Maps.{ByteMap}
use Rattle.lake_format.specs.Spelling.{file_name}
use Rattle.meta_range.specs.Ranges.{TreeValue}
use Rattle.byte_map.specs.Values.{some_values}
use Rattle.core_state.specs.declared.file_place.FilePlace.{FilePlace}

-- the metarange of a tree, and one of its ranges, as bytes
abbrev pub IsMetaRangeOf : TreeValue → List ℕ → Type 0
IsMetaRangeOf tree bytes = (ranges : List (List ℕ)) × (tree.files ≡ bytes ∷ ranges)

abbrev pub IsRangeOf : TreeValue → List ℕ → Type 0
IsRangeOf tree bytes =
    (metarange : List ℕ) × ((ranges : List (List ℕ)) × ((tree.files ≡ metarange ∷ ranges) × Contains ranges bytes))

-- bytes are a file of a tree: its metarange, or one of its ranges
abbrev pub IsFileAs : TreeValue → Bool → List ℕ → Type 0
IsFileAs tree true bytes = IsMetaRangeOf tree bytes
IsFileAs tree false bytes = IsRangeOf tree bytes

-- a place is that of a file of a tree, of the kind that it has there
abbrev pub IsPlaceIn : TreeValue → FilePlace → Type 0
IsPlaceIn tree place = IsFileAs tree place.is_metarange place.bytes

-- each place that an index has under a name is that of a file of this name
abbrev pub AreNamedPlaces : ByteMap (Option FilePlace) → Type 0
AreNamedPlaces kept = (name : List ℕ) (place : FilePlace) → get kept name ≡ Some (Some place) → (file_name place.bytes).0 ≡ name

-- an index has the places that it had, and some of files of a tree
pub record HasNewPlaces (before after : ByteMap (Option FilePlace)) (tree : TreeValue) : Type 0 where
  pub named : (name : List ℕ) (place : FilePlace) → get after name ≡ Some (Some place) → (file_name place.bytes).0 ≡ name
  pub told : (name : List ℕ) (place : FilePlace) → get after name ≡ Some (Some place)
      → (get before name ≡ Some (Some place)) ⊎ IsPlaceIn tree place

-- an index has the same places, and may have room for others
abbrev pub HaveSamePlaces : ByteMap (Option FilePlace) → ByteMap (Option FilePlace) → Type 0
HaveSamePlaces before after = some_values (λ place. place) after ≡ some_values (λ place. place) before
