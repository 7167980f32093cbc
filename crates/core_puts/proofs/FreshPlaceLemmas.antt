-- The places of files of the fresh lake are those of its first tree.
use Rattle.std.proofs.Common.{◌≡◌, inl, inr, ℕ, List, sym, ap, ◌∙◌}
use Rattle.std.specs.Prelude.{Option, Some, None, option_and_then}
use Rattle.std.specs.FinMap.{empty, get}
use Rattle.lake_base.specs.Maps.{ByteMap}
use Rattle.lake_format.specs.declared.cut.Cut.{Cut}
use Rattle.meta_range.specs.Ranges.{TreeValue}
use Rattle.byte_map.proofs.ByteMapLemmas.{get_empty}
use Rattle.byte_map.proofs.ValuesLemmas.{get_some_values}
use Rattle.core_state.specs.NameIndexes.{bytes_in}
use Rattle.core_state.specs.LakeStates.{LakeStateValue, lake_value}
use Rattle.core_state.specs.declared.file_place.FilePlace.{FilePlace}
use Rattle.core_state.specs.declared.lake.LakeState.{LakeState}
use Rattle.core_changes.specs.NewPlaces.{HasNewPlaces}
use Rattle.core_puts.specs.FreshLakes.{bare_lake}

-- a lake without repositories has no places
pub no_places : (cut : Cut) (lake : LakeState) → lake_value lake ≡ bare_lake cut
    → (name : List ℕ) (place : FilePlace) → get lake.names.files name ≡ Some (Some place) → ⊥
unfolding lake_value
no_places cut lake bare name place there =
    let nothing = ap (λ (l : LakeStateValue). get l.names.files name) bare ∙ get_empty {X = List ℕ} name in
    let found = get_some_values bytes_in lake.names.files name ∙ ap (option_and_then bytes_in) there in
    absurd (let both : Some place.bytes ≡ None = sym found ∙ nothing in cc)

-- so the places after it are all new
pub only_new : (before after : ByteMap (Option FilePlace)) (tree : TreeValue)
    → ((name : List ℕ) (place : FilePlace) → get before name ≡ Some (Some place) → ⊥)
    → HasNewPlaces before after tree → HasNewPlaces empty after tree
only_new before after tree without places = record {
  named = places.named;
  told = λ name place there. elim (places.told name place there) [
    | inl was ↦ absurd (without name place was)
    | inr within ↦ inr within
  ];
}
