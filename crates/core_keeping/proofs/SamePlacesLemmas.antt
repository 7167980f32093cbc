-- An index that has the same places as another.
use Rattle.std.proofs.Common.{◌≡◌, ℕ, List, sym, ap, ◌∙◌}
use Rattle.std.specs.Prelude.{Option, Some, None, option_and_then}
use Rattle.std.specs.FinMap.{get}
use Rattle.lake_base.specs.Maps.{ByteMap}
use Rattle.byte_map.proofs.ValuesLemmas.{get_some_values}
use Rattle.core_state.specs.LakeStates.{LakeStateValue}
use Rattle.core_state.specs.declared.file_place.FilePlace.{FilePlace}
use Rattle.core_changes.specs.NewPlaces.{HaveSamePlaces}
use Rattle.core_head_pairs.specs.PairWords.{HasPlaces}

place_of : {X : Type 0} (o : Option (Option X)) (x : X) → option_and_then (λ place. place) o ≡ Some x → o ≡ Some (Some x)
place_of None x is = absurd cc
place_of (Some place) x is = ap Some is

module _ (before after : ByteMap (Option FilePlace)) (same : HaveSamePlaces before after) where
  -- a place that it has the other had
  was_there : (name : List ℕ) (place : FilePlace) → get after name ≡ Some (Some place) → get before name ≡ Some (Some place)
  was_there name place there =
      place_of (get before name) place (sym (get_some_values (λ place. place) before name)
      ∙ ap (λ places. get places name) (sym same)
      ∙ get_some_values (λ place. place) after name ∙ ap (option_and_then (λ place. place)) there)

  pub still_places : (l : LakeStateValue) → HasPlaces before l → HasPlaces after l
  still_places l places = record {
    named = λ name place there. places.named name place (was_there name place there);
    told = λ name place there. places.told name place (was_there name place there);
  }
