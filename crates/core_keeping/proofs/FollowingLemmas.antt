-- Pairs that follow a lake do so after a fault of the store, and with an index that has the same places.
use Rattle.std.proofs.Common.{refl}
use Rattle.std.specs.Prelude.{Option}
use Rattle.lake_base.specs.Maps.{ByteMap}
use Rattle.keeper.specs.Keepers.{KeptPairs}
use Rattle.core_state.specs.LakeStates.{LakeStateValue}
use Rattle.core_state.specs.declared.file_place.FilePlace.{FilePlace}
use Rattle.core_changes.specs.LakeChanges.{after_fault}
use Rattle.core_changes.specs.NewPlaces.{HaveSamePlaces}
use Rattle.core_head_pairs.specs.PairWords.{at_rest}
use Rattle.core_head_pairs.proofs.PairLemmas.{follow_none}
use Rattle.core_head_pairs.proofs.PlacesKeptLemmas.{places_stay, same_trees}
use Rattle.core_keeping.specs.Following.{FollowLake, KeepLake}
use Rattle.core_keeping.proofs.SamePlacesLemmas.{still_places}

-- pairs that keep a lake keep it put to rest
pub keep_rest : (pairs : KeptPairs) (l : LakeStateValue) → KeepLake pairs l → KeepLake pairs (at_rest l)
keep_rest pairs l kept = record {
  stand = follow_none pairs l (at_rest l) (record { repositories = refl; gone = refl; numbers = refl; versions = refl; tokens = refl }) kept.stand;
  apart = record { apart = kept.apart.apart; named = kept.apart.named };
}

pub follow_fault : (pairs : KeptPairs) (files : ByteMap (Option FilePlace)) (l : LakeStateValue) → FollowLake pairs files l
    → FollowLake pairs files (after_fault l)
follow_fault pairs files l follow = record {
  kept = record {
    stand = follow_none pairs l (after_fault l) (record { repositories = refl; gone = refl; numbers = refl; versions = refl; tokens = refl }) follow.kept.stand;
    apart = record { apart = follow.kept.apart.apart; named = follow.kept.apart.named };
  };
  places = places_stay files l (after_fault l) (same_trees l (after_fault l) refl) follow.places;
}

pub follow_same : (pairs : KeptPairs) (files other : ByteMap (Option FilePlace)) (l : LakeStateValue) → HaveSamePlaces files other
    → FollowLake pairs files l → FollowLake pairs other l
follow_same pairs files other l same follow = record { kept = follow.kept; places = still_places files other same l follow.places }
