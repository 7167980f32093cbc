-- Pairs and what they spell, place by place.
use Rattle.std.specs.Prelude.{◌≡◌, ◌<◌, ℕ, List, length, slice_get, Some}
use Rattle.keeper.specs.Keepers.{entries_of}
use Rattle.lake_base.specs.Maps.{HasAscendingKeys}
use Rattle.pair_format.specs.declared.pair.Pair.{Pair}
use Rattle.pair_format.specs.declared.stored.Stored.{Stored}
use Rattle.pair_format.specs.PairSpelling.{IsSpelledStored, pair_spelling}
use Rattle.pair_trees.specs.Things.{Spells, Things, things_of}

-- the pair at a place is the one spelling of this
pub record IsSpelledAt (pairs : List Pair) (n : ℕ) (s : Stored) : Type 0 where
  pub limits : IsSpelledStored s
  pub at : slice_get pairs n ≡ Some (pair_spelling s)

-- each of these things is what the pair at its place is the spelling of
abbrev pub AreSpellings : List Pair → Things → Type 0
AreSpellings pairs things = (n : ℕ) (s : Stored) → Spells things n s → IsSpelledAt pairs n s

-- these things are what pairs spell, whose keys ascend
pub record AreSpelled (pairs : List Pair) (things : Things) : Type 0 where
  pub ascend : HasAscendingKeys (entries_of pairs)
  pub same : things ≡ things_of pairs
  pub each : AreSpellings pairs things

-- the pair at a place has this key
pub record IsKeyAt (pairs : List Pair) (key : List ℕ) (at : ℕ) : Type 0 where
  pub within : at < length pairs
  pub same : (pair : Pair) → slice_get pairs at ≡ Some pair → pair.key ≡ key

-- no pair has this key
abbrev pub HasNoKey : List Pair → List ℕ → Type 0
HasNoKey pairs key = (n : ℕ) (pair : Pair) → slice_get pairs n ≡ Some pair → pair.key ≡ key → ⊥
