-- What the pairs of a lake's keeper stand for.
use Rattle.std.specs.Prelude.{◌≡◌, ◌⊎◌, ◌++◌, ◌∷◌, [], List, Option}
use Rattle.lake_base.specs.Maps.{ByteMap}
use Rattle.lake_model.specs.declared.history.By.{By}
use Rattle.lake_model.specs.declared.history.HistoryEntry.{HistoryEntry}
use Rattle.lake_model.specs.declared.history.Operation.{Operation}
use Rattle.lake_model.specs.History.{accepted_entry, faulted_entry}
use Rattle.keeper.specs.Keepers.{KeptPairs}
use Rattle.core_state.specs.declared.file_place.FilePlace.{FilePlace}
use Rattle.core_state.specs.LakeStates.{LakeStateValue}
use Rattle.core_standing.specs.Standing.{Stands}
use Rattle.core_keeping.specs.Following.{FollowLake, KeepLake}

-- A lake with the entry that was tried as the store failed: the last entry of a history is a fault, and this lake stands for the
-- history in which the operation was accepted instead.
pub record IsTried (opened : LakeStateValue) (history : List HistoryEntry) (tried : LakeStateValue) : Type 0 where
  pub before : List HistoryEntry
  pub by : By
  pub operation : Operation
  pub faulted : history ≡ before ++ faulted_entry by operation ∷ []
  pub stands : Stands opened (before ++ accepted_entry by operation ∷ []) tried

-- pairs keep such a lake
pub record KeepTried (opened : LakeStateValue) (history : List HistoryEntry) (pairs : KeptPairs) : Type 0 where
  pub lake : LakeStateValue
  pub tried : IsTried opened history lake
  pub kept : KeepLake pairs lake

-- pairs follow a lake that stands for its history, or keep it with the entry that was tried
abbrev pub FollowOrTried : LakeStateValue → List HistoryEntry → ByteMap (Option FilePlace) → LakeStateValue → KeptPairs → Type 0
FollowOrTried opened history files present pairs = FollowLake pairs files present ⊎ KeepTried opened history pairs
