-- What a lake is.
use Rattle.std.specs.Prelude.{List, IfSome}
use Rattle.lake_model.specs.declared.history.HistoryEntry.{HistoryEntry}
use Rattle.lake_model.specs.State.{State}
use Rattle.lake_model.specs.History.{replay}
use Rattle.lake_model.specs.Versions.{VersionsGiven}
use Rattle.core_state.specs.declared.lake.LakeState.{LakeState}
use Rattle.core_state.specs.LakeStates.{lake_value, state_of}
use Rattle.core_puts.specs.KeeperViews.{KeeperView}
use Rattle.core_standing.specs.Standing.{Stands, versions_since}
use Rattle.lake_core.specs.FollowedLakes.{FollowOrTried}
use Rattle.lake_core.specs.KeptSince.{IsKeptSince}

-- a lake: what it was opened as, its keeper as it was then, the entries since, what it is in memory now, and the keeper
-- of its pairs
pub record LakeValue (K : Type 0) : Type 0 where
  pub opened : LakeState
  pub first : K
  pub history : List HistoryEntry
  pub present : LakeState
  pub keeper : K

-- its state: the replay of its history from the state that it was opened as
abbrev pub state : {K : Type 0} → LakeValue K → State
state l = replay (state_of (lake_value l.opened)) l.history

-- the versions given up to now
abbrev pub versions : {K : Type 0} → LakeValue K → VersionsGiven
versions l = versions_since (lake_value l.opened) l.history

-- What holds of each lake, whenever it is looked at: it stands for its history; of its keeper it is known what came of it
-- since the lake was opened; and the pairs of the keeper, where it tells them, follow the lake, or, after a fault of the store,
-- keep it with the entry that was tried.
pub record Holds {K : Type 0} (view : KeeperView K) (l : LakeValue K) : Type 0 where
  pub stands : Stands (lake_value l.opened) l.history (lake_value l.present)
  pub keeper : IsKeptSince view l.first l.keeper l.history
  pub pairs : IfSome (view.kept l.keeper) (FollowOrTried (lake_value l.opened) l.history l.present.names.files (lake_value l.present))
