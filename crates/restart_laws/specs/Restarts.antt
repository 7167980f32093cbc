-- A lake that is opened again over the pairs that another left.
use Rattle.std.specs.Prelude.{◌≡◌, ◌++◌, ◌∷◌, [], false, List, Option, Some}
use Rattle.std.specs.FinMap.{empty}
use Rattle.lake_base.specs.Maps.{ByteMap}
use Rattle.lake_format.specs.declared.cut.Cut.{Cut}
use Rattle.lake_model.specs.declared.history.HistoryEntry.{HistoryEntry}
use Rattle.lake_model.specs.History.{accepted_entry, replay}
use Rattle.lake_model.specs.State.{State}
use Rattle.pair_format.specs.declared.pair.Pair.{Pair}
use Rattle.keeper.specs.Keepers.{KeptPairs}
use Rattle.core_state.specs.declared.file_place.FilePlace.{FilePlace}
use Rattle.core_state.specs.declared.lake.LakeState.{LakeState}
use Rattle.core_state.specs.LakeStates.{LakeStateValue, lake_value, state_of}
use Rattle.core_puts.specs.KeeperViews.{KeeperView}
use Rattle.core_standing.specs.Standing.{Stands}
use Rattle.core_keeping.specs.Following.{KeepLake}
use Rattle.reading_again.specs.ReadableLakes.{HasReadableParts, HasTexts}
use Rattle.lake_core.specs.FollowedLakes.{FollowOrTried, IsTried}
use Rattle.lake_core.specs.Lakes.{LakeValue}
use Rattle.lake_opening.specs.Opening.{AreLoaded, IsLakeOf, IsOpened}

-- a state put to rest: it has no unfinished uploads and no entries, and isn't stopped, and is otherwise as it was
abbrev pub rested : State → State
rested s = record s { tickets = empty; stopped = false; entries = 0 }

-- A lake was read of pairs that another left, by the same cut. That one stood for this history from what it was opened as, and the
-- pairs follow it, or, after a fault of the store, keep it with the entry that was tried; they were loaded; and the settings that
-- were read have texts.
pub record IsReadAgain (opened : LakeStateValue) (history : List HistoryEntry) (files : ByteMap (Option FilePlace)) (present : LakeStateValue) (cut : Cut)
    (again : LakeState) : Type 0 where
  pub pairs : KeptPairs
  pub stands : Stands opened history present
  pub follow : FollowOrTried opened history files present pairs
  pub loaded : List Pair
  pub are : AreLoaded (Some pairs) loaded
  pub lake : IsLakeOf cut loaded again
  pub cut_is : opened.cut ≡ cut
  pub texts : HasTexts (lake_value again)

-- if pairs keep a lake with the entry that was tried as the store failed, its maps and settings can be read
abbrev pub CanTriedBeRead : LakeStateValue → List HistoryEntry → KeptPairs → Type 0
CanTriedBeRead opened history pairs = (tried : LakeStateValue) → IsTried opened history tried → KeepLake pairs tried → HasReadableParts tried

-- it is the lake with the entry that was tried as the store failed, which the pairs keep, put to rest
pub record IsTriedAgain (opened : LakeStateValue) (history : List HistoryEntry) (pairs : KeptPairs) (again : LakeStateValue) : Type 0 where
  pub tried : LakeStateValue
  pub is : IsTried opened history tried
  pub kept : KeepLake pairs tried
  pub same : state_of again ≡ rested (replay (state_of opened) (is.before ++ accepted_entry is.by is.operation ∷ []))

-- a lake was opened, by the same cut, over a keeper that has the pairs that another lake left, and the settings that were read have
-- texts
pub record IsOpenedAgain {K L : Type 0} (left : KeeperView K) (view : KeeperView L) (cut : Cut) (lake : LakeValue K) (keeper : L) (again : LakeValue L)
    : Type 0 where
  pub pairs : KeptPairs
  pub were : left.kept lake.keeper ≡ Some pairs
  pub are : view.kept keeper ≡ Some pairs
  pub cut_is : (lake_value lake.opened).cut ≡ cut
  pub opened : IsOpened view cut keeper again
  pub texts : HasTexts (lake_value again.opened)
