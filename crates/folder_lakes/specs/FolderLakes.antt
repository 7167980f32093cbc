-- The lake of a folder, and the seats at it.
use Rattle.std.specs.Prelude.{◌≡◌, ◌≢◌, ◌<◌, ◌≤◌, ◌⊎◌, ◌++◌, ℕ, true, List, [], ◌∷◌, length, slice_index_or, All, Option, Some, IfSome}
use Rattle.lake_base.specs.Outside.{Rose}
use Rattle.keeper.specs.Keepers.{KeptPairs}
use Rattle.pair_format.specs.declared.pair.Pair.{Pair}
use Rattle.core_state.specs.LakeStates.{lake_value}
use Rattle.core_state.specs.declared.lake.LakeState.{LakeState}
use Rattle.core_standing.specs.Standing.{Stands}
use Rattle.lake_core.specs.Faults.{HasFault}
use Rattle.lake_core.specs.FollowedLakes.{FollowOrTried}
use Rattle.lake_core.specs.declared.standing.LakeOrigin.{LakeOrigin}
use Rattle.lake_model.specs.declared.history.HistoryEntry.{HistoryEntry}
use Rattle.shared_lake.specs.SeatSteps.{LakeSeat}
use Rattle.fresh_lakes.specs.FreshLakes.{usual_cut}
use Rattle.core_opening.specs.Opening.{HasCause}
use Rattle.core_opening.specs.declared.fault.OpeningFault.{OpeningFault}
use Rattle.core_opening.specs.declared.fault.OpeningFault.TheVariants.{NoMemory as NoMemoryToRead}
use Rattle.lake_opening.specs.Opening.{AreLoaded, IsLakeOf}
use Rattle.lake_folders.specs.Folders.{FoldersView, KeeperShow}
use Rattle.folder_lakes.specs.declared.fault.FolderFault.{FolderFault}
use Rattle.folder_lakes.specs.declared.fault.FolderFault.TheVariants.{Failed, NoMemory, Refused}

-- ---- the seats

-- a seat of this number at a lake that was opened as this one in memory: nothing was done there
pub record IsNewSeat (read : LakeState) (at : ℕ) (seat : LakeSeat) : Type 0 where
  pub origin : LakeOrigin
  pub from : seat.origin ≡ Some origin
  pub opened : origin.opened ≡ read
  pub number : seat.number ≡ at
  pub seen : seat.seen ≡ []
  pub mine : seat.mine ≡ []

-- the seats at such a lake, numbered from 0
abbrev pub AreNewSeats : LakeState → List LakeSeat → Type 0
AreNewSeats opened seats = (k : ℕ) (d : LakeSeat) → k < length seats → IsNewSeat opened k (slice_index_or seats k d)

-- ---- what folders are told to hold, and were given back

-- nothing was given back
pub record NothingBack (before after : FoldersView) : Type 0 where
  pub keepers : after.keepers_back ≡ before.keepers_back
  pub stores : after.stores_back ≡ before.stores_back

-- this keeper was given back, where that is told, and nothing else
pub record IsKeeperBack (show : KeeperShow) (before after : FoldersView) : Type 0 where
  pub keepers : IfSome after.keepers_back (λ now. IfSome before.keepers_back (λ old. now ≡ old ++ show ∷ []))
  pub stores : after.stores_back ≡ before.stores_back

-- the pairs of a folder: those that its keeper loaded; and where it is told what the folder holds, these are kept
pub record ArePairsIn (folder : List ℕ) (before : FoldersView) (pairs : List Pair) : Type 0 where
  pub kept : Option KeptPairs
  pub held : IfSome (before.pairs folder) (λ held. kept ≡ Some held)
  pub loaded : AreLoaded kept pairs

-- ---- a folder

-- A FOLDER WAS OPENED: the seats stand at the lake for which its pairs stand; nothing was given back
pub record IsFolderOpened (folder : List ℕ) (before after : FoldersView) (seats : List LakeSeat) : Type 0 where
  pub pairs : List Pair
  pub are : ArePairsIn folder before pairs
  pub opened : LakeState
  pub lake : IsLakeOf usual_cut pairs opened
  pub new : AreNewSeats opened seats
  pub objects : after.objects ≡ before.objects
  pub back : NothingBack before after
  pub faults : before.faults ≤ after.faults

-- it wasn't, for this fault: what opens folders failed and counted it, or the keeper did, which was given back; its pairs are those
-- of no lake, and the keeper was given back; or memory ran out
abbrev pub IsFolderRefused : (folder : List ℕ) → (before after : FoldersView) → FolderFault → Type 0
IsFolderRefused folder before after Failed =
    (NothingBack before after × Rose before.faults after.faults)
    ⊎ ((show : KeeperShow) × IsKeeperBack show before after × Rose 0 show.faults × (before.faults ≤ after.faults))
IsFolderRefused folder before after Refused =
    ((pairs : List Pair) × ArePairsIn folder before pairs × (pairs ≡ [] → ⊥) × (fault : OpeningFault) × (fault ≢ NoMemoryToRead)
    × HasCause usual_cut pairs fault)
    × ((show : KeeperShow) × IsKeeperBack show before after) × (before.faults ≤ after.faults)
IsFolderRefused folder before after NoMemory = before.faults ≤ after.faults

-- What pairs stand for that a lake left, where they are told: the lake in memory, put to rest, which stands for the history from
-- what its seats went out from; or, after a fault of the store, that lake with the entry that was tried.
pub record AreLeft (seats : List LakeSeat) (history : List HistoryEntry) (kept : Option KeptPairs) : Type 0 where
  pub opened : LakeState
  pub present : LakeState
  pub from : All (λ (seat : LakeSeat). (origin : LakeOrigin) → seat.origin ≡ Some origin → origin.opened ≡ opened) seats
  pub stands : Stands (lake_value opened) history (lake_value present)
  pub pairs : IfSome kept (FollowOrTried (lake_value opened) history present.names.files (lake_value present))

-- A FOLDER WAS CLOSED: its keeper was given back, and its pairs stand for the lake at the end. Behind all that each seat has seen
-- came entries of others, none where it is alone; and the keeper's count of faults rose since the opening, or stands at its last
-- value, where the history notes a fault, and else is as it was.
pub record IsFolderClosed (seats : List LakeSeat) (before after : FoldersView) : Type 0 where
  pub show : KeeperShow
  pub back : IsKeeperBack show before after
  pub faults : after.faults ≡ before.faults
  pub history : List HistoryEntry
  pub begins : All (λ (seat : LakeSeat). (others : List HistoryEntry) × (history ≡ seat.seen ++ others) × (seat.alone ≡ true → others ≡ [])) seats
  pub counted : All (λ (seat : LakeSeat). (origin : LakeOrigin) → seat.origin ≡ Some origin
      → (HasFault history → Rose origin.faults show.faults) × ((HasFault history → ⊥) → show.faults ≡ origin.faults)) seats
  pub left : AreLeft seats history show.kept
