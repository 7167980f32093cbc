-- A desk at the lake of a folder.
use Rattle.std.specs.Prelude.{◌≡◌, ◌++◌, ℕ, true, List, [], ◌∷◌, Some, IfSome}
use Rattle.lake_base.specs.Outside.{Rose}
use Rattle.lake_base.specs.declared.outside.Trouble.{Trouble}
use Rattle.lake_base.specs.declared.outside.Trouble.TheVariants.{Failed}
use Rattle.batch_lines.specs.declared.status.ExitStatus.{ExitStatus}
use Rattle.lake_batch.specs.CommandWords.{StoreView}
use Rattle.lake_folders.specs.Folders.{FoldersView}
use Rattle.shared_lake.specs.SeatSteps.{LakeSeat}
use Rattle.folder_lakes.specs.FolderLakes.{IsFolderClosed, IsFolderOpened, IsFolderRefused, NothingBack}
use Rattle.folder_lakes.specs.declared.fault.FolderFault.{FolderFault}
use Rattle.folder_batch.specs.Desks.{Desk}
use Rattle.folder_lakes.specs.FolderStatus.{status_by, status_of_trouble}

-- THE DESK AT A FOLDER'S LAKE WAS OPENED, and nothing was done there: it has the only seat, and a store that has counted nothing, and holds what
-- the folder is told to hold; nothing was given back
pub record IsDeskOpened (folder : List ℕ) (before after : FoldersView) (desk : Desk) : Type 0 where
  pub between : FoldersView
  pub opens : IsFolderOpened folder before between (desk.seat ∷ [])
  pub alone : desk.seat.alone ≡ true
  pub held : IfSome (between.objects folder) (λ held. desk.store.held ≡ Some held)
  pub calm : (desk.store.faults ≡ 0) × (desk.store.misses ≡ 0)
  pub back : NothingBack between after

-- IT WASN'T, and the run ends with this status
pub data IsDeskRefused (folder : List ℕ) (before after : FoldersView) (status : ExitStatus) : Type 0 where
  -- the folder wasn't opened
  Refused : (fault : FolderFault) → IsFolderRefused folder before after fault → status ≡ status_by fault → IsDeskRefused folder before after status
  -- its store of objects wasn't, and its keeper was given back
  Storeless : (trouble : Trouble) (seat : LakeSeat) (opened tried : FoldersView) → IsFolderOpened folder before opened (seat ∷ [])
      → NothingBack opened tried → (trouble ≡ Failed → Rose opened.faults tried.faults) → IsFolderClosed (seat ∷ []) tried after
      → status ≡ status_of_trouble trouble → IsDeskRefused folder before after status

-- a store was given back, where that is told, and nothing else
pub record IsStoreBack (store : StoreView) (before after : FoldersView) : Type 0 where
  pub stores : IfSome after.stores_back (λ now. IfSome before.stores_back (λ old. now ≡ old
      ++ record { held = store.held; faults = store.faults; misses = store.misses; missed = store.missed } ∷ []))
  pub keepers : after.keepers_back ≡ before.keepers_back

-- WHAT WAS TAKEN AT A DESK WAS GIVEN BACK: the keeper of its lake, and then the store
pub record IsLeft (desk : Desk) (before after : FoldersView) : Type 0 where
  pub closed : FoldersView
  pub close : IsFolderClosed (desk.seat ∷ []) before closed
  pub store : IsStoreBack desk.store closed after
  pub faults : after.faults ≡ closed.faults
