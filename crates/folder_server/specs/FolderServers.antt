-- A server on the lake of a folder.
use Rattle.std.specs.Prelude.{◌≡◌, ◌⊎◌, ℕ, true, All, List, length, map, Some}
use Rattle.lake_base.specs.declared.outside.Trouble.{Trouble}
use Rattle.core_puts.specs.KeeperViews.{KeeperView}
use Rattle.lake_core.specs.Lakes.{Holds, LakeValue}
use Rattle.shared_lake.specs.SeatSteps.{LakeSeat, origin_of}
use Rattle.lake_host.specs.Doors.{HostView}
use Rattle.lake_host.specs.Servers.{HasNotBegun, HasServedAll}
use Rattle.lake_host.specs.Workers.{StoreView}
use Rattle.lake_host.specs.declared.server.ServerEnd.{ServerEnd}
use Rattle.lake_host.specs.declared.server.ServerEnd.TheVariants as end
use Rattle.batch_lines.specs.declared.status.ExitStatus.{ExitStatus}
use Rattle.batch_lines.specs.declared.status.ExitStatus.TheVariants.{Done, HostFailed, OutOfMemory}
use Rattle.program_words.specs.ProgramWords.{LocalServing}
use Rattle.lake_folders.specs.Folders.{FoldersView, StoreShow}
use Rattle.folder_lakes.specs.FolderLakes.{IsFolderClosed, IsFolderOpened, IsFolderRefused, IsKeeperBack}
use Rattle.folder_lakes.specs.declared.fault.FolderFault.{FolderFault}
use Rattle.folder_lakes.specs.FolderStatus.{status_by, status_of_trouble}
use Rattle.folder_server.specs.Stores.{AreBack, AreNoStores, AreStoresOut}

-- how a run ends whose server ended so
abbrev pub status_of : ServerEnd → ExitStatus
status_of end.Done = Done
status_of end.Failed = HostFailed
status_of end.NoMemory = OutOfMemory

-- a store as a worker has it
abbrev pub store_of : StoreShow → StoreView
store_of store = record { held = store.held; faults = store.faults; misses = store.misses; missed = store.missed }

-- A SERVER HAS SERVED on the lake of a folder, with a worker at each of its seats, as many as were asked for, and each with a store of the
-- folder's objects; or it didn't begin. The lake goes out from the one at which the seats stand, and stands for its history. Its keeper was
-- given back, and then the stores as they ended.
pub record IsServedIn {K : Type 0} (view : KeeperView K) (local : LocalServing) (h_before h_after : HostView) (f_before f_after : FoldersView)
    (status : ExitStatus) : Type 0 where
  pub seats : List LakeSeat
  pub opened : FoldersView
  pub opens : IsFolderOpened local.folder f_before opened seats
  pub count : length seats ≡ local.service.workers
  -- a lone worker has the only seat
  pub alone : local.service.workers ≡ 1 → All (λ (seat : LakeSeat). seat.alone ≡ true) seats
  pub stores : List StoreShow
  pub ready : FoldersView
  pub taken : AreStoresOut local.folder stores opened ready
  pub lake : LakeValue K
  pub left : List StoreShow
  pub end : ServerEnd
  pub served : HasServedAll view seats (map store_of stores) local.at local.service.connections h_before h_after end lake (map store_of left)
      ⊎ HasNotBegun view seats stores h_before h_after end lake left
  pub origin : All (λ (seat : LakeSeat). seat.origin ≡ Some (origin_of view lake)) seats
  pub holds : Holds view lake
  pub closed : FoldersView
  pub keeper : IsKeeperBack (record { kept = view.kept lake.keeper; faults = view.faults lake.keeper }) ready closed
  pub back : AreBack left closed f_after
  pub tells : status ≡ status_of end

-- WHAT BECAME OF A SERVER on the lake of a folder
pub data FolderServes {K : Type 0} (view : KeeperView K) (local : LocalServing) (h_before h_after : HostView) (f_before f_after : FoldersView)
    (status : ExitStatus) : Type 0 where
  -- the folder wasn't opened, and the host wasn't touched
  Refused : (fault : FolderFault) → IsFolderRefused local.folder f_before f_after fault → status ≡ status_by fault → h_after ≡ h_before
      → FolderServes view local h_before h_after f_before f_after status
  -- a store of its objects was refused, and its keeper was given back
  Storeless : (trouble : Trouble) (seats : List LakeSeat) (opened tried : FoldersView) → IsFolderOpened local.folder f_before opened seats
      → AreNoStores local.folder trouble opened tried → IsFolderClosed seats tried f_after → status ≡ status_of_trouble trouble
      → h_after ≡ h_before → FolderServes view local h_before h_after f_before f_after status
  -- it served, or didn't begin
  Ended : IsServedIn view local h_before h_after f_before f_after status → FolderServes view local h_before h_after f_before f_after status
