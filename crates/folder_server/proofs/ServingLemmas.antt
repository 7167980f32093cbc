-- What became of a server on the lake of a folder, from what its parts do.
use native.Mathlib.Omega.{arith}
use Rattle.std.proofs.Common.{◌≡◌, ◌≤◌, ◌++◌, ◌⊎◌, ⊎_elim, inl, inr, ℕ, true, All, List, [], ◌∷◌, length, map, Some, IfSome, sym, ap, subst}
use Rattle.std.proofs.lemmas.Simd.{map-map}
use Rattle.core_puts.specs.KeeperViews.{KeeperView}
use Rattle.lake_core.specs.Lakes.{Holds, LakeValue}
use Rattle.shared_lake.specs.SeatSteps.{LakeSeat, origin_of}
use Rattle.lake_host.specs.Doors.{HostView}
use Rattle.lake_host.specs.Servers.{HasNotBegun, HasServedAll}
use Rattle.lake_host.specs.Workers.{StoreView}
use Rattle.lake_host.specs.declared.server.ServerEnd.{ServerEnd}
use Rattle.batch_lines.specs.declared.status.ExitStatus.{ExitStatus}
use Rattle.program_words.specs.ProgramWords.{LocalServing}
use Rattle.lake_folders.specs.Folders.{FoldersView, StoreShow}
use Rattle.folder_lakes.specs.FolderLakes.{IsFolderOpened, IsKeeperBack}
use Rattle.folder_server.specs.FolderServers.{Ended, FolderServes, status_of, store_of}
use Rattle.folder_server.specs.Stores.{AreBack, AreStoresOut}

module _ {K B : Type 0} (view : KeeperView K) (show : B → StoreShow) where
  -- how a server of these stores ended, as they show
  shown_outcome : (local : LocalServing) (h_before h_after : HostView) (seats : List LakeSeat) (stores left : List B) (end : ServerEnd) (lake : LakeValue K)
      → HasServedAll view seats (map (λ blocks. store_of (show blocks)) stores) local.at local.service.connections h_before h_after end lake
      (map (λ blocks. store_of (show blocks)) left)
      ⊎ HasNotBegun view seats stores h_before h_after end lake left
      → HasServedAll view seats (map store_of (map show stores)) local.at local.service.connections h_before h_after end lake (map store_of (map show left))
      ⊎ HasNotBegun view seats (map show stores) h_before h_after end lake (map show left)
  shown_outcome local h_before h_after seats stores left end lake outcome =
      ⊎_elim
      (λ served. inl (subst (λ (l : List StoreView). HasServedAll view seats (map store_of (map show stores)) local.at local.service.connections
      h_before h_after end lake l) (sym (map-map store_of show left))
      (subst (λ (l : List StoreView). HasServedAll view seats l local.at local.service.connections h_before h_after end lake
      (map (λ blocks. store_of (show blocks)) left)) (sym (map-map store_of show stores)) served)))
      (λ none. inr (record {
        finds = none.finds;
        untouched = ap (map show) none.untouched;
        opened = none.opened;
        returned = none.returned;
        why = none.why;
      }))
      outcome

  pub ended_so : (local : LocalServing) (h_before h_after : HostView) (f_before opened ready closed f_after : FoldersView) (seats : List LakeSeat)
      (stores left : List B) (end : ServerEnd) (lake : LakeValue K) (keeper : K) (status : ExitStatus)
      → IsFolderOpened local.folder f_before opened seats → length seats ≡ local.service.workers
      → (local.service.workers ≡ 1 → All (λ (seat : LakeSeat). seat.alone ≡ true) seats)
      → AreStoresOut local.folder (map show stores) opened ready
      → HasServedAll view seats (map (λ blocks. store_of (show blocks)) stores) local.at local.service.connections h_before h_after end lake
      (map (λ blocks. store_of (show blocks)) left)
      ⊎ HasNotBegun view seats stores h_before h_after end lake left
      → All (λ (seat : LakeSeat). seat.origin ≡ Some (origin_of view lake)) seats → Holds view lake
      → keeper ≡ lake.keeper → IsKeeperBack (record { kept = view.kept keeper; faults = view.faults keeper }) ready closed
      → AreBack (map show left) closed f_after → status ≡ status_of end
      → FolderServes view local h_before h_after f_before f_after status
  ended_so local h_before h_after f_before opened ready closed f_after seats stores left end lake keeper status opens count alone taken outcome origin
      holds same back stores_back tells =
      Ended (record {
        seats = seats;
        opened = opened;
        opens = opens;
        count = count;
        alone = alone;
        stores = map show stores;
        ready = ready;
        taken = taken;
        lake = lake;
        left = map show left;
        end = end;
        served = shown_outcome local h_before h_after seats stores left end lake outcome;
        origin = origin;
        holds = holds;
        closed = closed;
        keeper = subst (λ (k : K). IsKeeperBack (record { kept = view.kept k; faults = view.faults k }) ready closed) same back;
        back = stores_back;
        tells = tells;
      })
