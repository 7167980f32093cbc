-- A server: workers over one lake, each with a listener of a host.
use Rattle.std.specs.Prelude.{◌≡◌, ◌++◌, ◌⊎◌, ℕ, List, All, map, length, Option, Some, IfSome, if◌then◌else◌}
use Rattle.lake_base.specs.Outside.{Rose}
use Rattle.core_puts.specs.KeeperViews.{KeeperView}
use Rattle.lake_core.specs.Lakes.{LakeValue}
use Rattle.shared_lake.specs.SeatSteps.{Finds, LakeSeat}
use Rattle.lake_server.specs.ServedConnections.{WorkerView}
pub use Rattle.lake_server.specs.ServedConnections.{IsReady}
use Rattle.lake_server.specs.Workers.{HaveServed}
use Rattle.lake_host.specs.declared.server.ServerEnd.{ServerEnd}
use Rattle.lake_host.specs.declared.server.ServerEnd.TheVariants.{Done, Failed, NoMemory}
use Rattle.lake_host.specs.Doors.{HostView, door_of, opened_at}
use Rattle.lake_host.specs.Workers.{AreBegun, StoreView, any_failed, store_of}

-- A SERVER HAS SERVED: a worker at each of these seats, each with the store of objects at its place and its share of the connections, one
-- session after the other. What their seats have seen are fronts of the one history of the lake that is handed out; `left` are their
-- stores as they ended. Where the host tells it, the listeners are those that it gave at the address, in order, and it was given back
-- each. It is told whether a listener failed its worker.
pub record HasServedAll {K : Type 0} (view : KeeperView K) (seats : List LakeSeat) (stores : List StoreView) (at : List ℕ)
    (connections : Option ℕ) (before after : HostView) (end : ServerEnd) (lake : LakeValue K) (left : List StoreView) : Type 0 where
  pub begins : List WorkerView
  pub ends : List WorkerView
  pub begun : AreBegun connections (length seats) 0 seats begins
  pub begin_with : map store_of begins ≡ stores
  pub served : HaveServed begins ends
  pub finds : All (λ worker. Finds view worker.carried.seat lake) ends
  pub end_with : map store_of ends ≡ left
  pub opened : IfSome before.opened (λ doors. after.opened ≡ Some (doors ++ opened_at at (map door_of begins)))
  pub returned : IfSome before.returned (λ doors. after.returned ≡ Some (doors ++ map door_of ends))
  pub tells : end ≡ (if any_failed ends then Failed else Done)

-- a server that didn't begin: no listener was given; memory ran out, or the host failed and counted that; the lake is as its seats know
-- it, and no store was touched
pub record HasNotBegun {K B : Type 0} (view : KeeperView K) (seats : List LakeSeat) (stores : List B) (before after : HostView)
    (end : ServerEnd) (lake : LakeValue K) (left : List B) : Type 0 where
  pub finds : All (λ seat. Finds view seat lake) seats
  pub untouched : left ≡ stores
  pub opened : after.opened ≡ before.opened
  pub returned : after.returned ≡ before.returned
  pub why : (end ≡ NoMemory) ⊎ ((end ≡ Failed) × Rose before.faults after.faults)
