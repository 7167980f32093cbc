-- The workers of a server, as they begin and as they end.
use Rattle.std.specs.Prelude.{◌≡◌, ℕ, ◌+◌, ◌||◌, Bool, false, List, [], ◌∷◌, Option, ⊤}
use Rattle.block_store.specs.Blocks.{HeldObjects}
use Rattle.shared_lake.specs.SeatSteps.{LakeSeat}
pub use Rattle.lake_server.specs.ServedConnections.{StoreView}
use Rattle.lake_server.specs.ServedConnections.{WorkerView}
use Rattle.lake_host.specs.Shares.{share_of}

-- what a store of objects shows
abbrev pub store_view : {B : Type 0} → (held : B → Option HeldObjects) → (faults misses missed : B → ℕ) → B → StoreView
store_view held faults misses missed blocks =
    record { held = held blocks; faults = faults blocks; misses = misses blocks; missed = missed blocks }

-- the store of a worker
abbrev pub store_of : WorkerView → StoreView
store_of worker = worker.carried.store

-- a worker that begins: at this seat, with so many connections to serve
pub record IsBegun (at : LakeSeat) (share : Option ℕ) (worker : WorkerView) : Type 0 where
  pub seat : worker.carried.seat ≡ at
  pub connections : worker.connections ≡ share
  pub served : worker.served ≡ 0
  pub failed : worker.failed ≡ false

-- these workers begin at these seats, in order, each with its share of the connections; the first of them is of this number
abbrev pub AreBegun : (connections : Option ℕ) → (workers number : ℕ) → List LakeSeat → List WorkerView → Type 0
AreBegun connections workers number [] [] = ⊤
AreBegun connections workers number (seat ∷ seats) (one ∷ others) =
    IsBegun seat (share_of connections workers number) one × AreBegun connections workers (number + 1) seats others
AreBegun connections workers number [] (one ∷ others) = ⊥
AreBegun connections workers number (seat ∷ seats) [] = ⊥

-- whether a listener failed one of these workers
abbrev pub any_failed : List WorkerView → Bool
any_failed [] = false
any_failed (one ∷ others) = one.failed || any_failed others
