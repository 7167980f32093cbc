-- Listeners, as a host gives them and is given them back.
use Rattle.std.specs.Prelude.{◌≤◌, ◌+◌, ℕ, List, length, map, Option, IfSome}
use Rattle.http_wire.specs.Streams.{Streams}
use Rattle.lake_server.specs.Connections.{Returned}
pub use Rattle.lake_server.specs.MemoryListeners.{MemoryListenerValue}
use Rattle.lake_server.specs.ServedConnections.{WorkerView}

-- a listener, as it shows at a moment: the connections that it handed out and was given back, where it tells them, and how often it
-- has failed
pub record DoorView : Type 0 where
  pub accepted : Option (List Streams)
  pub returned : Option (List Returned)
  pub faults : ℕ

-- what a listener shows
abbrev pub door_view : {L : Type 0} → (accepted : L → Option (List Streams)) → (returned : L → Option (List Returned)) → (faults : L → ℕ) → L → DoorView
door_view accepted returned faults door = record { accepted = accepted door; returned = returned door; faults = faults door }

-- a listener that was given at an address, as it was then
pub record Opened : Type 0 where
  pub at : List ℕ
  pub door : DoorView

-- listeners that were given at one address
abbrev pub opened_at : (at : List ℕ) → List DoorView → List Opened
opened_at at doors = map (λ door. record { at = at; door = door }) doors

-- what a host shows at a moment: the listeners that it has given, and those that it was given back, where it tells them, and how often
-- it has failed
pub record HostView : Type 0 where
  pub opened : Option (List Opened)
  pub returned : Option (List DoorView)
  pub faults : ℕ

-- so many listeners were given that weren't given back, where both are told
abbrev pub AreOut : ℕ → (opened : Option (List Opened)) → (returned : Option (List DoorView)) → Type 0
AreOut count opened returned = IfSome opened (λ out. IfSome returned (λ back. length back + count ≤ length out))

-- the listener of a worker
abbrev pub door_of : WorkerView → DoorView
door_of worker = record { accepted = worker.accepted; returned = worker.returned; faults = worker.faults }
