-- A host in memory.
use Rattle.std.specs.Prelude.{ℕ, zero, suc, List, [], ◌∷◌, map, drop, replicate, Some, Vec}
use Rattle.std.specs.Global.{Global}
use Rattle.lake_host.specs.Doors.{DoorView, MemoryListenerValue, Opened, opened_at}

-- the listeners that it has given, each with its address, and those that it was given back, in order, as they were then; the
-- bytes of the connections of those that
-- are waiting; how many calls are to fail yet, and how many have failed
pub record MemoryHostValue : Type 0 where
  pub opened : List Opened
  pub returned : List DoorView
  pub waiting : List (List (List ℕ))
  pub refusals : ℕ
  pub faults : ℕ

-- a listener in memory, as it shows
abbrev pub listener_door : MemoryListenerValue → DoorView
listener_door listener = record { accepted = Some listener.accepted; returned = Some listener.returned; faults = listener.faults }

-- a listener as it is given
abbrev pub fresh_door : DoorView
fresh_door = record { accepted = Some []; returned = Some []; faults = 0 }

-- so many listeners that were given at one address
abbrev pub opened_afresh : (at : List ℕ) → (doors : ℕ) → List Opened
opened_afresh at doors = opened_at at (replicate doors fresh_door)

-- a listener that has handed out none of these connections yet
abbrev pub fresh_listener : List (List ℕ) → MemoryListenerValue
fresh_listener connections = record { accepted = []; waiting = connections; returned = []; faults = 0 }

-- the connections that have waited longest, or none
abbrev pub first_or_none : List (List (List ℕ)) → List (List ℕ)
first_or_none [] = []
first_or_none (first ∷ others) = first

-- the connections of so many listeners, of those that are waiting
abbrev pub dealt : ℕ → List (List (List ℕ)) → List (List (List ℕ))
dealt zero waiting = []
dealt (suc more) waiting = first_or_none waiting ∷ dealt more (drop 1 waiting)

-- the bytes of connections, listener by listener
abbrev pub connections_in : List (Vec (Vec ℕ Global) Global) → List (List (List ℕ))
connections_in listeners = map (λ connections. map (λ bytes. bytes.items) connections.items) listeners
