-- What a worker has served: connections one after the other, a session each.
use Rattle.std.specs.Prelude.{◌≡◌, ◌<◌, ◌≤◌, ◌++◌, ℕ, Bool, false, List, [], ◌∷◌, map, min, length, take, Option, Some, IfSome, MatchBool}
use Rattle.lake_base.specs.Outside.{Rose, last_count}
use Rattle.block_store.specs.Blocks.{HeldObjects}
use Rattle.http_wire.specs.Streams.{Streams}
use Rattle.lake_model.specs.declared.history.HistoryEntry.{HistoryEntry}
use Rattle.shared_lake.specs.SeatSteps.{LakeSeat}
use Rattle.turn_lock.specs.Seats.{TableId}
pub use Rattle.lake_session.specs.SessionViews.{StoreView}
use Rattle.lake_session.specs.SessionViews.{SessionView}
use Rattle.lake_session.specs.WholeSessions.{GoesThrough, IsSession}
use Rattle.lake_session.specs.declared.report.SessionReport.{SessionReport}
use Rattle.lake_server.specs.Connections.{Returned}
use Rattle.lake_server.specs.declared.worker.Worker.{Worker}

-- ---- sessions, one after the other

-- a connection that was served: what its session worked on before it and after it, and its report
pub record Connection : Type 0 where
  pub before : SessionView
  pub after : SessionView
  pub report : SessionReport

-- what one session leaves to the next: the seat, the clock's readings, and the store of objects
pub record Carried : Type 0 where
  pub seat : LakeSeat
  pub readings : Option (List ℕ)
  pub store : StoreView

abbrev pub carried_by : SessionView → Carried
carried_by view = record { seat = view.seat; readings = view.readings; store = view.store }

-- THESE CONNECTIONS WERE SERVED, each by a session, which began with what the one before it had left
abbrev pub AreSessions : (old now : Carried) → List Connection → Type 0
AreSessions old now [] = now ≡ old
AreSessions old now (one ∷ others) =
    (carried_by one.before ≡ old) × IsSession one.before one.after one.report × AreSessions (carried_by one.after) now others

-- What each session's seat had seen before it and after it are the first `from` and the first `to` of these entries; the first `from`
-- is this number, each later one the `to` before it, and the last `to` is all of them.
abbrev pub AreFronts : (from : ℕ) → (seen : List HistoryEntry) → List Connection → Type 0
AreFronts from seen [] = from ≡ length seen
AreFronts from seen (one ∷ others) =
    (one.report.from ≡ from) × (one.before.seat.seen ≡ take one.report.from seen) × (one.after.seat.seen ≡ take one.report.to seen)
    × AreFronts one.report.to seen others

-- ---- a worker

-- the streams of a connection as it was handed out
abbrev pub streams_of : SessionView → Streams
streams_of view = record {
  unread = view.unread;
  read_faults = view.read_faults;
  written = view.written;
  write_faults = view.write_faults;
}

-- a connection as it was given back
abbrev pub returned_of : Connection → Returned
returned_of one = record { streams = streams_of one.after; report = one.report }

-- what a worker shows at a moment: what it carries from session to session; the connections that its listener handed out and was given
-- back, where it tells them, and how often that has failed; how many connections it is to serve, if that is said; how many it has
-- served, and whether its listener failed it
pub record WorkerView : Type 0 where
  pub carried : Carried
  pub accepted : Option (List Streams)
  pub returned : Option (List Returned)
  pub faults : ℕ
  pub connections : Option ℕ
  pub served : ℕ
  pub failed : Bool

-- why a worker ended behind so many connections: its listener failed it, and counted that, before its number was reached; or that is
-- its number
abbrev pub HasEnded : (old now : WorkerView) → (count : ℕ) → Type 0
HasEnded old now count =
    MatchBool now.failed (Rose old.faults now.faults × IfSome old.connections (λ number. count < number)) (old.connections ≡ Some count)

-- A WORKER HAS SERVED ITS CONNECTIONS: a session each, one after the other. Each was accepted, and given back, in order, and no other
-- was; `served` is how many they are, and stands still at the last value of a 64-bit count.
pub record HasServed (old now : WorkerView) : Type 0 where
  pub sessions : List Connection
  pub chain : AreSessions old.carried now.carried sessions
  pub goes : GoesThrough old.carried.seat now.carried.seat
  pub fronts : AreFronts (length old.carried.seat.seen) now.carried.seat.seen sessions
  pub accepted : IfSome old.accepted (λ before. now.accepted ≡ Some (before ++ map (λ one. streams_of one.before) sessions))
  pub returned : IfSome old.returned (λ before. now.returned ≡ Some (before ++ map returned_of sessions))
  pub served : now.served ≡ min (length sessions) last_count
  pub ended : HasEnded old now (length sessions)
  pub faults : old.faults ≤ now.faults
  pub connections : now.connections ≡ old.connections

-- ---- the parts of a worker, as contracts see them

-- what a store of objects, a clock and a listener show
pub record PartViews (B C L : Type 0) : Type 0 where
  pub held : B → Option HeldObjects
  pub block_faults : B → ℕ
  pub misses : B → ℕ
  pub missed : B → ℕ
  pub readings : C → Option (List ℕ)
  pub accepted : L → Option (List Streams)
  pub returned : L → Option (List Returned)
  pub faults : L → ℕ

abbrev pub part_views : {B C L : Type 0} → (held : B → Option HeldObjects) → (block_faults misses missed : B → ℕ) → (readings : C → Option (List ℕ))
    → (accepted : L → Option (List Streams)) → (returned : L → Option (List Returned)) → (faults : L → ℕ) → PartViews B C L
part_views held block_faults misses missed readings accepted returned faults = record {
  held = held;
  block_faults = block_faults;
  misses = misses;
  missed = missed;
  readings = readings;
  accepted = accepted;
  returned = returned;
  faults = faults;
}

-- what a worker shows
abbrev pub worker_view : {B C L : Type 0} → PartViews B C L → Worker B C L → WorkerView
worker_view show worker = record {
  carried = record {
    seat = worker.seat;
    readings = show.readings worker.clock;
    store = record {
      held = show.held worker.blocks;
      faults = show.block_faults worker.blocks;
      misses = show.misses worker.blocks;
      missed = show.missed worker.blocks;
    };
  };
  accepted = show.accepted worker.listener;
  returned = show.returned worker.listener;
  faults = show.faults worker.listener;
  connections = worker.connections;
  served = worker.served;
  failed = worker.failed;
}

-- a worker that may begin at the lake of this turn: it has a seat there, and has served nothing
pub record IsReady {B C L : Type 0} (turn : TableId) (worker : Worker B C L) : Type 0 where
  pub seat : worker.seat.turn ≡ turn
  pub served : worker.served ≡ 0
  pub failed : worker.failed ≡ false
