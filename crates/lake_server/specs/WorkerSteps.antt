-- What a worker does once: a connection is served, or its listener fails it.
use Rattle.std.specs.Prelude.{◌≡◌, ◌≤◌, ◌++◌, [], ◌∷◌, Some, IfSome, Result, Ok, Err}
use Rattle.lake_base.specs.Outside.{Rose}
use Rattle.lake_session.specs.WholeSessions.{IsSession}
use Rattle.lake_server.specs.ServedConnections.{Connection, WorkerView, carried_by, returned_of, streams_of}

-- this connection was accepted, served by a session, and given back
pub record ServesConnection (old now : WorkerView) (one : Connection) : Type 0 where
  pub begins : carried_by one.before ≡ old.carried
  pub session : IsSession one.before one.after one.report
  pub leaves : now.carried ≡ carried_by one.after
  pub accepted : IfSome old.accepted (λ before. now.accepted ≡ Some (before ++ streams_of one.before ∷ []))
  pub returned : IfSome old.returned (λ before. now.returned ≡ Some (before ++ returned_of one ∷ []))

-- nothing was accepted, and the listener counted that
pub record IsFailed (old now : WorkerView) : Type 0 where
  pub carried : now.carried ≡ old.carried
  pub accepted : now.accepted ≡ old.accepted
  pub returned : now.returned ≡ old.returned
  pub failed : Rose old.faults now.faults

-- WHAT CAME OF A CONNECTION that was to be served
abbrev pub ServesOrFails : {T E : Type 0} → (old now : WorkerView) → Result T E → Type 0
ServesOrFails old now (Ok served) = (one : Connection) × ServesConnection old now one
ServesOrFails old now (Err failed) = IsFailed old now

-- nothing else changed of a worker
pub record GoesOnCounting (old now : WorkerView) : Type 0 where
  pub faults : old.faults ≤ now.faults
  pub connections : now.connections ≡ old.connections
  pub served : now.served ≡ old.served
  pub failed : now.failed ≡ old.failed
