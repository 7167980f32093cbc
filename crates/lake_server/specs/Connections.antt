-- Connections, as a listener hands them out and is given them back.
use Rattle.std.specs.Prelude.{◌<◌, List, length, Option, IfSome}
use Rattle.http_wire.specs.Streams.{Streams}
use Rattle.lake_session.specs.declared.report.SessionReport.{SessionReport}

-- a connection that was given back: its streams then, and the report of its session
pub record Returned : Type 0 where
  pub streams : Streams
  pub report : SessionReport

-- some connection that was handed out wasn't given back, where both are told
abbrev pub IsOneOut : (accepted : Option (List Streams)) → (returned : Option (List Returned)) → Type 0
IsOneOut accepted returned = IfSome accepted (λ out. IfSome returned (λ back. length back < length out))
