-- Connections to servers, as they are given and hung up.
use Rattle.std.specs.Prelude.{◌<◌, ℕ, List, length, Option, IfSome}
use Rattle.http_wire.specs.Streams.{Streams}

-- a connection to this address, and its streams as it was given
pub record Dialed : Type 0 where
  pub at : List ℕ
  pub streams : Streams

-- what gives connections, as it shows at a moment: those that it has given, and the streams of those that were hung up, as they were then,
-- where it tells them; and how often it has failed
pub record DialView : Type 0 where
  pub dialed : Option (List Dialed)
  pub hung_up : Option (List Streams)
  pub faults : ℕ

-- some connection that was given isn't hung up, where both are told
abbrev pub IsOneOpen : (dialed : Option (List Dialed)) → (hung_up : Option (List Streams)) → Type 0
IsOneOpen dialed hung_up = IfSome dialed (λ out. IfSome hung_up (λ back. length back < length out))
