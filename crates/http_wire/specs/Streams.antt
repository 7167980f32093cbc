-- The streams of a connection.
use Rattle.std.specs.Prelude.{ℕ, List, Option}

-- the streams of a connection, as they show at a moment: the bytes that its source has left and what its sink got, where they tell it,
-- and how often each has failed
pub record Streams : Type 0 where
  pub unread : Option (List ℕ)
  pub read_faults : ℕ
  pub written : Option (List ℕ)
  pub write_faults : ℕ
