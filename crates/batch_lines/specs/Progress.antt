-- What a batch under way has come to.
use Rattle.std.specs.Prelude.{ℕ, Bool, true, false, List, [], Option}

-- what the sink got so far, what was shown and isn't written yet, whether each line was done, and whether memory ran out
-- at one
pub record Progress : Type 0 where
  pub written : Option (List ℕ)
  pub pending : List ℕ
  pub done : Bool
  pub starved : Bool

-- a batch of which no line was served, when the sink got this
abbrev pub start : Option (List ℕ) → Progress
start written = record { written = written; pending = []; done = true; starved = false }

-- all that stands at one moment of a batch: what serves its lines, and what it has come to
pub record BatchState (L : Type 0) : Type 0 where
  pub server : L
  pub progress : Progress
