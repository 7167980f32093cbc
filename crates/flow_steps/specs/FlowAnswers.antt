-- What a flow is asked, and what it meets of the store of objects.
use Rattle.std.specs.Prelude.{ℕ}
use Rattle.lake_calls.specs.CallExceptions.{Counts}
use Rattle.lake_calls.specs.Requests.{Asks, CallRequest}
use Rattle.lake_calls.specs.declared.call.Call.{Call}

-- a call that is asked at a moment
abbrev pub asked_at : Call → (moment : ℕ) → CallRequest
asked_at call moment = record { asked = Asks call; moment = moment }

-- what a store of objects counted before a call and after it: its faults, its misses, and the number missed last
pub record BlockCounts : Type 0 where
  pub faults : Counts
  pub misses : Counts
  pub missed_last : ℕ

-- one that counts nothing in a call
abbrev pub still : (faults misses missed : ℕ) → BlockCounts
still faults misses missed = record {
  faults = record { before = faults; now = faults };
  misses = record { before = misses; now = misses };
  missed_last = missed;
}
