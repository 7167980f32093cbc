-- A call that was served on a lake with one seat.
use Rattle.std.specs.Prelude.{ℕ, List, ◌++◌}
use Rattle.call_placement.specs.Rules.{Caller}
use Rattle.call_placement.specs.Served.{IsServed}
use Rattle.call_placement.specs.Alone.{AreOwn, IsPlain}
use Rattle.lake_model.specs.declared.history.HistoryEntry.{HistoryEntry}
use Rattle.lake_model.specs.State.{State}
use Rattle.lake_calls.specs.CallExceptions.{CallMet}
use Rattle.lake_calls.specs.LakeRules.{lake_rules}
use Rattle.lake_calls.specs.Requests.{CallRequest}
use Rattle.lake_calls.specs.declared.reply.CallReply.{CallReply}

-- A CALL WAS SERVED WHILE ITS SEAT WAS ALONE: behind what its seat had seen before, only its own entries stand, and what it was
-- told is none of the exceptions that it could have met.
abbrev pub IsServedAlone : (opened : State) → Caller → (before : List HistoryEntry) → CallRequest → CallMet → (told : CallReply)
    → (added : List HistoryEntry) → Type 0
IsServedAlone opened by before request met told added = (position : ℕ) × (next_edge : ℕ)
    × IsServed lake_rules opened by before (before ++ added) request met told position next_edge
    × IsPlain lake_rules opened by before request met told × AreOwn lake_rules by added
