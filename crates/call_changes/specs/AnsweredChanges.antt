-- What a call is promised that makes one change.
use Rattle.std.specs.Prelude.{◌≡◌, ◌++◌, ℕ, List, [], ◌∷◌, Some, length}
use Rattle.lake_model.specs.declared.history.HistoryEntry.{HistoryEntry}
use Rattle.lake_model.specs.declared.history.Operation.{Operation}
use Rattle.lake_model.specs.History.{accepted_entry, faulted_entry}
use Rattle.lake_core.specs.declared.standing.LakeOrigin.{LakeOrigin}
use Rattle.call_placement.specs.Points.{Came}
use Rattle.call_placement.specs.Rules.{Caller}
use Rattle.call_placement.specs.Sessions.{caller}
use Rattle.shared_lake.specs.SeatSteps.{LakeSeat}
use Rattle.lake_calls.specs.CallExceptions.{CallMet, HasRisen}
use Rattle.lake_calls.specs.LakeRules.{by_caller, lake_rules}
use Rattle.lake_calls.specs.declared.call.Call.{Call}
use Rattle.lake_calls.specs.declared.reply.CallReply.{CallReply}
use Rattle.lake_calls.specs.declared.reply.CallReply.TheVariants as reply
use Rattle.lake_calls.specs.declared.reply.Refusal.TheVariants as refusal
use Rattle.flow_steps.specs.FlowAnswers.{asked_at}
use Rattle.flow_steps.specs.Flows.{IsFlow}
use Rattle.call_readings.specs.declared.answers.Answered.{Answered}

-- others' entries came, and behind them stood the entry of an operation, which was the last
abbrev pub EndsWith : Caller → (Operation → HistoryEntry) → (from next : List HistoryEntry) → Type 0
EndsWith by entry from next = (operation : Operation) × (found : List HistoryEntry) × Came lake_rules by from found × (next ≡ found ++ entry operation ∷ [])

-- what came by the reply: the call's own accepted entry where it was done, the note of a fault where the store failed, and else
-- others' entries alone
abbrev pub AddsBy : Caller → CallReply → (from next : List HistoryEntry) → Type 0
AddsBy by (reply.Done told) from next = EndsWith by (accepted_entry (by_caller by)) from next
AddsBy by (reply.Refused refusal.StoreFault) from next = EndsWith by (faulted_entry (by_caller by)) from next
AddsBy by told from next = Came lake_rules by from next

-- that the store failed
abbrev pub store_failed : CallReply
store_failed = reply.Refused refusal.StoreFault

-- A CHANGE ANSWERED A CALL: it served it, whatever the stores counted, but that the faults of the store of pairs rose where it is
-- told that this failed. Its reply stands at all that the seat has seen then, and so does its edge; what it added is as its reply
-- says; and the seat is at the same lake still.
pub record IsChangeAnswered (old new : LakeSeat) (number : ℕ) (call : Call) (moment : ℕ) (answer : Answered) : Type 0 where
  pub origin : LakeOrigin
  pub from : old.origin ≡ Some origin
  pub flow : (met : CallMet) → (answer.reply ≡ store_failed → HasRisen met.store_faults)
      → IsFlow old new number (asked_at call moment) met answer.reply answer.position answer.edge
  pub adds : AddsBy (caller old.number number) answer.reply old.seen new.seen
  pub position : answer.position ≡ length new.seen
  pub edge : answer.edge ≡ length new.seen
  pub turn : new.turn ≡ old.turn
