-- What a call is promised that only reads.
use Rattle.std.specs.Prelude.{◌≡◌, ℕ, length}
use Rattle.call_placement.specs.Points.{Came}
use Rattle.call_placement.specs.Sessions.{caller}
use Rattle.shared_lake.specs.SeatSteps.{LakeSeat}
use Rattle.lake_calls.specs.CallExceptions.{CallMet}
use Rattle.lake_calls.specs.LakeRules.{lake_rules}
use Rattle.lake_calls.specs.declared.call.Call.{Call}
use Rattle.flow_steps.specs.FlowAnswers.{asked_at}
use Rattle.flow_steps.specs.Flows.{IsFlow}
use Rattle.call_readings.specs.declared.answers.Answered.{Answered}

-- A READING ANSWERED A CALL: it served it, whatever the call's number and its moment are and whatever the stores counted; its
-- reply stands at all that the seat has seen then, and so does its edge; only others' entries came; and the seat is at the same
-- lake still.
pub record IsReadingAnswered (old new : LakeSeat) (call : Call) (answer : Answered) : Type 0 where
  pub flow : (number moment : ℕ) (met : CallMet) → IsFlow old new number (asked_at call moment) met answer.reply answer.position answer.edge
  pub position : answer.position ≡ length new.seen
  pub edge : answer.edge ≡ length new.seen
  pub others : (number : ℕ) → Came lake_rules (caller old.number number) old.seen new.seen
  pub turn : new.turn ≡ old.turn
