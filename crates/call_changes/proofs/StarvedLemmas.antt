-- A call at which memory ran out before its step, as a change.
use Rattle.std.proofs.Common.{◌≡◌, ℕ, subst, sym}
use Rattle.shared_lake.specs.SeatSteps.{LakeSeat}
use Rattle.lake_calls.specs.CallExceptions.{nothing_met}
use Rattle.lake_calls.specs.declared.call.Call.{Call}
use Rattle.lake_calls.specs.declared.reply.CallReply.TheVariants as reply
use Rattle.call_placement.specs.Sessions.{caller}
use Rattle.call_readings.specs.declared.answers.Answered.{Answered}
use Rattle.call_readings.specs.AnsweredReadings.{IsReadingAnswered}
use Rattle.call_changes.specs.AnsweredChanges.{AddsBy, IsChangeAnswered}

pub starved_change : (old new : LakeSeat) (number : ℕ) (call : Call) (moment : ℕ) (answer : Answered) → IsReadingAnswered old new call answer
    → answer.reply ≡ reply.NoMemory → IsChangeAnswered old new number call moment answer
starved_change old new number call moment answer read is =
    let flow = read.flow number moment nothing_met in
    record {
      origin = flow.origin;
      from = flow.goes.from;
      flow = λ met rose. read.flow number moment met;
      adds = subst (λ told. AddsBy (caller old.number number) told old.seen new.seen) (sym is) (read.others number);
      position = read.position;
      edge = read.edge;
      turn = read.turn;
    }
