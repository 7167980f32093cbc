-- A flow of several steps, and the call that it serves.
use Rattle.std.specs.Prelude.{ℕ}
use Rattle.lake_core.specs.declared.standing.LakeOrigin.{LakeOrigin}
use Rattle.shared_lake.specs.SeatSteps.{LakeSeat}
use Rattle.call_placement.specs.Served.{IsServed}
use Rattle.call_placement.specs.Sessions.{caller}
use Rattle.lake_calls.specs.CallExceptions.{CallMet}
use Rattle.lake_calls.specs.LakeRules.{lake_rules}
use Rattle.lake_calls.specs.Requests.{CallRequest}
use Rattle.lake_calls.specs.declared.reply.CallReply.{CallReply}
use Rattle.flow_steps.specs.FlowSeats.{GoesOn, opened_state}

-- A FLOW SERVED A CALL of its seat: between what the seat had seen before it and after it the request, with what the call met,
-- has this reply at this position, and this is its edge, wherever others' entries came; and the seat went on in this call
-- alone.
pub record IsFlow (old new : LakeSeat) (call : ℕ) (request : CallRequest) (met : CallMet) (told : CallReply) (position edge : ℕ) : Type 0 where
  pub origin : LakeOrigin
  pub goes : GoesOn origin call old new
  pub served : IsServed lake_rules (opened_state origin) (caller old.number call) old.seen new.seen request met told position edge
