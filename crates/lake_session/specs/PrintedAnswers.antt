-- What is printed of an answer, and what is told and sent then.
use Rattle.std.specs.Prelude.{◌≡◌, Bool, true, false, length, Option, Some, None}
use Rattle.http_wire.specs.ReplyText.{no_memory_reply}
use Rattle.http_wire.specs.declared.message.Reply.{Reply}
use Rattle.lake_calls.specs.declared.reply.CallReply.{CallReply}
use Rattle.lake_calls.specs.declared.reply.CallReply.TheVariants as reply
use Rattle.api_replies.specs.PrintedReplies.{printed_reply}
use Rattle.lake_api.specs.AnswerWords.{Answered, LakeSeat}
use Rattle.lake_session.specs.declared.replies.Printed.{Printed}

-- whether it is told that a request's form was refused
abbrev pub tells_form : CallReply → Bool
tells_form (reply.Malformed refusal) = true
tells_form told = false

-- WHAT IS PRINTED of an answer: its reply, at its position. Where no memory was left for that it is told so: at the same position, but
-- for a form's refusal at all that the seat has seen.
pub data IsPrinted (seat : LakeSeat) (answer : Answered) (printed : Printed) : Type 0 where
  Whole : printed ≡ record { reply = Some (printed_reply answer.reply); position = answer.position; edge = answer.edge } → IsPrinted seat answer printed
  Starved : tells_form answer.reply ≡ false → printed ≡ record { reply = None; position = answer.position; edge = answer.edge }
      → IsPrinted seat answer printed
  StarvedForm : tells_form answer.reply ≡ true → printed ≡ record { reply = None; position = length seat.seen; edge = length seat.seen }
      → IsPrinted seat answer printed

-- what is told of a reply that was printed, or wasn't
abbrev pub told_by : CallReply → Option Reply → CallReply
told_by due (Some sent) = due
told_by due None = reply.NoMemory

-- the reply that is sent then, behind which the connection closes or stays
abbrev pub sent_by : (close : Bool) → Option Reply → Reply
sent_by close (Some sent) = record sent { close = close }
sent_by close None = no_memory_reply close
