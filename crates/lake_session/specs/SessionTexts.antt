-- What a session writes.
use Rattle.std.specs.Prelude.{◌||◌, ◌==◌, ℕ, Bool, true, List, codes, Option, Some, None, Result, Ok, Err}
use Rattle.lake_base.specs.declared.outside.Failed.{Failed}
use Rattle.http_wire.specs.ReplyText.{no_memory_reply, reply_text}
use Rattle.http_wire.specs.SinkFronts.{Wrote, WroteFront}
use Rattle.http_wire.specs.declared.fault.WireFault.{WireFault}
use Rattle.http_wire.specs.declared.fault.WireFault.TheVariants.{BadHead, BadLength, BodyTooLong, Chunked, HeadTooLong}
use Rattle.http_wire.specs.declared.message.Reply.{Reply}
use Rattle.http_wire.specs.declared.message.Request.{Request}
use Rattle.lake_calls.specs.declared.reply.CallReply.{CallReply}
use Rattle.api_replies.specs.PrintedReplies.{printed_reply}

-- the reply that is printed of what is told, behind which the connection closes or stays
abbrev pub sent_reply : (close : Bool) → CallReply → Reply
sent_reply close told = record (printed_reply told) { close = close }

-- its bytes
abbrev pub told_text : (close : Bool) → CallReply → List ℕ
told_text close told = reply_text (sent_reply close told)

-- the connection closes behind the reply to a request: its client asks for that, or it is the last that a session takes
abbrev pub closes_behind : (number : ℕ) → Request → Bool
closes_behind number request = request.close || (number == 10000)

-- what a piece that is to be written leaves: all of it was written, or, where the sink failed, a front of it
abbrev pub Writes : (before now : Option (List ℕ)) → (text : List ℕ) → {T : Type 0} → Result T Failed → Type 0
Writes before now text (Ok done) = Wrote before now text
Writes before now text (Err failed) = WroteFront before now text

-- ---- messages that aren't read

-- a status, and a message as the body's one field
abbrev pub fault_reply : (status : ℕ) → (body : List ℕ) → Reply
fault_reply status body = record { status = status; content_type = codes "application/json"; body = body; close = true }

-- the reply to a fault that is answered (this project's profile)
abbrev pub reply_to_fault : WireFault → Option Reply
reply_to_fault BadHead = Some (fault_reply 400 (codes "{\"message\":\"bad request head\"}"))
reply_to_fault BadLength = Some (fault_reply 400 (codes "{\"message\":\"bad length\"}"))
reply_to_fault HeadTooLong = Some (fault_reply 431 (codes "{\"message\":\"head too long\"}"))
reply_to_fault (BodyTooLong n) = Some (fault_reply 413 (codes "{\"message\":\"body too long\"}"))
reply_to_fault Chunked = Some (fault_reply 501 (codes "{\"message\":\"chunked bodies are not read\"}"))
reply_to_fault fault = None

-- the reply of want of memory, behind which the connection closes
abbrev pub last_reply : Reply
last_reply = no_memory_reply true
