-- The text of want of memory.
use Rattle.std.proofs.Common.{◌≡◌, Bool, refl, ap}
use Rattle.json.specs.Print.{escape_byte}
use Rattle.http_wire.specs.ReplyText.{no_memory_reply, reply_text}
use Rattle.lake_calls.specs.declared.reply.CallReply.TheVariants as reply
use Rattle.lake_session.specs.SessionTexts.{sent_reply, told_text}

starved_reply : (close : Bool) → sent_reply close reply.NoMemory ≡ no_memory_reply close
unfolding escape_byte
starved_reply close = refl

-- as it is printed it is the one that takes no memory
pub starved_text : (close : Bool) → told_text close reply.NoMemory ≡ reply_text (no_memory_reply close)
starved_text close = ap reply_text (starved_reply close)
