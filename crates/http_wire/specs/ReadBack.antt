-- What a reply that was written reads as.
use Rattle.std.specs.Prelude.{◌≡◌, ℕ, ◌+◌, ◌<◌, ◌≤◌, ◌^◌, ◌==◌, if◌then◌else◌, List, [], ◌++◌, length, Option, Some, Result, Ok, Err, ⊤}
use Rattle.httparse.specs.Grammar.{trim_ows}
use Rattle.http_wire.specs.declared.message.Reply.{Reply}
use Rattle.http_wire.specs.declared.fault.WireFault.{WireFault}
use Rattle.http_wire.specs.declared.fault.WireFault.TheVariants.{Ended, Truncated, HeadTooLong, BadHead, Chunked, BadLength, BodyTooLong, ReadFault, NoMemory}
use Rattle.http_wire.specs.ReplyText.{sent_type, reply_text}

-- The status has three digits, all that is sent but the body has at most 16,384 bytes, and the number of the body's
-- bytes has at most 19 digits.
pub record IsReadable (reply : Reply) : Type 0 where
  pub least : 100 ≤ reply.status
  pub most : reply.status ≤ 999
  pub head : length (reply_text reply) ≤ 16384 + length reply.body
  pub body : length reply.body < 10 ^ 19

-- the reply without what isn't sent: of a 204 its content type and body, of others the blanks around the content type
abbrev pub as_read : Reply → Reply
as_read reply = record {
  status = reply.status;
  content_type = if reply.status == 204 then [] else trim_ows (sent_type reply.content_type);
  body = if reply.status == 204 then [] else reply.body;
  close = reply.close;
}

-- What a call answers that reads what was written of a reply, and a rest behind it: the reply, and the rest is held and
-- left; or the source failed, or there was no memory.
abbrev pub IsReadBack : Reply → List ℕ → Result Reply WireFault → List ℕ → Option (List ℕ) → Type 0
IsReadBack reply rest (Ok read) held left = (read ≡ as_read reply) × ((more : List ℕ) × (left ≡ Some more) × (held ++ more ≡ rest))
IsReadBack reply rest (Err ReadFault) held left = ⊤
IsReadBack reply rest (Err NoMemory) held left = ⊤
IsReadBack reply rest (Err Ended) held left = ⊥
IsReadBack reply rest (Err (Truncated n)) held left = ⊥
IsReadBack reply rest (Err HeadTooLong) held left = ⊥
IsReadBack reply rest (Err BadHead) held left = ⊥
IsReadBack reply rest (Err Chunked) held left = ⊥
IsReadBack reply rest (Err BadLength) held left = ⊥
IsReadBack reply rest (Err (BodyTooLong n)) held left = ⊥
