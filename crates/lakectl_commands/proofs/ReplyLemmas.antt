-- The reply in bytes that come back.
use Rattle.std.proofs.Common.{◌≡◌, ◌≢◌, ◌<◌, ℕ, List, [], ◌++◌, Option, Some, None, IfSome, Ok, Err, refl, arith}
use Rattle.lake_base.specs.Outside.{Rose}
use Rattle.httparse.specs.Grammar.{ResponseHead}
use Rattle.http_wire.specs.Filling.{Gave}
use Rattle.http_wire.specs.Messages.{IsReadOf, IsReplyAnswer, IsReplyHeadOf, ReadsReplyAt, fields_of, reply_of}
use Rattle.lakectl_commands.specs.SentCommands.{IsReplyRead}
use Rattle.http_wire.proofs.LongerBytes.{IsReplyAnswerOfAll, reply_of_all}
use Rattle.http_wire.specs.declared.fault.WireFault.{WireFault}
use Rattle.http_wire.specs.declared.fault.WireFault.TheVariants as wire
use Rattle.http_wire.specs.declared.message.Reply.{Reply}

module _ (before had bytes : List ℕ) (all : before ++ had ≡ bytes) (held : List ℕ) (left : Option (List ℕ)) where
  -- a reply was read
  pub reply_read : (reply : Reply) → IsReplyAnswer before had (Ok reply) held left → (rest : List ℕ) × ReadsReplyAt bytes (Ok (reply, rest))
  reply_read reply answer = let read = reply_of_all before had bytes all (Ok reply) held left answer in (held ++ read.0, read.2)

  none_in : (fault : WireFault) → fault ≢ wire.NoMemory → fault ≢ wire.ReadFault → IsReplyAnswerOfAll bytes (Err fault) held left
      → (due : WireFault) × ReadsReplyAt bytes (Err due)
  none_in wire.NoMemory memory read answer = absurd (memory refl)
  none_in wire.ReadFault memory read answer = absurd (read refl)
  none_in wire.Ended memory read answer = (wire.Ended, answer)
  none_in (wire.Truncated n) memory read answer = (wire.Truncated n, answer)
  none_in wire.HeadTooLong memory read answer = (wire.HeadTooLong, answer)
  none_in wire.BadHead memory read answer = (wire.BadHead, answer)
  none_in wire.Chunked memory read answer = (wire.Chunked, answer)
  none_in wire.BadLength memory read answer = (wire.BadLength, answer)
  none_in (wire.BodyTooLong n) memory read answer = (wire.BodyTooLong n, answer)

  -- none was
  pub no_reply_read : (fault : WireFault) → fault ≢ wire.NoMemory → fault ≢ wire.ReadFault → IsReplyAnswer before had (Err fault) held left
      → (due : WireFault) × ReadsReplyAt bytes (Err due)
  no_reply_read fault memory read answer = none_in fault memory read (reply_of_all before had bytes all (Err fault) held left answer)

-- ---- of a source

module _ (had held : List ℕ) (left : Option (List ℕ)) where
  none_at : (given rest : List ℕ) (fault : WireFault) → fault ≢ wire.NoMemory → fault ≢ wire.ReadFault
      → IsReadOf IsReplyHeadOf (λ (head : ResponseHead). fields_of head.fields) reply_of None given (Err fault) held rest
      → (due : WireFault) × ReadsReplyAt given (Err due)
  unfolding IsReadOf
  none_at given rest wire.NoMemory memory failed read = absurd (memory refl)
  none_at given rest wire.ReadFault memory failed read = absurd (failed refl)
  none_at given rest wire.Ended memory failed read = (wire.Ended, read.0)
  none_at given rest (wire.Truncated n) memory failed read = (wire.Truncated n, read.0)
  none_at given rest wire.HeadTooLong memory failed read = (wire.HeadTooLong, read)
  none_at given rest wire.BadHead memory failed read = (wire.BadHead, read)
  none_at given rest wire.Chunked memory failed read = (wire.Chunked, read)
  none_at given rest wire.BadLength memory failed read = (wire.BadLength, read)
  none_at given rest (wire.BodyTooLong n) memory failed read = (wire.BodyTooLong n, read)

  -- a reply was read of what it gave, and so of all that it had
  pub reply_given : (reply : Reply) → IsReplyAnswer [] had (Ok reply) held left
      → Gave [] had left (λ came rest. IsReplyRead came (Some reply) × IsReplyRead had (Some reply))
  unfolding IsReadOf
  reply_given reply answer = record {
    more = answer.more;
    rest = answer.rest;
    gave = answer.gave;
    left_is = answer.left_is;
    read = ((held, answer.read), reply_read [] had had refl held left reply answer);
  }

  -- none was
  pub no_reply_given : (fault : WireFault) → fault ≢ wire.NoMemory → fault ≢ wire.ReadFault → IsReplyAnswer [] had (Err fault) held left
      → Gave [] had left (λ came rest. IsReplyRead came None × IsReplyRead had None)
  no_reply_given fault memory failed answer = record {
    more = answer.more;
    rest = answer.rest;
    gave = answer.gave;
    left_is = answer.left_is;
    read = (none_at answer.more answer.rest fault memory failed answer.read, no_reply_read [] had had refl held left fault memory failed answer);
  }

-- what follows of bytes where they are told
pub where_told : (found : Option (List ℕ)) (P Q : List ℕ → Type 0) → ((bytes : List ℕ) → P bytes → Q bytes) → IfSome found P → IfSome found Q
where_told None P Q f p = tt
where_told (Some bytes) P Q f p = f bytes p

-- a source whose count of faults stays 0 never fails
pub never_rose : Rose 0 0 → ⊥
never_rose rose = let low : 0 < 0 = rose (omega arith) in omega (arith, low)
