-- The message at the front of a list of bytes, or its first fault.
use Rattle.std.specs.Prelude.{◌≡◌, ◌≤◌, ◌⊎◌, ◌==◌, ◌+◌, ℕ, nat_le, if◌then◌else◌, codes, List, [], ◌∷◌, length, map, take, drop, Option, Some}
use Rattle.std.specs.Prelude.{None, Result, Ok, Err, ⊤}
use Rattle.std.specs.Str.{is_utf8}
use Rattle.httparse.specs.Grammar.{RequestHead, ReadsRequest, ResponseHead, ReadsResponse, status_code, field_value}
use Rattle.httparse.specs.Grammar as Grammar
use Rattle.http_wire.specs.declared.message.Field.{Field}
use Rattle.http_wire.specs.declared.message.Request.{Request}
use Rattle.http_wire.specs.declared.message.Reply.{Reply}
use Rattle.http_wire.specs.declared.fault.WireFault.{WireFault}
use Rattle.http_wire.specs.declared.fault.WireFault.TheVariants.{Ended, Truncated, HeadTooLong, BadHead, Chunked, BadLength, BodyTooLong, ReadFault, NoMemory}
use Rattle.http_wire.specs.MessageFields.{values_of, closes, body_length}
use Rattle.http_wire.specs.Filling.{Gave}
use Rattle.http_wire.specs.MessageHeads.{Opening, headed, too_long, unended, opening}

-- the fields of a head: each with its name, and its value without the blanks around it
abbrev pub fields_of : List Grammar.Field → List Field
fields_of fields = map (λ (f : Grammar.Field). record { name = f.name; value = field_value f }) fields

-- the bytes are one whole head of a request, with at most 64 fields
pub record IsRequestHeadOf (bytes : List ℕ) (head : RequestHead) : Type 0 where
  pub reads : ReadsRequest bytes head []
  pub few : length head.fields ≤ 64

-- the request of a head and a body
abbrev pub request_of : RequestHead → List ℕ → Request
request_of head body = record {
  method = head.method;
  target = head.target;
  fields = fields_of head.fields;
  body = body;
  close = closes head.minor (fields_of head.fields);
}

-- the same of a reply
pub record IsReplyHeadOf (bytes : List ℕ) (head : ResponseHead) : Type 0 where
  pub reads : ReadsResponse bytes head []
  pub few : length head.fields ≤ 64

-- the first of the values, where there is one and it is UTF-8
abbrev pub first_text : List (List ℕ) → List ℕ
first_text [] = []
first_text (value ∷ values) = if is_utf8 value then value else []

-- the reply of a head and a body
abbrev pub reply_of : ResponseHead → List ℕ → Reply
reply_of head body = record {
  status = status_code head;
  content_type = first_text (values_of (codes "content-type") (fields_of head.fields));
  body = body;
  close = closes head.minor (fields_of head.fields);
}

-- the fault of bytes that end in a head's part
abbrev pub end_fault : List ℕ → WireFault
end_fault part = if length part == 0 then Ended else Truncated (length part)

module _ {Message : Type 0} (message : List ℕ → Message) (front behind : List ℕ) where
  -- the message whose body has this length, with the bytes behind it, where so many bytes stand behind its head
  abbrev pub with_body : Result ℕ WireFault → Result (Message × List ℕ) WireFault
  with_body (Ok n) =
      if nat_le n (length behind) then Ok (message (take n behind), drop n behind) else Err (Truncated (length front + length behind))
  with_body (Err fault) = Err fault

module _ {Head Message : Type 0} (IsHeadOf : List ℕ → Head → Type 0) (fields : Head → List Field) (message : Head → List ℕ → Message) (limit : Option ℕ) where
  -- Of bytes that begin so this is read, where their source ends behind them: the message with the bytes behind it, or
  -- the first fault.
  abbrev pub Gives : Opening → Result (Message × List ℕ) WireFault → Type 0
  Gives too_long answer = answer ≡ Err HeadTooLong
  Gives (unended part) answer = answer ≡ Err (end_fault part)
  Gives (headed front behind) answer =
      ((head : Head) × IsHeadOf front head × (answer ≡ with_body (message head) front behind (body_length limit (fields head))))
      ⊎ (((head : Head) → ¬ (IsHeadOf front head)) × (answer ≡ Err BadHead))

  -- the same of the bytes
  abbrev pub Reads : List ℕ → Result (Message × List ℕ) WireFault → Type 0
  Reads bytes answer = Gives (opening bytes) answer

  -- no whole message stands in the bytes, and no fault but that they end
  abbrev pub IsUnfinished : List ℕ → Type 0
  IsUnfinished bytes = Reads bytes (Err Ended) ⊎ ((n : ℕ) × Reads bytes (Err (Truncated n)))

  -- WHAT IS READ of bytes that were given, of which these are held behind the message: the message at their front; or their first fault,
  -- and where that is that they end, nothing was left to give; or, where the source failed, that no whole message stands in them
  unfoldable pub IsReadOf : (given : List ℕ) → Result Message WireFault → (held rest : List ℕ) → Type 0
  IsReadOf given (Ok message) held rest = Reads given (Ok (message, held))
  IsReadOf given (Err NoMemory) held rest = ⊤
  IsReadOf given (Err ReadFault) held rest = IsUnfinished given
  IsReadOf given (Err Ended) held rest = Reads given (Err Ended) × (rest ≡ [])
  IsReadOf given (Err (Truncated n)) held rest = Reads given (Err (Truncated n)) × (rest ≡ [])
  IsReadOf given (Err HeadTooLong) held rest = Reads given (Err HeadTooLong)
  IsReadOf given (Err BadHead) held rest = Reads given (Err BadHead)
  IsReadOf given (Err Chunked) held rest = Reads given (Err Chunked)
  IsReadOf given (Err BadLength) held rest = Reads given (Err BadLength)
  IsReadOf given (Err (BodyTooLong n)) held rest = Reads given (Err (BodyTooLong n))

  -- WHAT A CALL ANSWERS that reads: these bytes were held before, and the source had those; it gave the first of them, and has the rest
  -- left; and this is read of all that was given
  abbrev pub IsAnswer : (before had : List ℕ) → Result Message WireFault → (held : List ℕ) → (left : Option (List ℕ)) → Type 0
  IsAnswer before had answer held left = Gave before had left (λ given rest. IsReadOf given answer held rest)

-- a fault that stays one whatever comes behind the bytes: any but that they end
abbrev pub Stays : WireFault → Type 0
Stays Ended = ⊥
Stays (Truncated n) = ⊥
Stays fault = ⊤

-- what the bytes give as a request, with a body of at most 67,108,864 bytes
abbrev pub ReadsRequestAt : List ℕ → Result (Request × List ℕ) WireFault → Type 0
ReadsRequestAt = Reads IsRequestHeadOf (λ (head : RequestHead). fields_of head.fields) request_of (Some 67108864)

-- what a call answers that reads a request
abbrev pub IsRequestAnswer : (before had : List ℕ) → Result Request WireFault → (held : List ℕ) → (left : Option (List ℕ)) → Type 0
IsRequestAnswer = IsAnswer IsRequestHeadOf (λ (head : RequestHead). fields_of head.fields) request_of (Some 67108864)

-- what the bytes give as a reply, whose body has no limit
abbrev pub ReadsReplyAt : List ℕ → Result (Reply × List ℕ) WireFault → Type 0
ReadsReplyAt = Reads IsReplyHeadOf (λ (head : ResponseHead). fields_of head.fields) reply_of None

-- what a call answers that reads a reply
abbrev pub IsReplyAnswer : (before had : List ℕ) → Result Reply WireFault → (held : List ℕ) → (left : Option (List ℕ)) → Type 0
IsReplyAnswer = IsAnswer IsReplyHeadOf (λ (head : ResponseHead). fields_of head.fields) reply_of None
