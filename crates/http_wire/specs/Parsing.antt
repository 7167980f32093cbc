-- What a whole head gives, its body apart.
use Rattle.std.specs.Prelude.{◌≡◌, ◌≤◌, ℕ, All, true, false, length, map, take, List, [], Option, Some, None, Result, Ok, Err, ⊤}
use Rattle.std.specs.Str.{is_utf8}
use Rattle.httparse.specs.declared.spans.HeaderSpan.{HeaderSpan}
use Rattle.httparse.specs.Grammar.{RequestHead, ResponseHead, status_code}
use Rattle.httparse.specs.declared.spans.RequestSpans.{RequestSpans}
use Rattle.httparse.specs.declared.spans.ResponseSpans.{ResponseSpans}
use Rattle.httparse.specs.Spans.{span_bytes, header_bytes, name_and_value, IsWithin, IsHeaderWithin}
use Rattle.http_wire.specs.declared.message.Field.{Field}
use Rattle.http_wire.specs.declared.message.Request.{Request}
use Rattle.http_wire.specs.declared.message.Reply.{Reply}
use Rattle.http_wire.specs.declared.fault.WireFault.{WireFault}
use Rattle.http_wire.specs.declared.fault.WireFault.TheVariants.{Ended, Truncated, HeadTooLong, BadHead, Chunked, BadLength, BodyTooLong, ReadFault, NoMemory}
use Rattle.http_wire.specs.HeadSearch.{IsHeadEnd}
use Rattle.http_wire.specs.MessageHeads.{begins_pair}
use Rattle.http_wire.specs.MessageFields.{body_length}
use Rattle.http_wire.specs.Messages.{IsRequestHeadOf, request_of, IsReplyHeadOf, reply_of, fields_of}

-- the field of a name and a value
abbrev pub field_of_bytes : List ℕ × List ℕ → Field
field_of_bytes parts = record { name = parts.0; value = parts.1 }

-- the name at the span is UTF-8
abbrev pub HasTextName : List ℕ → HeaderSpan → Type 0
HasTextName head span = is_utf8 (span_bytes head span.name) ≡ true

-- the parts of a request's head stand there, its fields at these places
pub record IsFoundRequest (bytes : List ℕ) (headers : List HeaderSpan) (found : RequestSpans) (head : RequestHead) : Type 0 where
  pub whole : IsRequestHeadOf bytes head
  pub method : span_bytes bytes found.method ≡ head.method
  pub method_within : IsWithin (length bytes) found.method
  pub path : span_bytes bytes found.path ≡ head.target
  pub path_within : IsWithin (length bytes) found.path
  pub version : found.version ≡ head.minor
  pub fields : map (header_bytes bytes) headers ≡ map name_and_value head.fields
  pub within : All (IsHeaderWithin (length bytes)) headers
  pub names : All (HasTextName bytes) headers
  pub method_text : is_utf8 (span_bytes bytes found.method) ≡ true

-- the parts of a whole head of a request stand there, its fields at the first of these places
abbrev pub IsFoundAt : List ℕ → List HeaderSpan → RequestSpans → Type 0
IsFoundAt bytes spans found = (found.headers ≤ length spans) × ((head : RequestHead) × IsFoundRequest bytes (take found.headers spans) found head)

-- a head stands at the front of the bytes, without empty lines before it, and its parts stand there
pub record IsFrontRequest (bytes : List ℕ) (spans : List HeaderSpan) (found : RequestSpans) : Type 0 where
  pub end : IsHeadEnd bytes found.len
  pub pair : begins_pair bytes ≡ false
  pub parts : IsFoundAt (take found.len bytes) spans found

-- the parts of a reply's head stand there, its fields at these places
pub record IsFoundReply (bytes : List ℕ) (headers : List HeaderSpan) (found : ResponseSpans) (head : ResponseHead) : Type 0 where
  pub whole : IsReplyHeadOf bytes head
  pub version : found.version ≡ head.minor
  pub code : found.code ≡ status_code head
  pub fields : map (header_bytes bytes) headers ≡ map name_and_value head.fields
  pub within : All (IsHeaderWithin (length bytes)) headers
  pub names : All (HasTextName bytes) headers

module _ {Head Message : Type 0} (IsHeadOf : List ℕ → Head → Type 0) (fields : Head → List Field) (message : Head → List ℕ → Message) (limit : Option ℕ) where
  -- the message of a head, without a body, with the body's length; or why there is none
  unfoldable pub IsParse : List ℕ → Result (Message × ℕ) WireFault → Type 0
  IsParse bytes (Ok parsed) =
      (head : Head) × IsHeadOf bytes head × (parsed.0 ≡ message head []) × (body_length limit (fields head) ≡ Ok parsed.1)
  IsParse bytes (Err NoMemory) = ⊤
  IsParse bytes (Err BadHead) = (head : Head) → ¬ (IsHeadOf bytes head)
  IsParse bytes (Err Chunked) = (head : Head) × IsHeadOf bytes head × (body_length limit (fields head) ≡ Err Chunked)
  IsParse bytes (Err BadLength) = (head : Head) × IsHeadOf bytes head × (body_length limit (fields head) ≡ Err BadLength)
  IsParse bytes (Err (BodyTooLong n)) = (head : Head) × IsHeadOf bytes head × (body_length limit (fields head) ≡ Err (BodyTooLong n))
  IsParse bytes (Err Ended) = ⊥
  IsParse bytes (Err (Truncated n)) = ⊥
  IsParse bytes (Err HeadTooLong) = ⊥
  IsParse bytes (Err ReadFault) = ⊥

-- the same of a request
abbrev pub IsRequestParse : List ℕ → Result (Request × ℕ) WireFault → Type 0
IsRequestParse = IsParse IsRequestHeadOf (λ (head : RequestHead). fields_of head.fields) request_of (Some 67108864)

-- the same of a reply
abbrev pub IsReplyParse : List ℕ → Result (Reply × ℕ) WireFault → Type 0
IsReplyParse = IsParse IsReplyHeadOf (λ (head : ResponseHead). fields_of head.fields) reply_of None
