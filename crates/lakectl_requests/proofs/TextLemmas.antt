-- The text of a request whose parts can stand in a head reads back.
use Rattle.std.proofs.Common.{◌≡◌, ◌≤◌, ◌<◌, ◌+◌, ℕ, suc, Bool, true, false, nat_lt, nat_le, List, [], ◌∷◌, ◌++◌, length, take, drop, All, codes, Some}
use Rattle.std.proofs.Common.{Result, Ok, Err, IsTrue, refl, sym, ap, subst, inl, ◌∙◌, arith, append_assoc, if◌then◌else◌}
use Rattle.std.specs.List.{flat_map}
use Rattle.std.proofs.lemmas.Bool.Decides.{nat_tests}
use Rattle.std.proofs.lemmas.List.{append-nil, length-append, take_all, take_at, drop_at, drop_all}
use Rattle.std.proofs.lemmas.List.Elements.{All-cons, All-nil, All-weaker}
use Rattle.std.proofs.lemmas.Str.{IsUtf8-from_ascii}
use Rattle.std.proofs.lemmas.Str.Ascii.{IsAscii-from_all}
use Rattle.httparse.specs.Grammar as Grammar
use Rattle.httparse.specs.Grammar.{crlf, is_uri_byte, is_value_byte, IsField, IsToken, IsRequestHead, RequestHead, print_field, print_request}
use Rattle.httparse.specs.Grammar.{print_section, trim_ows}
use Rattle.httparse.proofs.GrammarLemmas.{print_request-append}
use Rattle.http_wire.specs.declared.message.Field.{Field}
use Rattle.http_wire.specs.declared.message.Request.{Request}
use Rattle.http_wire.specs.declared.fault.WireFault.{WireFault}
use Rattle.http_wire.specs.declared.fault.WireFault.TheVariants.{Truncated, HeadTooLong, BodyTooLong}
use Rattle.http_wire.specs.MessageFields.{closes, length_within, body_length}
use Rattle.http_wire.specs.MessageHeads.{headed, too_long, opening}
use Rattle.http_wire.specs.Messages.{IsRequestHeadOf, fields_of, request_of, with_body, ReadsRequestAt}
use Rattle.http_wire.proofs.AnswerLemmas.{le_true, gives_as}
use Rattle.http_wire.proofs.HeadLemmas.{opening_headed, opening_too_long}
use Rattle.lakectl_words.specs.WireRequests.{field_text, head_text, request_text}
use Rattle.lakectl_requests.specs.SentReadings.{IsFieldValue, read_back}
use Rattle.lakectl_requests.proofs.TargetLemmas.{IsVisible}
use Rattle.lakectl_requests.proofs.HeadEndLemmas.{head_of, request_end, no_pair}

-- ---- fields

-- a field that can stand in a head, and reads as it is
pub record IsPlainField (field : Field) : Type 0 where
  pub name : IsToken field.name
  pub value : IsFieldValue field.value

-- its line
abbrev line_of : Field → Grammar.Field
line_of field = record { name = field.name; raw = 32 ∷ field.value; end = crlf }

abbrev lines_of : List Field → List Grammar.Field
lines_of [] = []
lines_of (field ∷ fields) = line_of field ∷ lines_of fields

field_line : (f : Field) → field_text f ≡ print_field (line_of f)
field_line f = ap (λ (l : List ℕ). l ++ codes "\r\n") (append_assoc f.name (codes ": ") f.value)

field_lines : (fields : List Field) → flat_map field_text fields ≡ flat_map print_field (lines_of fields)
field_lines [] = refl
field_lines (f ∷ fields) =
    ap (λ (l : List ℕ). l ++ flat_map field_text fields) (field_line f) ∙ ap (λ (l : List ℕ). print_field (line_of f) ++ l) (field_lines fields)

lines_count : (fields : List Field) → length (lines_of fields) ≡ length fields
lines_count [] = refl
lines_count (f ∷ fields) = omega (arith, lines_count fields)

lines_are : (fields : List Field) → All IsPlainField fields → All IsField (lines_of fields)
lines_are [] all = All-nil IsField
lines_are (f ∷ fields) all =
    let plain : IsPlainField f = all 0 f (omega arith) in
    All-cons IsField (line_of f) (lines_of fields)
    (record { name = plain.name; raw = All-cons (λ b. IsTrue (is_value_byte b)) 32 f.value refl plain.value.bytes })
    (lines_are fields (λ k d h. all (suc k) d (omega (arith, h))))

lines_back : (fields : List Field) → All IsPlainField fields → fields_of (lines_of fields) ≡ fields
unfolding trim_ows
lines_back [] all = refl
lines_back (f ∷ fields) all =
    let plain : IsPlainField f = all 0 f (omega arith) in
    ap (λ (v : List ℕ). record { name = f.name; value = v } ∷ fields_of (lines_of fields)) plain.value.ends
    ∙ ap (λ (l : List Field). f ∷ l) (lines_back fields (λ k d h. all (suc k) d (omega (arith, h))))

-- ---- requests

-- a request whose parts can stand in a head, and whose fields tell of its body and of the connection's end
pub record IsPlainRequest (request : Request) : Type 0 where
  pub method : IsToken request.method
  pub some : 0 < length request.target
  pub target : All IsVisible request.target
  pub fields : All IsPlainField request.fields
  pub few : length request.fields ≤ 64
  pub sized : body_length (Some 67108864) request.fields ≡ length_within (Some 67108864) (Some (length request.body))
  pub close : closes 1 request.fields ≡ request.close

visible_uri : (b : ℕ) → IsVisible b → is_uri_byte b ≡ true
visible_uri b is = grind (arith, nat_tests, is.0, is.1)

visible_ascii : (b : ℕ) → IsVisible b → b < 128
visible_ascii b is = omega (arith, is.1)

regroup : (a b c d e f : List ℕ) → a ++ b ++ c ++ d ++ e ++ f ≡ a ++ (b ++ (c ++ (d ++ ((e ++ f) ++ []))))
regroup a b c d e f = simp (append_assoc, append-nil)

module _ (r : Request) (is : IsPlainRequest r) (rest : List ℕ) where
  abbrev h : RequestHead
  h = head_of r.method r.target (lines_of r.fields)

  abbrev front : List ℕ
  front = print_request h

  valid : IsRequestHead h
  valid = record {
    method = is.method;
    target = (is.some, All-weaker IsVisible (λ b. IsTrue (is_uri_byte b)) visible_uri r.target is.target);
    target_text = IsUtf8-from_ascii r.target (IsAscii-from_all r.target (All-weaker IsVisible (λ b. b < 128) visible_ascii r.target is.target));
    minor = omega arith;
    fields = lines_are r.fields is.fields;
  }

  -- the text before the body is the printed head
  head_is : head_text r ≡ front
  head_is =
      ap (λ (l : List ℕ). r.method ++ codes " " ++ r.target ++ codes " HTTP/1.1\r\n" ++ l ++ codes "\r\n") (field_lines r.fields)
      ∙ regroup r.method (codes " ") r.target (codes " HTTP/1.1\r\n") (flat_map print_field (lines_of r.fields)) (codes "\r\n")
      ∙ sym (print_request-append h []) ∙ append-nil front

  -- a head of at most 16,384 bytes is found
  opens : length front ≤ 16384 → opening (front ++ (r.body ++ rest)) ≡ headed front (r.body ++ rest)
  opens short =
      opening_headed 0 front (r.body ++ rest) (length front) (omega (arith, short)) (request_end r.method r.target (lines_of r.fields) valid)
      (λ _. no_pair r.method r.target (lines_of r.fields) valid)
      ∙ ap (λ (l : List ℕ). headed l (drop (length front) front ++ (r.body ++ rest))) (take_all (length front) front (omega arith))
      ∙ ap (λ (l : List ℕ). headed front (l ++ (r.body ++ rest))) (drop_all (length front) front (omega arith))

  -- in a longer one no head ends within the limit
  passes : 16384 < length front → opening (front ++ (r.body ++ rest)) ≡ too_long
  passes long =
      let end = request_end r.method r.target (lines_of r.fields) valid in
      opening_too_long 0 16384 front (r.body ++ rest) refl (omega (arith, long)) (λ k h. end.first k (omega (arith, long, h)))
      (λ _. no_pair r.method r.target (lines_of r.fields) valid)

  made : request_of h r.body ≡ r
  made =
      ap (λ (fields : List Field). of_fields fields (closes 1 fields)) (lines_back r.fields is.fields) ∙ ap (of_fields r.fields) is.close
    where
      of_fields : List Field → Bool → Request
      of_fields fields close = record { method = r.method; target = r.target; fields = fields; body = r.body; close = close }

  -- what the body behind the head gives
  answer_is : (b : Bool) → nat_lt 67108864 (length r.body) ≡ b
      → with_body (request_of h) front (r.body ++ rest) (length_within (Some 67108864) (Some (length r.body)))
      ≡ (if b then Err (BodyTooLong (length r.body)) else Ok (r, rest))
  answer_is true long =
      let n : ℕ = length r.body in
      let above : nat_le n 67108864 ≡ false = grind (arith, nat_tests, long) in
      ap (λ (t : Bool). with_body (request_of h) front (r.body ++ rest) (if t then Ok n else Err (BodyTooLong n))) above
  answer_is false short =
      let n : ℕ = length r.body in
      let behind : List ℕ = r.body ++ rest in
      let within : nat_le n 67108864 ≡ true = grind (arith, nat_tests, short) in
      let enough : n ≤ length behind = omega (arith, length-append r.body rest) in
      ap (λ (t : Bool). with_body (request_of h) front behind (if t then Ok n else Err (BodyTooLong n))) within
      ∙ ap (λ (t : Bool). if t then Ok (request_of h (take n behind), drop n behind) else Err (Truncated (length front + length behind)))
      (le_true n (length behind) enough)
      ∙ ap (λ (l : List ℕ). Ok (request_of h (take n behind), l)) (drop_at r.body rest n refl)
      ∙ ap (λ (l : List ℕ). Ok (request_of h l, rest)) (take_at r.body rest n refl)
      ∙ ap (λ (q : Request). Ok (q, rest)) made

  abbrev body_answer : Result (Request × List ℕ) WireFault
  body_answer = if nat_lt 67108864 (length r.body) then Err (BodyTooLong (length r.body)) else Ok (r, rest)

  length_is : body_length (Some 67108864) (fields_of h.fields) ≡ length_within (Some 67108864) (Some (length r.body))
  length_is = ap (body_length (Some 67108864)) (lines_back r.fields is.fields) ∙ is.sized

  head_reads : (b : Bool) → nat_lt 16384 (length (head_text r)) ≡ b
      → ReadsRequestAt (front ++ (r.body ++ rest)) (if b then Err HeadTooLong else body_answer)
  head_reads true long =
      gives_as IsRequestHeadOf (λ (head : RequestHead). fields_of head.fields) request_of (Some 67108864) (opening (front ++ (r.body ++ rest)))
      too_long (Err HeadTooLong) (passes (grind (arith, nat_tests, long, head_is))) refl
  head_reads false short =
      gives_as IsRequestHeadOf (λ (head : RequestHead). fields_of head.fields) request_of (Some 67108864) (opening (front ++ (r.body ++ rest)))
      (headed front (r.body ++ rest)) body_answer (opens (grind (arith, nat_tests, short, head_is)))
      (inl (
        h,
        record { reads = (valid, sym (append-nil front)); few = omega (arith, is.few, lines_count r.fields) },
        sym (answer_is (nat_lt 67108864 (length r.body)) refl) ∙ ap (with_body (request_of h) front (r.body ++ rest)) (sym length_is),
      ))

  pub reads_back : ReadsRequestAt (request_text r ++ rest) (read_back r rest)
  reads_back =
      subst (λ (l : List ℕ). ReadsRequestAt l (read_back r rest))
      (ap (λ (l : List ℕ). l ++ (r.body ++ rest)) (sym head_is) ∙ sym (append_assoc (head_text r) r.body rest))
      (head_reads (nat_lt 16384 (length (head_text r))) refl)
