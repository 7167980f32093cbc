-- What was written of a reply is one whole reply.
use Rattle.std.proofs.Common.{◌≡◌, ◌≤◌, ◌<◌, ◌+◌, ◌^◌, ◌==◌, ℕ, suc, Bool, true, false, not, List, [], ◌∷◌, ◌++◌, length}
use Rattle.std.proofs.Common.{take, drop, reverse, All, codes, Option, Some, None, Ok, Err, Result, IsTrue, refl, sym, ap, subst, inl, inr}
use Rattle.std.proofs.Common.{◌∙◌, arith, append_assoc, if◌then◌else◌}
use Rattle.std.specs.Char.{is_ascii_digit}
use Rattle.std.specs.Fmt.{decimal}
use Rattle.std.specs.List.{list_all}
use Rattle.std.specs.Str.{is_utf8}
use Rattle.std.specs.Str.Parse.{digits_value}
use Rattle.std.proofs.lemmas.Bool.{cases_Bool, cases_lt}
use Rattle.std.proofs.lemmas.Bool.Decides.{nat_tests}
use Rattle.std.proofs.lemmas.Fmt.{digits_decimal, digits_value-decimal, length-decimal-le, decimal_nonempty}
use Rattle.std.proofs.lemmas.List.{append-nil, reverse-reverse, reverse-append, length-append, take_all, take_at, drop_at, drop_all}
use Rattle.std.proofs.lemmas.List.Elements.{All-append, All-cons, All-nil}
use Rattle.std.proofs.lemmas.Str.{IsUtf8-from_ascii, is_utf8-from_IsUtf8}
use Rattle.std.proofs.lemmas.Str.Ascii.{IsAscii-from_all}
use Rattle.std.proofs.lemmas.Str.Parse.{digits_value_short}
use Rattle.httparse.specs.Grammar.{crlf, is_ows, skip_ows, trim_ows, is_value_byte, is_token_byte, Field, IsField, print_section}
use Rattle.httparse.specs.Grammar.{ResponseHead, IsResponseHead, print_response, status_code}
use Rattle.httparse.proofs.GrammarLemmas.{print_response-append}
use Rattle.http_wire.specs.declared.message.Reply.{Reply}
use Rattle.http_wire.specs.declared.fault.WireFault.{WireFault}
use Rattle.http_wire.specs.declared.fault.WireFault.TheVariants.{Ended, Truncated, HeadTooLong, BadHead, Chunked, BadLength, BodyTooLong, ReadFault, NoMemory}
use Rattle.http_wire.specs.MessageFields.{is_length, stated_number, values_of, closes, length_within, body_length}
use Rattle.http_wire.specs.MessageHeads.{begins_pair, headed, opening}
use Rattle.http_wire.specs.Messages.{IsReplyHeadOf, fields_of, first_text, reply_of, with_body, ReadsReplyAt, IsReplyAnswer}
use Rattle.http_wire.proofs.LongerBytes.{IsReplyAnswerOfAll, reply_of_all}
use Rattle.http_wire.specs.ReadBack.{IsReadable, IsReadBack, as_read}
use Rattle.http_wire.specs.ReplyText.{phrases, text_beside, phrase, is_visible, is_sendable, sent_type, reply_text, no_memory_reply}
use Rattle.http_wire.proofs.AnswerLemmas.{le_true, gives_as}
use Rattle.http_wire.proofs.FieldLemmas.{own}
use Rattle.http_wire.proofs.HeadLemmas.{opening_headed}
use Rattle.http_wire.proofs.LineLemmas.{and_parts, all_from_test, reply_end}
use Rattle.http_wire.proofs.ReplyLemmas.{decimal_507, decimal_27, pile, no_content, whole_joined, whole_is}
use Rattle.http_wire.proofs.UniqueLemmas.{one_reply}

-- ---- blanks around bytes

skip_of_visible : (P : ℕ → Type 0) (bs : List ℕ) → All P bs → All P (skip_ows bs)
skip_of_visible P [] all = all
skip_of_visible P (b ∷ bs) all =
    elim (cases_Bool (is_ows b)) [
      | inl blank ↦ subst (λ (t : Bool). All P (if t then skip_ows bs else b ∷ bs)) (sym blank)
          (skip_of_visible P bs (λ k d h. all (suc k) d (omega (arith, h))))
      | inr other ↦ subst (λ (t : Bool). All P (if t then skip_ows bs else b ∷ bs)) (sym other) all
    ]

all_reverse : (P : ℕ → Type 0) (bs : List ℕ) → All P bs → All P (reverse bs)
all_reverse P [] all = all
all_reverse P (b ∷ bs) all =
    subst (All P) (sym (reverse-append (b ∷ []) bs))
    (All-append P (reverse bs) (b ∷ []) (all_reverse P bs (λ k d h. all (suc k) d (omega (arith, h)))) (All-cons P b [] (all 0 0 (omega arith)) (All-nil P)))

-- what holds of all bytes holds of those without the blanks around them
all_trimmed : (P : ℕ → Type 0) (bs : List ℕ) → All P bs → All P (trim_ows bs)
unfolding trim_ows
all_trimmed P bs all =
    all_reverse P (skip_ows (reverse (skip_ows bs))) (skip_of_visible P (reverse (skip_ows bs)) (all_reverse P (skip_ows bs) (skip_of_visible P bs all)))

-- a blank in front is dropped
trim_blank : (bs : List ℕ) → trim_ows (32 ∷ bs) ≡ trim_ows bs
unfolding trim_ows
trim_blank bs = refl

skip_digits : (ds : List ℕ) → All (λ b. is_ascii_digit b ≡ true) ds → skip_ows ds ≡ ds
skip_digits [] all = refl
skip_digits (d ∷ ds) all =
    let digit : is_ascii_digit d ≡ true = all 0 0 (omega arith) in
    let other : is_ows d ≡ false = grind (arith, nat_tests) in
    rw other refl

-- digits have none
trim_digits : (ds : List ℕ) → All (λ b. is_ascii_digit b ≡ true) ds → trim_ows ds ≡ ds
unfolding trim_ows
trim_digits ds all =
    ap (λ (l : List ℕ). reverse (skip_ows (reverse l))) (skip_digits ds all)
    ∙ ap reverse (skip_digits (reverse ds) (all_reverse (λ b. is_ascii_digit b ≡ true) ds all)) ∙ reverse-reverse ds

-- ---- numbers

number_digits : (n : ℕ) → n < 10 ^ 19 → list_all is_ascii_digit (decimal n) ≡ true
number_digits n h = digits_decimal own n (omega (arith, h))

each_digit : (n : ℕ) → n < 10 ^ 19 → All (λ b. is_ascii_digit b ≡ true) (decimal n)
each_digit n h = all_from_test is_ascii_digit (λ b. is_ascii_digit b ≡ true) (λ b is. is) (decimal n) (number_digits n h)

-- a number of at most 19 digits is a length, and states itself
number_stated : (n : ℕ) → n < 10 ^ 19 → stated_number (trim_ows (32 ∷ decimal n)) ≡ Some n
number_stated n h =
    let same : trim_ows (32 ∷ decimal n) ≡ decimal n = trim_blank (decimal n) ∙ trim_digits (decimal n) (each_digit n h) in
    let below : n < 2 ^ 64 = omega (arith, h) in
    let some : 0 < length (decimal n) = decimal_nonempty n below in
    let few : length (decimal n) ≤ 19 = length-decimal-le 19 n (omega arith) h below in
    let digits : list_all is_ascii_digit (decimal n) ≡ true = number_digits n h in
    let is : is_length (decimal n) ≡ true = grind (arith, nat_tests) in
    ap stated_number same ∙ ap (λ (t : Bool). if t then Some (digits_value 10 (decimal n)) else None) is ∙ ap Some (digits_value-decimal own n below)

-- a status has three digits
three_digits : (n : ℕ) → 100 ≤ n → n ≤ 999 → length (decimal n) ≡ 3
three_digits n least most =
    let below : n < 2 ^ 64 = omega (arith, most) in
    let few : length (decimal n) ≤ 3 = length-decimal-le 3 n (omega arith) (omega (arith, most)) below in
    elim (cases_lt 2 (length (decimal n))) [
      | inl more ↦ omega (arith, few, more)
      | inr le ↦ absurd (omega (
        arith,
        least,
        digits_value-decimal own n below,
        digits_value_short own (decimal n) 2
            (number_digits n (omega (arith, most))) le,
      ))
    ]

-- ---- texts

visible_ascii : (b : ℕ) → is_visible b ≡ true → b < 128
visible_ascii b is = grind (arith, nat_tests)

digit_value_byte : (b : ℕ) → is_ascii_digit b ≡ true → is_value_byte b ≡ true
digit_value_byte b is = grind (arith, nat_tests)

visible_value : (b : ℕ) → is_visible b ≡ true → is_value_byte b ≡ true
visible_value b is = grind (arith, nat_tests)

-- what is sent as a content type is visible
sent_visible : (text : List ℕ) → list_all is_visible (sent_type text) ≡ true
sent_visible text =
    elim (cases_Bool (is_sendable text)) [
      | inl is ↦ subst (λ (t : Bool). list_all is_visible (if t then text else codes "application/octet-stream") ≡ true) (sym is)
          (and_parts (not (length text == 0)) (list_all is_visible text) is).1
      | inr other ↦ subst (λ (t : Bool). list_all is_visible (if t then text else codes "application/octet-stream") ≡ true) (sym other) refl
    ]

-- a table of texts without line ends gives one
beside_value : (rows : List (ℕ × List ℕ)) (n : ℕ) → list_all (λ (row : ℕ × List ℕ). list_all is_value_byte row.1) rows ≡ true
    → list_all is_value_byte (text_beside rows n) ≡ true
beside_value [] n all = refl
beside_value (row ∷ rows) n all =
    let parts = and_parts (list_all is_value_byte row.1) (list_all (λ (r : ℕ × List ℕ). list_all is_value_byte r.1) rows) all in
    either (n == row.0) row.1 (text_beside rows n) parts.0 (beside_value rows n parts.1)
  where
    either : (b : Bool) (x y : List ℕ) → list_all is_value_byte x ≡ true → list_all is_value_byte y ≡ true
        → list_all is_value_byte (if b then x else y) ≡ true
    either true x y h k = h
    either false x y h k = k

phrase_value : (n : ℕ) → list_all is_value_byte (phrase n) ≡ true
phrase_value n = beside_value phrases n refl

-- ---- heads

abbrev kind_field : List ℕ → Field
kind_field kind = record { name = codes "Content-Type"; raw = 32 ∷ kind; end = crlf }

abbrev size_field : List ℕ → Field
size_field size = record { name = codes "Content-Length"; raw = 32 ∷ size; end = crlf }

abbrev close_fields : Bool → List Field
close_fields true = record { name = codes "Connection"; raw = codes " close"; end = crlf } ∷ []
close_fields false = []

-- the head of a reply of these fields
abbrev head_of : List ℕ → List ℕ → List Field → ResponseHead
head_of digits reason fields =
    record { blank = []; minor = 1; digits = digits; reason = Some reason; line_end = crlf; fields = fields; last = crlf }

-- the parts, and the rest behind them
abbrev piled : List (List ℕ) → List ℕ → List ℕ
piled [] rest = rest
piled (part ∷ parts) rest = part ++ piled parts rest

pile_rest : (parts : List (List ℕ)) (rest : List ℕ) → pile parts ++ rest ≡ piled parts rest
pile_rest [] rest = refl
pile_rest (part ∷ parts) rest = append_assoc part (pile parts) rest ∙ ap (λ (l : List ℕ). part ++ l) (pile_rest parts rest)

-- a 204
bare_printed : (close : Bool) (rest : List ℕ)
    → piled (codes "HTTP/1.1 204 No Content\r\n" ∷ (if close then codes "Connection: close\r\n" else []) ∷ codes "\r\n" ∷ []) rest
    ≡ print_response (head_of (codes "204") (codes "No Content") (close_fields close)) ++ rest
unfolding print_response
bare_printed true rest = refl
bare_printed false rest = refl

regroup : (a kind end b size last rest : List ℕ)
    → (((a ++ (kind ++ end)) ++ ((b ++ (size ++ end)) ++ last)) ++ end) ++ rest
    ≡ a ++ (kind ++ (end ++ (b ++ (size ++ (end ++ (last ++ (end ++ rest)))))))
regroup a kind end b size last rest = simp append_assoc

-- the fields of any other
section_printed : (close : Bool) (kind size rest : List ℕ)
    → print_section (kind_field kind ∷ size_field size ∷ close_fields close) crlf ++ rest
    ≡ piled (codes "Content-Type: " ∷ kind ∷ codes "\r\nContent-Length: " ∷ size ∷ codes "\r\n"
    ∷ (if close then codes "Connection: close\r\n" else []) ∷ codes "\r\n" ∷ []) rest
section_printed true kind size rest =
    regroup (codes "Content-Type: ") kind (codes "\r\n") (codes "Content-Length: ") size (codes "Connection: close\r\n") rest
section_printed false kind size rest = regroup (codes "Content-Type: ") kind (codes "\r\n") (codes "Content-Length: ") size [] rest

whole_printed : (close : Bool) (digits reason kind size body rest : List ℕ)
    → piled (codes "HTTP/1.1 " ∷ digits ∷ codes " " ∷ reason ∷ codes "\r\nContent-Type: " ∷ kind ∷ codes "\r\nContent-Length: " ∷ size ∷ codes "\r\n"
    ∷ (if close then codes "Connection: close\r\n" else []) ∷ codes "\r\n" ∷ body ∷ []) rest
    ≡ print_response (head_of digits reason (kind_field kind ∷ size_field size ∷ close_fields close)) ++ (body ++ rest)
whole_printed close digits reason kind size body rest =
    sym (print_response-append (head_of digits reason (kind_field kind ∷ size_field size ∷ close_fields close)) (body ++ rest)
    ∙ ap (λ (l : List ℕ). codes "HTTP/1.1 " ++ (digits ++ (codes " " ++ (reason ++ (codes "\r\n" ++ l)))))
    (section_printed close kind size (body ++ rest)))

token_text : (text : List ℕ) → list_all is_token_byte text ≡ true → All (λ b. IsTrue (is_token_byte b)) text
token_text text is = all_from_test is_token_byte (λ b. IsTrue (is_token_byte b)) (λ b holds. holds) text is

value_text : (text : List ℕ) → list_all is_value_byte text ≡ true → All (λ b. IsTrue (is_value_byte b)) text
value_text text is = all_from_test is_value_byte (λ b. IsTrue (is_value_byte b)) (λ b holds. holds) text is

kind_is_field : (kind : List ℕ) → list_all is_visible kind ≡ true → IsField (kind_field kind)
unfolding is_token_byte
kind_is_field kind visible = record {
  name = (omega arith, token_text (codes "Content-Type") refl);
  raw = All-cons (λ b. IsTrue (is_value_byte b)) 32 kind refl
      (all_from_test is_visible (λ b. IsTrue (is_value_byte b)) visible_value kind visible);
}

size_is_field : (n : ℕ) → n < 10 ^ 19 → IsField (size_field (decimal n))
unfolding is_token_byte
size_is_field n h = record {
  name = (omega arith, token_text (codes "Content-Length") refl);
  raw = All-cons (λ b. IsTrue (is_value_byte b)) 32 (decimal n) refl
      (all_from_test is_ascii_digit (λ b. IsTrue (is_value_byte b)) digit_value_byte (decimal n) (number_digits n h));
}

close_are_fields : (close : Bool) → All IsField (close_fields close)
unfolding is_token_byte
close_are_fields true =
    All-cons IsField (record { name = codes "Connection"; raw = codes " close"; end = crlf }) []
    (record { name = (omega arith, token_text (codes "Connection") refl); raw = value_text (codes " close") refl }) (All-nil IsField)
close_are_fields false = All-nil IsField

close_few : (close : Bool) → length (close_fields close) ≤ 1
close_few true = omega arith
close_few false = omega arith

-- ---- what the heads say

-- the fields of a reply with a body
abbrev whole_fields : Bool → List ℕ → ℕ → List Field
whole_fields close kind n = kind_field kind ∷ size_field (decimal n) ∷ close_fields close

whole_length : (close : Bool) (kind : List ℕ) (n : ℕ) → n < 10 ^ 19 → body_length None (fields_of (whole_fields close kind n)) ≡ Ok n
whole_length true kind n h = ap (length_within None) (number_stated n h)
whole_length false kind n h = ap (length_within None) (number_stated n h)

utf8_visible : (text : List ℕ) → list_all is_visible text ≡ true → is_utf8 (trim_ows text) ≡ true
utf8_visible text visible =
    is_utf8-from_IsUtf8 (trim_ows text) (IsUtf8-from_ascii (trim_ows text) (IsAscii-from_all (trim_ows text)
    (all_trimmed (λ b. b < 128) text (all_from_test is_visible (λ b. b < 128) visible_ascii text visible))))

text_taken : (text : List ℕ) → is_utf8 text ≡ true → (if is_utf8 text then text else []) ≡ text
text_taken text is = ap (λ (t : Bool). if t then text else []) is

whole_kind : (close : Bool) (kind : List ℕ) (n : ℕ) → list_all is_visible kind ≡ true
    → first_text (values_of (codes "content-type") (fields_of (whole_fields close kind n))) ≡ trim_ows kind
whole_kind true kind n visible = ap (λ (l : List ℕ). if is_utf8 l then l else []) (trim_blank kind) ∙ text_taken (trim_ows kind) (utf8_visible kind visible)
whole_kind false kind n visible = ap (λ (l : List ℕ). if is_utf8 l then l else []) (trim_blank kind) ∙ text_taken (trim_ows kind) (utf8_visible kind visible)

whole_close : (close : Bool) (kind : List ℕ) (n : ℕ) → closes 1 (fields_of (whole_fields close kind n)) ≡ close
unfolding trim_ows
whole_close true kind n = refl
whole_close false kind n = refl

bare_length : (close : Bool) → body_length None (fields_of (close_fields close)) ≡ Ok 0
bare_length true = refl
bare_length false = refl

bare_kind : (close : Bool) → first_text (values_of (codes "content-type") (fields_of (close_fields close))) ≡ []
bare_kind true = refl
bare_kind false = refl

bare_close : (close : Bool) → closes 1 (fields_of (close_fields close)) ≡ close
unfolding trim_ows
bare_close true = refl
bare_close false = refl

bare_short : (close : Bool) → length (print_response (head_of (codes "204") (codes "No Content") (close_fields close))) ≤ 16384
unfolding print_response
bare_short true = omega arith
bare_short false = omega arith

-- ---- reading back

no_pair : (digits reason : List ℕ) (fields : List Field) → begins_pair (print_response (head_of digits reason fields)) ≡ false
unfolding print_response
no_pair digits reason fields = refl

-- a head, a body of the length that it states and a rest are read so
module _ (digits reason : List ℕ) (fields : List Field) (valid : IsResponseHead (head_of digits reason fields)) (few : length fields ≤ 64)
    (short : length (print_response (head_of digits reason fields)) ≤ 16384) (body rest : List ℕ)
    (stated : body_length None (fields_of fields) ≡ Ok (length body)) where
  abbrev pub front : List ℕ
  front = print_response (head_of digits reason fields)

  opens : opening (front ++ (body ++ rest)) ≡ headed front (body ++ rest)
  opens =
      opening_headed 0 front (body ++ rest) (length front) (omega (arith, short)) (reply_end 1 digits (Some reason) crlf fields crlf valid front refl)
      (λ _. no_pair digits reason fields)
      ∙ ap (λ (l : List ℕ). headed l (drop (length front) front ++ (body ++ rest))) (take_all (length front) front (omega arith))
      ∙ ap (λ (l : List ℕ). headed front (l ++ (body ++ rest))) (drop_all (length front) front (omega arith))

  pub gives_back : ReadsReplyAt (front ++ (body ++ rest)) (Ok (reply_of (head_of digits reason fields) body, rest))
  gives_back =
      let message : List ℕ → Reply = reply_of (head_of digits reason fields) in
      let n : ℕ = length body in
      let behind : List ℕ = body ++ rest in
      let enough : n ≤ length behind = omega (arith, length-append body rest) in
      gives_as IsReplyHeadOf (λ (head : ResponseHead). fields_of head.fields) reply_of None (opening (front ++ behind)) (headed front behind)
      (Ok (message body, rest)) opens
      (inl (
        head_of digits reason fields,
        record { reads = (valid, sym (append-nil front)); few = few },
        ap (λ (l : List ℕ). Ok (message l, rest)) (sym (take_at body rest n refl))
            ∙ ap (λ (l : List ℕ). Ok (message (take n behind), l)) (sym (drop_at body rest n refl))
            ∙ ap (λ (t : Bool). if t then Ok (message (take n behind), drop n behind) else Err (Truncated (length front + length behind)))
            (sym (le_true n (length behind) enough))
            ∙ ap (with_body message front behind) (sym stated),
      ))

made : (h : ResponseHead) (reply : Reply) (body : List ℕ) → status_code h ≡ reply.status
    → first_text (values_of (codes "content-type") (fields_of h.fields)) ≡ reply.content_type → body ≡ reply.body
    → closes h.minor (fields_of h.fields) ≡ reply.close → reply_of h body ≡ reply
made h reply body status kind same close =
    ap (λ (x : ℕ). make x (first_text (values_of (codes "content-type") (fields_of h.fields))) body (closes h.minor (fields_of h.fields))) status
    ∙ ap (λ (x : List ℕ). make reply.status x body (closes h.minor (fields_of h.fields))) kind
    ∙ ap (λ (x : List ℕ). make reply.status reply.content_type x (closes h.minor (fields_of h.fields))) same
    ∙ ap (λ (x : Bool). make reply.status reply.content_type reply.body x) close
  where
    make : ℕ → List ℕ → List ℕ → Bool → Reply
    make s k b c = record { status = s; content_type = k; body = b; close = c }

-- a 204
bare_back : (reply : Reply) (rest : List ℕ) → reply.status ≡ 204 → ReadsReplyAt (reply_text reply ++ rest) (Ok (as_read reply, rest))
bare_back reply rest is =
    let closing : List ℕ = if reply.close then codes "Connection: close\r\n" else [] in
    let h : ResponseHead = head_of (codes "204") (codes "No Content") (close_fields reply.close) in
    let valid : IsResponseHead h = record {
      minor = omega arith;
      digits = (refl, all_from_test is_ascii_digit (λ b. IsTrue (is_ascii_digit b)) (λ b holds. holds) (codes "204") refl);
      reason = value_text (codes "No Content") refl;
      fields = close_are_fields reply.close;
    } in
    let text : reply_text reply ++ rest ≡ print_response h ++ rest =
    ap (λ (l : List ℕ). l ++ rest) (sym (no_content reply closing is refl))
    ∙ pile_rest (codes "HTTP/1.1 204 No Content\r\n" ∷ closing ∷ codes "\r\n" ∷ []) rest ∙ bare_printed reply.close rest in
    let bare : (reply.status == 204) ≡ true = grind (arith, nat_tests) in
    let value : reply_of h [] ≡ as_read reply =
    made h (as_read reply) [] (sym is)
    (bare_kind reply.close ∙ sym (ap (λ (t : Bool). if t then [] else trim_ows (sent_type reply.content_type)) bare))
    (sym (ap (λ (t : Bool). if t then [] else reply.body) bare)) (bare_close reply.close) in
    subst (λ (l : List ℕ). ReadsReplyAt l (Ok (as_read reply, rest))) (sym text)
    (subst (λ (r : Reply). ReadsReplyAt (print_response h ++ rest) (Ok (r, rest))) value
    (gives_back (codes "204") (codes "No Content") (close_fields reply.close) valid (omega (arith, close_few reply.close)) (bare_short reply.close) [] rest
    (bare_length reply.close)))

-- any other
whole_back : (reply : Reply) (rest : List ℕ) → (reply.status == 204) ≡ false → IsReadable reply
    → ReadsReplyAt (reply_text reply ++ rest) (Ok (as_read reply, rest))
whole_back reply rest other readable =
    let n : ℕ = length reply.body in
    let digits : List ℕ = decimal reply.status in
    let reason : List ℕ = phrase reply.status in
    let kind : List ℕ = sent_type reply.content_type in
    let closing : List ℕ = if reply.close then codes "Connection: close\r\n" else [] in
    let fields : List Field = whole_fields reply.close kind n in
    let h : ResponseHead = head_of digits reason fields in
    let low : reply.status < 10 ^ 19 = omega (arith, readable.most) in
    let valid : IsResponseHead h = record {
      minor = omega arith;
      digits = (three_digits reply.status readable.least readable.most, each_digit reply.status low);
      reason = value_text reason (phrase_value reply.status);
      fields = All-cons IsField (kind_field kind) (size_field (decimal n) ∷ close_fields reply.close) (kind_is_field kind (sent_visible reply.content_type))
          (All-cons IsField (size_field (decimal n)) (close_fields reply.close) (size_is_field n readable.body) (close_are_fields reply.close));
    } in
    let parts : List (List ℕ) = codes "HTTP/1.1 " ∷ digits ∷ codes " " ∷ reason ∷ codes "\r\nContent-Type: " ∷ kind ∷ codes "\r\nContent-Length: "
    ∷ decimal n ∷ codes "\r\n" ∷ closing ∷ codes "\r\n" ∷ reply.body ∷ [] in
    let same : reply_text reply ≡ pile parts = sym (whole_joined digits reason kind (decimal n) closing reply.body ∙ whole_is reply other) in
    let text : (more : List ℕ) → reply_text reply ++ more ≡ print_response h ++ (reply.body ++ more) = λ more.
    ap (λ (l : List ℕ). l ++ more) same ∙ pile_rest parts more ∙ whole_printed reply.close digits reason kind (decimal n) reply.body more in
    let short : length (print_response h) ≤ 16384 =
    omega (
      arith,
      readable.head,
      ap length (text []),
      length-append (reply_text reply) [],
      length-append (print_response h) (reply.body ++ []),
      length-append reply.body [],
    ) in
    let value : reply_of h reply.body ≡ as_read reply =
    made h (as_read reply) reply.body (digits_value-decimal own reply.status (omega (arith, readable.most)))
    (whole_kind reply.close kind n (sent_visible reply.content_type)
    ∙ sym (ap (λ (t : Bool). if t then [] else trim_ows kind) other))
    (sym (ap (λ (t : Bool). if t then [] else reply.body) other)) (whole_close reply.close kind n) in
    subst (λ (l : List ℕ). ReadsReplyAt l (Ok (as_read reply, rest))) (sym (text rest))
    (subst (λ (r : Reply). ReadsReplyAt (print_response h ++ (reply.body ++ rest)) (Ok (r, rest))) value
    (gives_back digits reason fields valid (omega (arith, close_few reply.close)) short reply.body rest
    (whole_length reply.close kind n readable.body)))

pub read_back : (reply : Reply) (rest : List ℕ) → IsReadable reply → ReadsReplyAt (reply_text reply ++ rest) (Ok (as_read reply, rest))
read_back reply rest readable =
    elim (cases_Bool (reply.status == 204)) [
      | inl is ↦ bare_back reply rest (grind (arith, nat_tests))
      | inr other ↦ whole_back reply rest other readable
    ]

one_value : (a b : Reply × List ℕ) (x y : Result (Reply × List ℕ) WireFault) → x ≡ Ok a → y ≡ Ok b → x ≡ y → (a.0 ≡ b.0) × (a.1 ≡ b.1)
one_value a b x y is other same = (cc, cc)

no_value : (a : Reply × List ℕ) (fault : WireFault) (x y : Result (Reply × List ℕ) WireFault) → x ≡ Ok a → y ≡ Err fault → x ≡ y → ⊥
no_value a fault x y is other same = cc

-- so a call answers that reads it
module _ (reply : Reply) (rest : List ℕ) (readable : IsReadable reply) where
  no_fault : (fault : WireFault) → ReadsReplyAt (reply_text reply ++ rest) (Err fault) → ⊥
  no_fault fault reads =
      no_value (as_read reply, rest) fault _ _ refl refl
      (one_reply (reply_text reply ++ rest) (Ok (as_read reply, rest)) (Err fault) (read_back reply rest readable) reads)

  answer_back : (result : Result Reply WireFault) (held : List ℕ) (left : Option (List ℕ))
      → IsReplyAnswerOfAll (reply_text reply ++ rest) result held left → IsReadBack reply rest result held left
  answer_back (Ok read) held left answer =
      let same = one_value (read, held ++ answer.0) (as_read reply, rest) _ _ refl refl
      (one_reply (reply_text reply ++ rest) (Ok (read, held ++ answer.0)) (Ok (as_read reply, rest)) answer.2 (read_back reply rest readable)) in
      (same.0, (answer.0, answer.1, same.1))
  answer_back (Err ReadFault) held left answer = tt
  answer_back (Err NoMemory) held left answer = tt
  answer_back (Err Ended) held left answer = no_fault Ended answer
  answer_back (Err (Truncated n)) held left answer = no_fault (Truncated n) answer
  answer_back (Err HeadTooLong) held left answer = no_fault HeadTooLong answer
  answer_back (Err BadHead) held left answer = no_fault BadHead answer
  answer_back (Err Chunked) held left answer = no_fault Chunked answer
  answer_back (Err BadLength) held left answer = no_fault BadLength answer
  answer_back (Err (BodyTooLong n)) held left answer = no_fault (BodyTooLong n) answer

  pub call_back : (before had : List ℕ) → before ++ had ≡ reply_text reply ++ rest → (result : Result Reply WireFault) (held : List ℕ)
      (left : Option (List ℕ)) → IsReplyAnswer before had result held left → IsReadBack reply rest result held left
  call_back before had all result held left answer =
      answer_back result held left (reply_of_all before had (reply_text reply ++ rest) all result held left answer)

no_memory_length : (close : Bool) → length (reply_text (no_memory_reply close)) ≤ 16384
no_memory_length true = rw (decimal_507, decimal_27) (omega arith)
no_memory_length false = rw (decimal_507, decimal_27) (omega arith)

no_memory_kind : trim_ows (codes "application/json") ≡ codes "application/json"
unfolding trim_ows
no_memory_kind = refl

-- the reply of want of memory
pub no_memory_back : (close : Bool) (rest : List ℕ) → ReadsReplyAt (reply_text (no_memory_reply close) ++ rest) (Ok (no_memory_reply close, rest))
no_memory_back close rest =
    let readable : IsReadable (no_memory_reply close) = record {
      least = omega arith;
      most = omega arith;
      head = omega (arith, no_memory_length close);
      body = omega arith;
    } in
    subst (λ (kind : List ℕ). ReadsReplyAt (reply_text (no_memory_reply close) ++ rest)
    (Ok (record { status = 507; content_type = kind; body = codes "{\"message\":\"out of memory\"}"; close = close }, rest)))
    no_memory_kind (read_back (no_memory_reply close) rest readable)
