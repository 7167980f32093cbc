-- What httparse finds is one whole head.
use Rattle.std.proofs.Common.{◌≡◌, ◌≤◌, ◌<◌, ℕ, Bool, true, false, List, [], ◌∷◌, length, take, drop, get_or, map, codes, Option, Some, None, Result}
use Rattle.std.proofs.Common.{Ok, Err, refl, sym, ap, subst, ◌∙◌, arith, All, true≢false, nat_le, if◌then◌else◌}
use Rattle.std.specs.Str.{is_utf8}
use Rattle.std.proofs.lemmas.List.{length-map, length-take-le, drop_all, get_or-map}
use Rattle.std.proofs.lemmas.Bool.Decides.{nat_tests}
use Rattle.std.proofs.lemmas.Str.{IsUtf8-from_ascii, is_utf8-from_IsUtf8}
use Rattle.std.proofs.lemmas.Str.Ascii.{IsAscii-from_all}
use Rattle.httparse.specs.declared.spans.HeaderSpan.{HeaderSpan}
use Rattle.httparse.specs.declared.spans.RequestSpans.{RequestSpans}
use Rattle.httparse.specs.declared.spans.ResponseSpans.{ResponseSpans}
use Rattle.httparse.specs.Grammar.{lf, is_token_byte, IsToken, Field, IsField, RequestHead, ReadsRequest, ResponseHead, ReadsResponse, status_code}
use Rattle.httparse.specs.Spans.{span_bytes, header_bytes, name_and_value, AreFieldsAt, IsWithin, IsHeaderWithin}
use Rattle.httparse.specs.Spans.{IsRequestWithin, IsRequestOf, IsResponseWithin, IsResponseOf}
use Rattle.http_wire.specs.declared.message.Field as Wire
use Rattle.http_wire.specs.declared.message.Request.{Request}
use Rattle.http_wire.specs.declared.message.Reply.{Reply}
use Rattle.http_wire.specs.declared.fault.WireFault.{WireFault}
use Rattle.http_wire.specs.declared.fault.WireFault.TheVariants.{Ended, Truncated, HeadTooLong, BadHead, Chunked, BadLength, BodyTooLong, ReadFault, NoMemory}
use Rattle.http_wire.specs.MessageFields.{values_of, closes, body_length, length_within}
use Rattle.http_wire.specs.Messages.{request_of, fields_of, first_text, reply_of}
use Rattle.http_wire.specs.Parsing.{field_of_bytes, HasTextName, IsFoundRequest, IsFoundReply, IsParse}

token_is_ascii : (b : ℕ) → is_token_byte b ≡ true → b < 128
unfolding is_token_byte
token_is_ascii b token = grind (arith, nat_tests)

-- a token is UTF-8
pub token_text : (bytes : List ℕ) → IsToken bytes → is_utf8 bytes ≡ true
token_text bytes token = is_utf8-from_IsUtf8 bytes (IsUtf8-from_ascii bytes (IsAscii-from_all bytes (λ k d h. token_is_ascii _ (token.1 k d h))))

-- the fields of a head are those at the places
pub fields_found : (bytes : List ℕ) (headers : List HeaderSpan) (fields : List Field) → map (header_bytes bytes) headers ≡ map name_and_value fields
    → map field_of_bytes (map (header_bytes bytes) headers) ≡ fields_of fields
fields_found bytes headers fields same = ap (map field_of_bytes) same ∙ map_twice fields
  where
    map_twice : (fields : List Field) → map field_of_bytes (map name_and_value fields) ≡ fields_of fields
    map_twice [] = refl
    map_twice (f ∷ fields) = ap (λ (l : List Wire.Field). field_of_bytes (name_and_value f) ∷ l) (map_twice fields)

module _ (bytes : List ℕ) where
  -- the names are UTF-8
  pub names_text : (headers : List HeaderSpan) (fields : List Field) → map (header_bytes bytes) headers ≡ map name_and_value fields
      → All IsField fields → All (HasTextName bytes) headers
  names_text headers fields same all k d h =
      let count : length headers ≡ length fields = sym (length-map headers (header_bytes bytes)) ∙ ap length same ∙ length-map fields name_and_value in
      let within : k < length fields = omega (arith, h, count) in
      let none : Field = record { name = []; raw = []; end = lf } in
      let at : header_bytes bytes (get_or headers k d) ≡ name_and_value (get_or fields k none) =
      sym (get_or-map (header_bytes bytes) headers k d ([], []) h) ∙ ap (λ (l : List (List ℕ × List ℕ)). get_or l k ([], [])) same
      ∙ get_or-map name_and_value fields k none ([], []) within in
      ap (λ (p : List ℕ × List ℕ). is_utf8 p.0) at ∙ token_text (get_or fields k none).name (all k none within).name

  -- there are no more fields than places
  fields_few : (headers : List HeaderSpan) (count : ℕ) (fields : List Field) → count ≤ length headers → length headers ≤ 64
      → AreFieldsAt bytes headers count fields → (count ≤ 64) × (length fields ≤ 64)
  fields_few headers count fields fits room at =
      let taken : length (take count headers) ≡ count = length-take-le count headers fits in (
        omega arith,
        omega (arith, length-map (take count headers) (header_bytes bytes), length-map fields name_and_value, ap length at),
      )

  -- a request's head that is all of the bytes
  pub request_found : (headers : List HeaderSpan) (found : RequestSpans) → IsRequestWithin bytes headers found → IsRequestOf bytes headers found
      → found.len ≡ length bytes → length headers ≤ 64
      → (found.headers ≤ 64) × ((h : RequestHead) × IsFoundRequest bytes (take found.headers headers) found h)
  request_found headers found within of len room =
      let at = of.1 in
      let few = fields_few headers found.headers of.0.fields within.section.count_fits room at.fields in
      let rest : drop found.len bytes ≡ [] = drop_all found.len bytes (omega (arith, len)) in (
        few.0,
        (
          of.0,
          record {
            whole = record { reads = subst (λ (l : List ℕ). ReadsRequest bytes of.0 l) rest at.reads; few = few.1 };
            method = at.method;
            method_within = subst (λ (n : ℕ). IsWithin n found.method) len within.method;
            path = at.path;
            path_within = subst (λ (n : ℕ). IsWithin n found.path) len within.path;
            version = at.version;
            fields = at.fields;
            within = subst (λ (n : ℕ). All (IsHeaderWithin n) (take found.headers headers)) len within.section.headers_fit;
            names = names_text (take found.headers headers) of.0.fields at.fields at.reads.0.fields;
            method_text = ap is_utf8 at.method ∙ token_text of.0.method at.reads.0.method;
          },
        ),
      )

  -- the same of a reply's
  pub reply_found : (headers : List HeaderSpan) (found : ResponseSpans) → IsResponseWithin bytes headers found → IsResponseOf bytes headers found
      → found.len ≡ length bytes → length headers ≤ 64
      → (found.headers ≤ 64) × ((h : ResponseHead) × IsFoundReply bytes (take found.headers headers) found h)
  reply_found headers found within of len room =
      let at = of.1 in
      let few = fields_few headers found.headers of.0.fields within.section.count_fits room at.fields in
      let rest : drop found.len bytes ≡ [] = drop_all found.len bytes (omega (arith, len)) in (
        few.0,
        (
          of.0,
          record {
            whole = record { reads = subst (λ (l : List ℕ). ReadsResponse bytes of.0 l) rest at.reads; few = few.1 };
            version = at.version;
            code = at.code;
            fields = at.fields;
            within = subst (λ (n : ℕ). All (IsHeaderWithin n) (take found.headers headers)) len within.section.headers_fit;
            names = names_text (take found.headers headers) of.0.fields at.fields at.reads.0.fields;
          },
        ),
      )

-- what fields say is a length, or one of their three faults
abbrev is_of_fields : Result ℕ WireFault → Bool
is_of_fields (Ok n) = true
is_of_fields (Err Chunked) = true
is_of_fields (Err BadLength) = true
is_of_fields (Err (BodyTooLong n)) = true
is_of_fields (Err BadHead) = false
is_of_fields (Err Ended) = false
is_of_fields (Err (Truncated n)) = false
is_of_fields (Err HeadTooLong) = false
is_of_fields (Err ReadFault) = false
is_of_fields (Err NoMemory) = false

taken_of_fields : (n : ℕ) (b : Bool) → is_of_fields (if b then Ok n else Err (BodyTooLong n)) ≡ true
taken_of_fields n true = refl
taken_of_fields n false = refl

within_of_fields : (limit stated : Option ℕ) → is_of_fields (length_within limit stated) ≡ true
within_of_fields limit None = refl
within_of_fields None (Some n) = refl
within_of_fields (Some most) (Some n) = taken_of_fields n (nat_le n most)

coded_of_fields : (limit stated : Option ℕ) (coded : Bool) → is_of_fields (if coded then Err Chunked else length_within limit stated) ≡ true
coded_of_fields limit stated true = refl
coded_of_fields limit stated false = within_of_fields limit stated

-- no other fault comes of them
other_fault : (limit : Option ℕ) (fields : List Wire.Field) (fault : WireFault) → is_of_fields (Err fault) ≡ false → Err fault ≡ body_length limit fields → ⊥
other_fault limit fields fault other is = true≢false (sym (coded_of_fields limit _ _) ∙ ap is_of_fields (sym is) ∙ other)

-- the parts make the request
pub request_made : (bytes : List ℕ) (headers : List HeaderSpan) (found : RequestSpans) (h : RequestHead) (fields : List Wire.Field)
    (method target body : List ℕ) (close : Bool)
    → IsFoundRequest bytes headers found h → fields ≡ map field_of_bytes (map (header_bytes bytes) headers) → method ≡ span_bytes bytes found.method
    → target ≡ span_bytes bytes found.path → body ≡ [] → close ≡ closes found.version fields
    → record { method = method; target = target; fields = fields; body = body; close = close } ≡ request_of h []
request_made bytes headers found h fields method target body close is fields_is method_is target_is body_is close_is =
    let all : fields ≡ fields_of h.fields = fields_is ∙ fields_found bytes headers h.fields is.fields in
    let closed : close ≡ closes h.minor (fields_of h.fields) = close_is ∙ ap (λ (n : ℕ). closes n fields) is.version ∙ ap (closes h.minor) all in
    let m = method_is ∙ is.method in
    let t = target_is ∙ is.path in
    ap (λ (x : List ℕ). make x target fields body close) m
    ∙ ap (λ (x : List ℕ). make h.method x fields body close) t
    ∙ ap (λ (x : List Wire.Field). make h.method h.target x body close) all
    ∙ ap (λ (x : List ℕ). make h.method h.target (fields_of h.fields) x close) body_is
    ∙ ap (λ (x : Bool). make h.method h.target (fields_of h.fields) [] x) closed
  where
    make : List ℕ → List ℕ → List Wire.Field → List ℕ → Bool → Request
    make m t f b c = record { method = m; target = t; fields = f; body = b; close = c }

-- the parts make the reply
pub reply_made : (h : ResponseHead) (fields : List Wire.Field) (version status : ℕ) (kind body : List ℕ) (close : Bool)
    → fields ≡ fields_of h.fields → version ≡ h.minor → status ≡ status_code h → kind ≡ first_text (values_of (codes "content-type") fields)
    → body ≡ [] → close ≡ closes version fields
    → record { status = status; content_type = kind; body = body; close = close } ≡ reply_of h []
reply_made h fields version status kind body close all version_is status_is kind_is body_is close_is =
    ap (λ (x : ℕ). make x kind body close) status_is
    ∙ ap (λ (x : List ℕ). make (status_code h) x body close)
    (kind_is ∙ ap (λ (l : List Wire.Field). first_text (values_of (codes "content-type") l)) all)
    ∙ ap (λ (x : List ℕ). make (status_code h) (first_text (values_of (codes "content-type") (fields_of h.fields))) x close) body_is
    ∙ ap (λ (x : Bool). make (status_code h) (first_text (values_of (codes "content-type") (fields_of h.fields))) [] x)
    (close_is ∙ ap (λ (n : ℕ). closes n fields) version_is ∙ ap (closes h.minor) all)
  where
    make : ℕ → List ℕ → List ℕ → Bool → Reply
    make s k b c = record { status = s; content_type = k; body = b; close = c }

module _ {Head Message : Type 0} (IsHeadOf : List ℕ → Head → Type 0) (fields : Head → List Wire.Field) (message : Head → List ℕ → Message)
    (limit : Option ℕ) (bytes : List ℕ) where
  pub parse_bad : ((head : Head) → ¬ (IsHeadOf bytes head)) → IsParse IsHeadOf fields message limit bytes (Err BadHead)
  unfolding IsParse
  parse_bad none = none

  pub parse_no_memory : IsParse IsHeadOf fields message limit bytes (Err NoMemory)
  unfolding IsParse
  parse_no_memory = tt

  pub parse_ok : (head : Head) (value : Message) (size : ℕ) → IsHeadOf bytes head → value ≡ message head [] → Ok size ≡ body_length limit (fields head)
      → IsParse IsHeadOf fields message limit bytes (Ok (value, size))
  unfolding IsParse
  parse_ok head value size whole is long = (head, whole, is, sym long)

  -- the length's fault is one of those that fields show
  pub parse_fault : (head : Head) (fault : WireFault) → IsHeadOf bytes head → Err fault ≡ body_length limit (fields head)
      → IsParse IsHeadOf fields message limit bytes (Err fault)
  unfolding IsParse
  parse_fault head Ended whole is = absurd (other_fault limit (fields head) Ended refl is)
  parse_fault head (Truncated n) whole is = absurd (other_fault limit (fields head) (Truncated n) refl is)
  parse_fault head HeadTooLong whole is = absurd (other_fault limit (fields head) HeadTooLong refl is)
  parse_fault head BadHead whole is = absurd (other_fault limit (fields head) BadHead refl is)
  parse_fault head Chunked whole is = (head, whole, sym is)
  parse_fault head BadLength whole is = (head, whole, sym is)
  parse_fault head (BodyTooLong n) whole is = (head, whole, sym is)
  parse_fault head ReadFault whole is = absurd (other_fault limit (fields head) ReadFault refl is)
  parse_fault head NoMemory whole is = tt
