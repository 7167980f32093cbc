-- What httparse finds at the front of bytes.
use Rattle.std.proofs.Common.{◌≡◌, ◌≢◌, ◌≤◌, ◌+◌, ◌-◌, ℕ, zero, suc, false, true, List, [], ◌∷◌, ◌++◌, length, take, drop, get_or, map, All}
use Rattle.std.proofs.Common.{refl, sym, ap, subst, ◌∙◌, arith}
use Rattle.std.proofs.lemmas.List.{append-nil, drop-take, take-take, take_at, drop_all, length-take-le}
use Rattle.std.proofs.lemmas.Bool.Decides.{nat_tests}
use Rattle.httparse.specs.declared.spans.Span.{Span}
use Rattle.httparse.specs.declared.spans.HeaderSpan.{HeaderSpan}
use Rattle.httparse.specs.declared.spans.RequestSpans.{RequestSpans}
use Rattle.httparse.specs.Grammar.{LineEnd, crlf, lf, is_token_byte, IsToken, print_blank, RequestHead, print_request}
use Rattle.httparse.specs.Spans.{span_bytes, header_bytes, IsWithin, IsHeaderWithin, IsRequestWithin, IsRequestAt, IsRequestOf}
use Rattle.http_wire.specs.MessageHeads.{begins_pair}
use Rattle.http_wire.specs.HeadSearch.{IsHeadEnd}
use Rattle.http_wire.specs.Parsing.{IsFrontRequest}
use Rattle.http_wire.proofs.HeadLemmas.{end_in_front}
use Rattle.http_wire.proofs.LineLemmas.{IsInner, token_inner, request_end}
use Rattle.http_wire.proofs.ParsingLemmas.{request_found}

-- ---- what stands in a front stands there in all bytes

module _ (bytes : List ℕ) (n : ℕ) where
  span_front : (s : Span) → IsWithin n s → span_bytes (take n bytes) s ≡ span_bytes bytes s
  span_front s within =
      let m : ℕ = n - s.start in
      let e : s.start + m ≡ n = omega (arith, within.0, within.1) in
      ap (λ (i : ℕ). take (s.end - s.start) (drop s.start (take i bytes))) (sym e)
      ∙ ap (take (s.end - s.start)) (drop-take s.start m bytes)
      ∙ take-take (s.end - s.start) m (drop s.start bytes) (omega (arith, within.1))

  headers_front : (spans : List HeaderSpan) → All (IsHeaderWithin n) spans → map (header_bytes (take n bytes)) spans ≡ map (header_bytes bytes) spans
  headers_front [] within = refl
  headers_front (s ∷ spans) within =
      let first = within 0 s (omega arith) in
      ap (λ (l : List ℕ). (l, span_bytes (take n bytes) s.value) ∷ map (header_bytes (take n bytes)) spans) (span_front s.name first.0)
      ∙ ap (λ (l : List ℕ). (span_bytes bytes s.name, l) ∷ map (header_bytes (take n bytes)) spans) (span_front s.value first.1)
      ∙ ap (λ (l : List (List ℕ × List ℕ)). header_bytes bytes s ∷ l) (headers_front spans (λ k d h. within (suc k) d (omega (arith, h))))

-- ---- a head whose method stands first has no empty lines before it

first_of : (bytes method : List ℕ) (m : ℕ) → take m bytes ≡ method → IsToken method
    → (b : ℕ) × (rest : List ℕ) × (bytes ≡ b ∷ rest) × (is_token_byte b ≡ true)
first_of bytes method zero is token = absurd (omega (arith, ap length is, token.0))
first_of [] method (suc m) is token = absurd (omega (arith, ap length is, token.0))
first_of (b ∷ rest) method (suc m) is token = (b, rest, refl, (subst IsToken (sym is) token).1 0 0 (omega arith))

no_blank : (blank : List LineEnd) (method target version end section tail : List ℕ) (b : ℕ) (rest : List ℕ) → IsInner b
    → b ∷ rest ≡ print_blank blank ++ method ++ target ++ version ++ end ++ section ++ tail → blank ≡ []
no_blank [] method target version end section tail b rest inner is = refl
no_blank (lf ∷ blank) method target version end section tail b rest inner is = absurd (inner.0 (ap (λ (l : List ℕ). get_or l 0 0) is))
no_blank (crlf ∷ blank) method target version end section tail b rest inner is = absurd (inner.1 (ap (λ (l : List ℕ). get_or l 0 0) is))

no_pair : (b : ℕ) (rest : List ℕ) → b ≢ 13 → begins_pair (b ∷ rest) ≡ false
no_pair b [] other = refl
no_pair b (c ∷ rest) other = grind (arith, nat_tests, other)

module _ (bytes : List ℕ) (spans : List HeaderSpan) (found : RequestSpans) (within : IsRequestWithin bytes spans found)
    (of : IsRequestOf bytes spans found) where
  abbrev h : RequestHead
  h = of.0

  abbrev front : List ℕ
  front = take found.len bytes

  at : IsRequestAt bytes spans found h
  at = of.1

  fits : found.len ≤ length bytes
  fits = within.section.len_fits

  front_long : length front ≡ found.len
  front_long = length-take-le found.len bytes fits

  front_is : front ≡ print_request h
  front_is = ap (take found.len) at.reads.1 ∙ take_at (print_request h) (drop found.len bytes) found.len (sym at.len)

  none_behind : drop found.len front ≡ []
  none_behind = drop_all found.len front (omega (arith, front_long))

  front_within : IsRequestWithin front spans found
  front_within = record {
    method = within.method;
    path = within.path;
    version = within.version;
    section = record {
      len_fits = omega (arith, front_long);
      count_fits = within.section.count_fits;
      headers_fit = within.section.headers_fit;
    };
  }

  front_of : IsRequestOf front spans found
  front_of = (
    h,
    record {
      reads = (at.reads.0, front_is ∙ sym (append-nil (print_request h)) ∙ ap (λ (l : List ℕ). print_request h ++ l) (sym none_behind));
      len = at.len;
      method = span_front bytes found.len found.method within.method ∙ at.method;
      path = span_front bytes found.len found.path within.path ∙ at.path;
      version = at.version;
      fields = headers_front bytes found.len (take found.headers spans) within.section.headers_fit ∙ at.fields;
    },
  )

  -- a head that begins with a byte of a token stands at the front
  front_parts : (b : ℕ) (rest : List ℕ) → bytes ≡ b ∷ rest → is_token_byte b ≡ true → length spans ≤ 64 → IsFrontRequest bytes spans found
  unfolding print_request
  front_parts b rest is token few =
      let inner : IsInner b = token_inner b token in
      let none : h.blank ≡ [] = no_blank h.blank _ _ _ _ _ _ b rest inner (sym is ∙ at.reads.1) in
      let end : IsHeadEnd front (length front) = request_end h at.reads.0 none front front_is in
      record {
        end = (end_in_front bytes found.len found.len fits (subst (IsHeadEnd front) front_long end)).0;
        pair = ap begins_pair is ∙ no_pair b rest inner.1;
        parts = (within.section.count_fits, (request_found front spans found front_within front_of (sym front_long) few).1);
      }

  -- so does one that begins with its method
  pub front_found : found.method.start ≡ 0 → length spans ≤ 64 → IsFrontRequest bytes spans found
  front_found first few =
      let e : found.method.end - 0 ≡ found.method.end = omega arith in
      let b = first_of bytes h.method found.method.end
      (ap (λ (i : ℕ). take i bytes) (sym e) ∙ ap (λ (i : ℕ). take (found.method.end - i) (drop i bytes)) (sym first) ∙ at.method) at.reads.0.method in
      front_parts b.0 b.1 b.2 b.3 few
