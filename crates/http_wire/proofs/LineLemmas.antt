-- A head of httparse's grammar ends at its first empty line.
use Rattle.std.proofs.Common.{◌≡◌, ◌≢◌, ◌≤◌, ◌<◌, ◌+◌, ◌-◌, ◌&&◌, ℕ, zero, suc, Bool, true, false, List, [], ◌∷◌, ◌++◌, length, take, get_or, All}
use Rattle.std.proofs.Common.{codes, Option, Some, None, IsTrue, refl, sym, ap, subst, inl, inr, true≢false, ◌∙◌, arith, append_assoc}
use Rattle.std.specs.Char.{is_ascii_digit}
use Rattle.std.specs.List.{flat_map, list_all}
use Rattle.std.proofs.lemmas.List.{append-nil, length-append, take-append-le, take_all, get_or-append-add}
use Rattle.std.proofs.lemmas.List.Elements.{All-append, All-cons, All-nil}
use Rattle.std.proofs.lemmas.Bool.Decides.{nat_tests}
use Rattle.std.proofs.lemmas.Bool.{cases_lt}
use Rattle.httparse.specs.Grammar.{LineEnd, crlf, lf, print_end, Field, print_field, IsField, print_section, is_token_byte, is_value_byte}
use Rattle.httparse.specs.Grammar.{print_version, print_reason, reason_phrase, IsResponseHead, print_response, is_uri_byte, print_blank}
use Rattle.httparse.specs.Grammar.{RequestHead, IsRequestHead, print_request}
use Rattle.http_wire.specs.MessageHeads.{ends_empty}
use Rattle.http_wire.specs.HeadSearch.{HasNoEnd, IsHeadEnd}
use Rattle.http_wire.proofs.HeadLemmas.{no_end_tail}

-- the byte ends no line
abbrev pub IsInner : ℕ → Type 0
IsInner b = (b ≢ 10) × (b ≢ 13)

pub and_parts : (a b : Bool) → (a && b) ≡ true → (a ≡ true) × (b ≡ true)
and_parts true b h = (refl, h)
and_parts false b h = absurd (true≢false (sym h))

-- what a test of all bytes says of each
pub all_from_test : (p : ℕ → Bool) (P : ℕ → Type 0) → ((b : ℕ) → p b ≡ true → P b) → (xs : List ℕ) → list_all p xs ≡ true → All P xs
all_from_test p P f [] h = All-nil P
all_from_test p P f (b ∷ xs) h =
    let parts = and_parts (p b) (list_all p xs) h in
    All-cons P b xs (f b parts.0) (all_from_test p P f xs parts.1)

-- what stands behind a front
read_at : (u t : List ℕ) (i k : ℕ) → i ≡ length u + k → get_or (u ++ t) i 0 ≡ get_or t k 0
read_at u t i k e = ap (λ (j : ℕ). get_or (u ++ t) j 0) e ∙ get_or-append-add u t k 0

-- ---- the ends of lines

-- a line that isn't empty, and its end
crlf_goes_on : (u : List ℕ) (y : ℕ) → y ≢ 10 → ends_empty (u ++ y ∷ 13 ∷ 10 ∷ []) ≡ false
crlf_goes_on u y other =
    let t : List ℕ = y ∷ 13 ∷ 10 ∷ [] in
    let w : List ℕ = u ++ t in
    let len : length w ≡ length u + 3 = length-append u t in
    let last : get_or w (length w - 1) 0 ≡ 10 = read_at u t (length w - 1) 2 (omega (arith, len)) in
    let cr : get_or w (length w - 2) 0 ≡ 13 = read_at u t (length w - 2) 1 (omega (arith, len)) in
    let before_last : get_or w (length w - 1 - 1) 0 ≡ 13 = read_at u t (length w - 1 - 1) 1 (omega (arith, len)) in
    let before_cr : get_or w (length w - 2 - 1) 0 ≡ y = read_at u t (length w - 2 - 1) 0 (omega (arith, len)) in
    grind (arith, nat_tests, other)

lf_goes_on : (u : List ℕ) (y : ℕ) → y ≢ 10 → y ≢ 13 → ends_empty (u ++ y ∷ 10 ∷ []) ≡ false
lf_goes_on u y other another =
    let t : List ℕ = y ∷ 10 ∷ [] in
    let w : List ℕ = u ++ t in
    let len : length w ≡ length u + 2 = length-append u t in
    let second : get_or w (length w - 2) 0 ≡ y = read_at u t (length w - 2) 0 (omega (arith, len)) in
    let before_last : get_or w (length w - 1 - 1) 0 ≡ y = read_at u t (length w - 1 - 1) 0 (omega (arith, len)) in
    grind (arith, nat_tests, other, another)

-- an empty line
crlf_ends : (u : List ℕ) → ends_empty (u ++ 10 ∷ 13 ∷ 10 ∷ []) ≡ true
crlf_ends u =
    let t : List ℕ = 10 ∷ 13 ∷ 10 ∷ [] in
    let w : List ℕ = u ++ t in
    let len : length w ≡ length u + 3 = length-append u t in
    let last : get_or w (length w - 1) 0 ≡ 10 = read_at u t (length w - 1) 2 (omega (arith, len)) in
    let cr : get_or w (length w - 2) 0 ≡ 13 = read_at u t (length w - 2) 1 (omega (arith, len)) in
    let before_cr : get_or w (length w - 2 - 1) 0 ≡ 10 = read_at u t (length w - 2 - 1) 0 (omega (arith, len)) in
    grind (arith, nat_tests)

lf_ends : (u : List ℕ) → ends_empty (u ++ 10 ∷ 10 ∷ []) ≡ true
lf_ends u =
    let t : List ℕ = 10 ∷ 10 ∷ [] in
    let w : List ℕ = u ++ t in
    let len : length w ≡ length u + 2 = length-append u t in
    let last : get_or w (length w - 1) 0 ≡ 10 = read_at u t (length w - 1) 1 (omega (arith, len)) in
    let before_last : get_or w (length w - 1 - 1) 0 ≡ 10 = read_at u t (length w - 1 - 1) 0 (omega (arith, len)) in
    grind (arith, nat_tests)

-- ---- lines, byte by byte

-- none of the fronts ends with an empty line
abbrev pub EndsNone : List ℕ → Type 0
EndsNone w = HasNoEnd w (length w)

one_more : (w : List ℕ) (b : ℕ) → EndsNone w → ends_empty (w ++ b ∷ []) ≡ false → EndsNone (w ++ b ∷ [])
one_more w b none here k h =
    elim (cases_lt (length w) k) [
      | inl more ↦ let all : take k (w ++ b ∷ []) ≡ w ++ b ∷ [] = take_all k (w ++ b ∷ []) (omega (arith, more, length-append w (b ∷ []))) in
          subst (λ (l : List ℕ). ends_empty l ≡ false) (sym all) here
      | inr le ↦ subst (λ (l : List ℕ). ends_empty l ≡ false) (sym (take-append-le k w (b ∷ []) le)) (none k le)
    ]

other_more : (w : List ℕ) (b : ℕ) → EndsNone w → b ≢ 10 → EndsNone (w ++ b ∷ [])
other_more w b none other =
    one_more w b none
    (no_end_tail (w ++ b ∷ []) (length w) (length-append w (b ∷ []))
    (λ is. other (sym (read_at w (b ∷ []) (length w) 0 (omega arith)) ∙ is)))

inner_more : (w line : List ℕ) → EndsNone w → All IsInner line → EndsNone (w ++ line)
inner_more w [] none inner = subst EndsNone (sym (append-nil w)) none
inner_more w (b ∷ line) none inner =
    subst EndsNone (append_assoc w (b ∷ []) line)
    (inner_more (w ++ b ∷ []) line (other_more w b none (inner 0 0 (omega arith)).0) (λ k d h. inner (suc k) d (omega (arith, h))))

-- the last byte of a line that isn't empty
last_of : (b : ℕ) (line : List ℕ) → All IsInner (b ∷ line) → (v : List ℕ) × (y : ℕ) × (b ∷ line ≡ v ++ y ∷ []) × IsInner y
last_of b [] inner = ([], b, refl, inner 0 0 (omega arith))
last_of b (c ∷ line) inner =
    let more = last_of c line (λ k d h. inner (suc k) d (omega (arith, h))) in (b ∷ more.0, more.1, ap (λ (l : List ℕ). b ∷ l) more.2, more.3)

-- a line and its end
line_more : (w line : List ℕ) (e : LineEnd) → 0 < length line → EndsNone w → All IsInner line → EndsNone (w ++ line ++ print_end e)
line_more w [] e some none inner = absurd (omega (arith, some))
line_more w (b ∷ line) lf some none inner =
    let last = last_of b line inner in
    let parted : w ++ b ∷ line ≡ (w ++ last.0) ++ last.1 ∷ [] = ap (λ (l : List ℕ). w ++ l) last.2 ∙ sym (append_assoc w last.0 (last.1 ∷ [])) in
    one_more (w ++ b ∷ line) 10 (inner_more w (b ∷ line) none inner)
    (ap (λ (l : List ℕ). ends_empty (l ++ 10 ∷ [])) parted
    ∙ ap ends_empty (append_assoc (w ++ last.0) (last.1 ∷ []) (10 ∷ []))
    ∙ lf_goes_on (w ++ last.0) last.1 last.3.0 last.3.1)
line_more w (b ∷ line) crlf some none inner =
    let last = last_of b line inner in
    let parted : w ++ b ∷ line ≡ (w ++ last.0) ++ last.1 ∷ [] = ap (λ (l : List ℕ). w ++ l) last.2 ∙ sym (append_assoc w last.0 (last.1 ∷ [])) in
    subst EndsNone (append_assoc (w ++ b ∷ line) (13 ∷ []) (10 ∷ []))
    (one_more ((w ++ b ∷ line) ++ 13 ∷ []) 10
    (other_more (w ++ b ∷ line) 13 (inner_more w (b ∷ line) none inner) (λ is. absurd (omega (arith, is))))
    (ap ends_empty (append_assoc (w ++ b ∷ line) (13 ∷ []) (10 ∷ []))
    ∙ ap (λ (l : List ℕ). ends_empty (l ++ 13 ∷ 10 ∷ [])) parted
    ∙ ap ends_empty (append_assoc (w ++ last.0) (last.1 ∷ []) (13 ∷ 10 ∷ []))
    ∙ crlf_goes_on (w ++ last.0) last.1 last.3.0))

-- what a line's end ends with
feed_last : (w : List ℕ) (e : LineEnd) → (u : List ℕ) × (w ++ print_end e ≡ u ++ 10 ∷ [])
feed_last w lf = (w, refl)
feed_last w crlf = (w ++ 13 ∷ [], sym (append_assoc w (13 ∷ []) (10 ∷ [])))

-- ---- the empty line

last_more : (w : List ℕ) (b : ℕ) → EndsNone w → ends_empty (w ++ b ∷ []) ≡ true → IsHeadEnd (w ++ b ∷ []) (length (w ++ b ∷ []))
last_more w b none ends = record {
  within = omega arith;
  ends = subst (λ (l : List ℕ). ends_empty l ≡ true) (sym (take_all (length (w ++ b ∷ [])) (w ++ b ∷ []) (omega arith))) ends;
  first = λ k less.
      let le : k ≤ length w = omega (arith, less, length-append w (b ∷ [])) in
      subst (λ (l : List ℕ). ends_empty l ≡ false) (sym (take-append-le k w (b ∷ []) le)) (none k le);
}

empty_line : (w u : List ℕ) (last : LineEnd) → w ≡ u ++ 10 ∷ [] → EndsNone w → IsHeadEnd (w ++ print_end last) (length (w ++ print_end last))
empty_line w u lf is none =
    last_more w 10 none
    (ap (λ (l : List ℕ). ends_empty (l ++ 10 ∷ [])) is ∙ ap ends_empty (append_assoc u (10 ∷ []) (10 ∷ [])) ∙ lf_ends u)
empty_line w u crlf is none =
    subst (λ (l : List ℕ). IsHeadEnd l (length l)) (append_assoc w (13 ∷ []) (10 ∷ []))
    (last_more (w ++ 13 ∷ []) 10 (other_more w 13 none (λ is. absurd (omega (arith, is))))
    (ap ends_empty (append_assoc w (13 ∷ []) (10 ∷ []))
    ∙ ap (λ (l : List ℕ). ends_empty (l ++ 13 ∷ 10 ∷ [])) is
    ∙ ap ends_empty (append_assoc u (10 ∷ []) (13 ∷ 10 ∷ []))
    ∙ crlf_ends u))

-- ---- fields

pub token_inner : (b : ℕ) → is_token_byte b ≡ true → IsInner b
unfolding is_token_byte
token_inner b token = (λ is. grind (arith, nat_tests), λ is. grind (arith, nat_tests))

pub value_inner : (b : ℕ) → is_value_byte b ≡ true → IsInner b
value_inner b value = (λ is. grind (arith, nat_tests), λ is. grind (arith, nat_tests))

field_more : (w : List ℕ) (f : Field) → EndsNone w → IsField f → EndsNone (w ++ print_field f)
field_more w f none is =
    let line : List ℕ = f.name ++ 58 ∷ f.raw in
    let inner : All IsInner line =
    All-append IsInner f.name (58 ∷ f.raw) (λ k d h. token_inner (get_or f.name k d) (is.name.1 k d h))
    (All-cons IsInner 58 f.raw (value_inner 58 refl) (λ k d h. value_inner (get_or f.raw k d) (is.raw k d h))) in
    subst EndsNone (append_assoc w line (print_end f.end))
    (line_more w line f.end (omega (arith, length-append f.name (58 ∷ f.raw))) none inner)

-- a section ends with the first empty line behind a line
section_end : (w u : List ℕ) (fields : List Field) (last : LineEnd) → w ≡ u ++ 10 ∷ [] → EndsNone w → All IsField fields
    → IsHeadEnd (w ++ print_section fields last) (length (w ++ print_section fields last))
section_end w u [] last is none all = empty_line w u last is none
section_end w u (f ∷ fields) last is none all =
    let line : List ℕ = f.name ++ 58 ∷ f.raw in
    let feed = feed_last (w ++ line) f.end in
    subst (λ (l : List ℕ). IsHeadEnd l (length l))
    (append_assoc w (print_field f) (print_section fields last)
    ∙ ap (λ (l : List ℕ). w ++ l) (sym (append_assoc (print_field f) (flat_map print_field fields) (print_end last))))
    (section_end (w ++ print_field f) feed.0 fields last (sym (append_assoc w line (print_end f.end)) ∙ feed.1)
    (field_more w f none (all 0 f (omega arith))) (λ k d h. all (suc k) d (omega (arith, h))))

-- ---- replies

minor_inner : (minor : ℕ) → minor ≤ 1 → All IsInner (print_version minor)
minor_inner minor h =
    All-append IsInner (codes "HTTP/1.") ((48 + minor) ∷ []) (all_from_test is_value_byte IsInner value_inner (codes "HTTP/1.") refl)
    (All-cons IsInner (48 + minor) [] (λ is. absurd (omega (arith, is)), λ is. absurd (omega (arith, is))) (All-nil IsInner))

reason_inner : (reason : Option (List ℕ)) → All (λ b. IsTrue (is_value_byte b)) (reason_phrase reason) → All IsInner (print_reason reason)
reason_inner None all = All-nil IsInner
reason_inner (Some phrase) all = All-cons IsInner 32 phrase (value_inner 32 refl) (λ k d h. value_inner (get_or phrase k d) (all k d h))

digit_inner : (b : ℕ) → is_ascii_digit b ≡ true → IsInner b
digit_inner b digit = (λ is. grind (arith, nat_tests), λ is. grind (arith, nat_tests))

none_of_none : EndsNone []
none_of_none zero h = refl
none_of_none (suc k) h = absurd (omega (arith, h))

-- the head of a reply without empty lines before it
pub reply_end : (minor : ℕ) (digits : List ℕ) (reason : Option (List ℕ)) (line_end : LineEnd) (fields : List Field) (last : LineEnd)
    → IsResponseHead (record { blank = []; minor = minor; digits = digits; reason = reason; line_end = line_end; fields = fields; last = last })
    → (front : List ℕ)
    → front ≡ print_response (record { blank = []; minor = minor; digits = digits; reason = reason; line_end = line_end; fields = fields; last = last })
    → IsHeadEnd front (length front)
unfolding print_response
reply_end minor digits reason line_end fields last is front front_is =
    let line : List ℕ = print_version minor ++ 32 ∷ digits ++ print_reason reason in
    let inner : All IsInner line =
    All-append IsInner (print_version minor ++ 32 ∷ digits) (print_reason reason)
    (All-append IsInner (print_version minor) (32 ∷ digits) (minor_inner minor is.minor)
    (All-cons IsInner 32 digits (value_inner 32 refl) (λ k d h. digit_inner (get_or digits k d) (is.digits.1 k d h))))
    (reason_inner reason is.reason) in
    let some : 0 < length line = omega (
      arith,
      length-append (print_version minor ++ 32 ∷ digits) (print_reason reason),
      length-append (print_version minor) (32 ∷ digits),
    ) in
    let feed = feed_last line line_end in
    subst (λ (l : List ℕ). IsHeadEnd l (length l)) (sym front_is)
    (section_end (line ++ print_end line_end) feed.0 fields last feed.1 (line_more [] line line_end some none_of_none inner) is.fields)

-- ---- requests

uri_inner : (b : ℕ) → is_uri_byte b ≡ true → IsInner b
uri_inner b uri = (λ is. grind (arith, nat_tests), λ is. grind (arith, nat_tests))

-- the head of a request without empty lines before it
pub request_end : (h : RequestHead) → IsRequestHead h → h.blank ≡ [] → (front : List ℕ) → front ≡ print_request h → IsHeadEnd front (length front)
unfolding print_request
request_end h is none front front_is =
    let line : List ℕ = h.method ++ 32 ∷ h.target ++ 32 ∷ print_version h.minor in
    let inner : All IsInner line =
    All-append IsInner (h.method ++ 32 ∷ h.target) (32 ∷ print_version h.minor)
    (All-append IsInner h.method (32 ∷ h.target) (λ k d less. token_inner (get_or h.method k d) (is.method.1 k d less))
    (All-cons IsInner 32 h.target (value_inner 32 refl) (λ k d less. uri_inner (get_or h.target k d) (is.target.1 k d less))))
    (All-cons IsInner 32 (print_version h.minor) (value_inner 32 refl) (minor_inner h.minor is.minor)) in
    let some : 0 < length line = omega (
      arith,
      length-append (h.method ++ 32 ∷ h.target) (32 ∷ print_version h.minor),
      length-append h.method (32 ∷ h.target),
    ) in
    let feed = feed_last line h.line_end in
    let whole : front ≡ line ++ print_end h.line_end ++ print_section h.fields h.last =
    front_is ∙ ap (λ (blank : List LineEnd). print_blank blank ++ h.method ++ 32 ∷ h.target ++ 32 ∷ print_version h.minor ++ print_end h.line_end
    ++ print_section h.fields h.last) none in
    subst (λ (l : List ℕ). IsHeadEnd l (length l)) (sym whole)
    (section_end (line ++ print_end h.line_end) feed.0 h.fields h.last feed.1 (line_more [] line h.line_end some none_of_none inner) is.fields)
