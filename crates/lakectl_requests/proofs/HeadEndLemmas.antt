-- The head of a request ends at its first empty line: it is the end of a reply's head whose phrase is the request's line.
use Rattle.std.proofs.Common.{◌≡◌, ◌≢◌, ◌<◌, ◌+◌, ◌-◌, ◌==◌, ◌&&◌, ◌||◌, ℕ, zero, suc, Bool, true, false, List, [], ◌∷◌, ◌++◌, length, take, get_or, codes}
use Rattle.std.proofs.Common.{Some, IsTrue, refl, sym, ap, subst, ◌∙◌, arith, append_assoc}
use Rattle.std.specs.Char.{is_ascii_digit}
use Rattle.std.proofs.lemmas.List.{append-nil, length-append, take_all, get_or-append-add}
use Rattle.std.proofs.lemmas.List.Elements.{All-append, All-cons, All-weaker}
use Rattle.std.proofs.lemmas.Bool.Decides.{nat_tests}
use Rattle.std.proofs.Math.Seq.{take-append-add}
use Rattle.httparse.specs.Grammar.{crlf, is_token_byte, is_uri_byte, is_value_byte, AllPass, Field}
use Rattle.httparse.specs.Grammar.{RequestHead, IsRequestHead, print_request, ResponseHead, IsResponseHead, print_response, print_section}
use Rattle.httparse.proofs.GrammarLemmas.{print_request-append, print_response-append}
use Rattle.http_wire.specs.MessageHeads.{begins_pair, ends_empty}
use Rattle.http_wire.specs.HeadSearch.{IsHeadEnd}
use Rattle.http_wire.proofs.HeadLemmas.{no_end_tail}
use Rattle.http_wire.proofs.LineLemmas.{all_from_test, reply_end}

-- ---- an end behind a front

-- what the last three bytes say of an empty line
abbrev ends_so : (last second third : ℕ) → Bool
ends_so last second third = (last == 10) && ((second == 10) || ((second == 13) && (third == 10)))

long_end : (w : List ℕ) (n : ℕ) → length w ≡ suc (suc (suc n))
    → ends_empty w ≡ ends_so (get_or w (suc (suc n)) 0) (get_or w (suc n) 0) (get_or w n 0)
long_end w n len = by_case (ends_so (get_or w (suc (suc n)) 0) (get_or w (suc n) 0) (get_or w n 0)) refl
  where
    at : (i j : ℕ) → i ≡ j → get_or w i 0 ≡ get_or w j 0
    at i j e = ap (λ (k : ℕ). get_or w k 0) e

    by_case : (b : Bool) → ends_so (get_or w (suc (suc n)) 0) (get_or w (suc n) 0) (get_or w n 0) ≡ b → ends_empty w ≡ b
    by_case true is =
        let last = at (length w - 1) (suc (suc n)) (omega (arith, len)) in
        let second = at (length w - 2) (suc n) (omega (arith, len)) in
        let before_last = at (length w - 1 - 1) (suc n) (omega (arith, len)) in
        let third = at (length w - 2 - 1) n (omega (arith, len)) in
        grind (arith, nat_tests, is, len)
    by_case false is =
        let last = at (length w - 1) (suc (suc n)) (omega (arith, len)) in
        let second = at (length w - 2) (suc n) (omega (arith, len)) in
        let before_last = at (length w - 1 - 1) (suc n) (omega (arith, len)) in
        let third = at (length w - 2 - 1) n (omega (arith, len)) in
        grind (arith, nat_tests, is, len)

read_at : (p t : List ℕ) (i k : ℕ) → i ≡ length p + k → get_or (p ++ t) i 0 ≡ get_or t k 0
read_at p t i k e = ap (λ (j : ℕ). get_or (p ++ t) j 0) e ∙ get_or-append-add p t k 0

two_end : (u : List ℕ) (a b : ℕ) → a ≢ 10 → a ≢ 13 → ends_empty (u ++ a ∷ b ∷ []) ≡ false
two_end u a b other another =
    let t : List ℕ = a ∷ b ∷ [] in
    let w : List ℕ = u ++ t in
    let len : length w ≡ length u + 2 = length-append u t in
    let second : get_or w (length w - 2) 0 ≡ a = read_at u t (length w - 2) 0 (omega (arith, len)) in
    let before_last : get_or w (length w - 1 - 1) 0 ≡ a = read_at u t (length w - 1 - 1) 0 (omega (arith, len)) in
    grind (arith, nat_tests, other, another)

-- bytes that begin with none of a line's end say it alone
same_end : (p : List ℕ) (a : ℕ) (v : List ℕ) → a ≢ 10 → a ≢ 13 → ends_empty (p ++ a ∷ v) ≡ ends_empty (a ∷ v)
same_end p a [] other another =
    no_end_tail (p ++ a ∷ []) (length p) (length-append p (a ∷ [])) (λ is. other (sym (read_at p (a ∷ []) (length p) 0 (omega arith)) ∙ is))
    ∙ sym (no_end_tail (a ∷ []) 0 refl other)
same_end p a (b ∷ []) other another = two_end p a b other another ∙ sym (two_end [] a b other another)
same_end p a (b ∷ c ∷ v) other another =
    let u : List ℕ = a ∷ b ∷ c ∷ v in
    let n : ℕ = length v in
    let m : ℕ = length p + n in
    let len : length (p ++ u) ≡ suc (suc (suc m)) = omega (arith, length-append p u) in
    long_end (p ++ u) m len
    ∙ ap (λ (x : ℕ). ends_so x (get_or (p ++ u) (suc m) 0) (get_or (p ++ u) m 0)) (read_at p u (suc (suc m)) (suc (suc n)) (omega arith))
    ∙ ap (λ (x : ℕ). ends_so (get_or u (suc (suc n)) 0) x (get_or (p ++ u) m 0)) (read_at p u (suc m) (suc n) (omega arith))
    ∙ ap (ends_so (get_or u (suc (suc n)) 0) (get_or u (suc n) 0)) (read_at p u m n refl)
    ∙ sym (long_end u n refl)

-- a head behind such a front ends where it ends alone
end_behind : (p : List ℕ) (a : ℕ) (v : List ℕ) → a ≢ 10 → a ≢ 13 → IsHeadEnd (p ++ a ∷ v) (length (p ++ a ∷ v)) → IsHeadEnd (a ∷ v) (length (a ∷ v))
end_behind p a v other another end = record {
  within = omega arith;
  ends = ap ends_empty (take_all (length (a ∷ v)) (a ∷ v) (omega arith)) ∙ sym (same_end p a v other another)
      ∙ ap ends_empty (sym (take_all (length (p ++ a ∷ v)) (p ++ a ∷ v) (omega arith))) ∙ end.ends;
  first = before;
}
  where
    before : (k : ℕ) → k < length (a ∷ v) → ends_empty (take k (a ∷ v)) ≡ false
    before zero less = refl
    before (suc k) less =
        sym (same_end p a (take k v) other another) ∙ ap ends_empty (sym (take-append-add p (a ∷ v) (suc k)))
        ∙ end.first (length p + suc k) (omega (arith, less, length-append p (a ∷ v)))

-- ---- heads of requests

abbrev pub head_of : (method target : List ℕ) → List Field → RequestHead
head_of method target fields =
    record { blank = []; method = method; target = target; minor = 1; line_end = crlf; fields = fields; last = crlf }

abbrev line_of : (method target : List ℕ) → List ℕ
line_of method target = method ++ 32 ∷ (target ++ codes " HTTP/1.1")

abbrev reply_of : (method target : List ℕ) → List Field → ResponseHead
reply_of method target fields =
    record { blank = []; minor = 1; digits = codes "200"; reason = Some (line_of method target); line_end = crlf; fields = fields; last = crlf }

token_value : (b : ℕ) → is_token_byte b ≡ true → is_value_byte b ≡ true
unfolding is_token_byte
token_value b is = grind (arith, nat_tests, is)

uri_value : (b : ℕ) → is_uri_byte b ≡ true → is_value_byte b ≡ true
uri_value b is = grind (arith, nat_tests, is)

line_value : (method target : List ℕ) (fields : List Field) → IsRequestHead (head_of method target fields) → AllPass is_value_byte (line_of method target)
line_value method target fields is =
    All-append (λ b. IsTrue (is_value_byte b)) method (32 ∷ (target ++ codes " HTTP/1.1"))
    (All-weaker (λ b. IsTrue (is_token_byte b)) (λ b. IsTrue (is_value_byte b)) token_value method is.method.1)
    (All-cons (λ b. IsTrue (is_value_byte b)) 32 (target ++ codes " HTTP/1.1") refl
    (All-append (λ b. IsTrue (is_value_byte b)) target (codes " HTTP/1.1")
    (All-weaker (λ b. IsTrue (is_uri_byte b)) (λ b. IsTrue (is_value_byte b)) uri_value target is.target.1)
    (all_from_test is_value_byte (λ b. IsTrue (is_value_byte b)) (λ b holds. holds) (codes " HTTP/1.1") refl)))

is_reply : (method target : List ℕ) (fields : List Field) → IsRequestHead (head_of method target fields) → IsResponseHead (reply_of method target fields)
is_reply method target fields is = record {
  minor = omega arith;
  digits = (refl, all_from_test is_ascii_digit (λ b. IsTrue (is_ascii_digit b)) (λ b holds. holds) (codes "200") refl);
  reason = line_value method target fields is;
  fields = is.fields;
}

-- the reply's head is a front, and the request's
behind_front : (method target : List ℕ) (fields : List Field)
    → print_response (reply_of method target fields) ≡ codes "HTTP/1.1 200 " ++ print_request (head_of method target fields)
behind_front method target fields =
    let section : List ℕ = print_section fields crlf ++ [] in
    sym (append-nil (print_response (reply_of method target fields)))
    ∙ print_response-append (reply_of method target fields) []
    ∙ ap (λ (l : List ℕ). codes "HTTP/1.1 200 " ++ l)
    (append_assoc method (32 ∷ (target ++ codes " HTTP/1.1")) (codes "\r\n" ++ section)
    ∙ ap (λ (l : List ℕ). method ++ 32 ∷ l) (append_assoc target (codes " HTTP/1.1") (codes "\r\n" ++ section))
    ∙ sym (print_request-append (head_of method target fields) []) ∙ append-nil (print_request (head_of method target fields)))

token_inner : (b : ℕ) → is_token_byte b ≡ true → (b ≢ 10) × (b ≢ 13)
unfolding is_token_byte
token_inner b is = (λ e. grind (arith, nat_tests, is), λ e. grind (arith, nat_tests, is))

-- the bytes behind the first
tail_of : (a : ℕ) (method target : List ℕ) (fields : List Field) → (v : List ℕ) × (print_request (head_of (a ∷ method) target fields) ≡ a ∷ v)
unfolding print_request
tail_of a method target fields = (_, refl)

-- such a head ends at its first empty line
pub request_end : (method target : List ℕ) (fields : List Field) → IsRequestHead (head_of method target fields)
    → IsHeadEnd (print_request (head_of method target fields)) (length (print_request (head_of method target fields)))
request_end [] target fields is = absurd (omega (arith, is.method.0))
request_end (a ∷ method) target fields is =
    let tail = tail_of a method target fields in
    let inner = token_inner a (is.method.1 0 0 (omega arith)) in
    let front : List ℕ = codes "HTTP/1.1 200 " in
    subst (λ (l : List ℕ). IsHeadEnd l (length l)) (sym tail.1)
    (end_behind front a tail.0 inner.0 inner.1
    (subst (λ (l : List ℕ). IsHeadEnd l (length l)) (behind_front (a ∷ method) target fields ∙ ap (λ (l : List ℕ). front ++ l) tail.1)
    (reply_end 1 (codes "200") (Some (line_of (a ∷ method) target)) crlf fields crlf (is_reply (a ∷ method) target fields is)
    (print_response (reply_of (a ∷ method) target fields)) refl)))

-- and no pair of a line's end stands at its front
pub no_pair : (method target : List ℕ) (fields : List Field) → IsRequestHead (head_of method target fields)
    → begins_pair (print_request (head_of method target fields)) ≡ false
no_pair [] target fields is = absurd (omega (arith, is.method.0))
no_pair (a ∷ method) target fields is =
    let tail = tail_of a method target fields in
    let inner = token_inner a (is.method.1 0 0 (omega arith)) in
    ap begins_pair tail.1 ∙ apart tail.0 inner.1
  where
    apart : (v : List ℕ) → a ≢ 13 → begins_pair (a ∷ v) ≡ false
    apart [] other = refl
    apart (b ∷ v) other = grind (arith, nat_tests, other)
