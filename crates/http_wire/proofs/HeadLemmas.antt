-- Where the head at the front of bytes ends.
use Rattle.std.proofs.Common.{◌≡◌, ◌≢◌, ◌≤◌, ◌<◌, ◌+◌, ◌*◌, ◌-◌, ℕ, zero, suc, Bool, true, false, List, [], ◌∷◌, ◌++◌, length, take, drop, get_or}
use Rattle.std.proofs.Common.{Option, Some, None, refl, sym, ap, subst, inl, inr, true≢false, ◌∙◌, arith, append_assoc, nat_lt, slice_range, if◌then◌else◌}
use Rattle.std.proofs.lemmas.List.{append-nil, length-append, take-append-drop, take-append-le, drop-append-le, take-take, take_all}
use Rattle.std.proofs.lemmas.List.{take_more, length-take, length-take-le, get_or-take, get_or-drop, length-drop}
use Rattle.std.proofs.lemmas.Bool.Decides.{nat_tests}
use Rattle.std.proofs.lemmas.Bool.{cases_lt}
use Rattle.memchr.specs.Find.{Passes, is_byte}
use Rattle.http_wire.specs.MessageHeads.{ends_empty, begins_pair, skip_pairs, first_front, headed, too_long, unended, opening_at, opening}
use Rattle.http_wire.specs.HeadSearch.{HasNoEnd, IsHeadEnd, pairs}

-- pairs at the front are skipped
pub skip_pairs-pairs : (n : ℕ) (s : List ℕ) → skip_pairs (pairs n ++ s) ≡ skip_pairs s
skip_pairs-pairs zero s = refl
skip_pairs-pairs (suc n) s = skip_pairs-pairs n s

pub skip_none : (s : List ℕ) → begins_pair s ≡ false → skip_pairs s ≡ s
skip_none [] h = refl
skip_none (a ∷ []) h = refl
skip_none (a ∷ b ∷ s) h = rw h refl

pub length-pairs : (n : ℕ) → length (pairs n) ≡ 2 * n
length-pairs zero = refl
length-pairs (suc n) = omega (arith, length-pairs n)

-- a front of bytes that begin with pairs
pub take-pairs : (n m k : ℕ) (s : List ℕ) → k ≡ 2 * n + m → take k (pairs n ++ s) ≡ pairs n ++ take m s
take-pairs zero m k s e = let same : k ≡ m = omega (arith, e) in ap (λ (i : ℕ). take i s) same
take-pairs (suc n) m zero s e = absurd (omega (arith, e))
take-pairs (suc n) m (suc zero) s e = absurd (omega (arith, e))
take-pairs (suc n) m (suc (suc k)) s e = ap (λ (l : List ℕ). 13 ∷ 10 ∷ l) (take-pairs n m k s (omega (arith, e)))

module _ (test : List ℕ → Bool) where
  -- the least front that passes is found
  pub first_found : (front rest : List ℕ) (n : ℕ) → n ≤ length rest → test (front ++ take n rest) ≡ true
      → ((k : ℕ) → k < n → test (front ++ take k rest) ≡ false) → first_front test front rest ≡ Some (front ++ take n rest, drop n rest)
  first_found front [] zero h is none =
      let t : test front ≡ true = subst (λ (l : List ℕ). test l ≡ true) (append-nil front) is in
      rw t (ap (λ (l : List ℕ). Some (l, [])) (sym (append-nil front)))
  first_found front [] (suc n) h is none = absurd (omega (arith, h))
  first_found front (b ∷ rest) zero h is none =
      let t : test front ≡ true = subst (λ (l : List ℕ). test l ≡ true) (append-nil front) is in
      rw t (ap (λ (l : List ℕ). Some (l, b ∷ rest)) (sym (append-nil front)))
  first_found front (b ∷ rest) (suc n) h is none =
      let t : test front ≡ false = subst (λ (l : List ℕ). test l ≡ false) (append-nil front) (none 0 (omega arith)) in
      let on = first_found (front ++ b ∷ []) rest n (omega (arith, h))
      (subst (λ (l : List ℕ). test l ≡ true) (sym (append_assoc front (b ∷ []) (take n rest))) is)
      (λ k below. subst (λ (l : List ℕ). test l ≡ false) (sym (append_assoc front (b ∷ []) (take k rest))) (none (suc k) (omega (arith, below)))) in
      rw t (on ∙ ap (λ (l : List ℕ). Some (l, drop n rest)) (append_assoc front (b ∷ []) (take n rest)))

  -- where none passes, none is found
  pub first_none : (front rest : List ℕ) → ((k : ℕ) → k ≤ length rest → test (front ++ take k rest) ≡ false) → first_front test front rest ≡ None
  first_none front [] none =
      let t : test front ≡ false = subst (λ (l : List ℕ). test l ≡ false) (append-nil front) (none 0 (omega arith)) in
      rw t refl
  first_none front (b ∷ rest) none =
      let t : test front ≡ false = subst (λ (l : List ℕ). test l ≡ false) (append-nil front) (none 0 (omega arith)) in
      rw t (first_none (front ++ b ∷ []) rest
      (λ k below. subst (λ (l : List ℕ). test l ≡ false) (sym (append_assoc front (b ∷ []) (take k rest))) (none (suc k) (omega (arith, below)))))

-- the last byte of a front that ends with an empty line is a line feed
pub no_end_tail : (w : List ℕ) (n : ℕ) → length w ≡ n + 1 → get_or w n 0 ≢ 10 → ends_empty w ≡ false
no_end_tail w n len other =
    let at : length w - 1 ≡ n = omega (arith, len) in
    let tail : get_or w (length w - 1) 0 ≢ 10 = λ is. other (ap (λ (i : ℕ). get_or w i 0) (sym at) ∙ is) in
    grind (arith, nat_tests, tail)

-- a line that goes on ends none
pub no_end_here : (bytes : List ℕ) (at : ℕ) → at < length bytes → get_or bytes at 0 ≢ 10 → ends_empty (take (at + 1) bytes) ≡ false
no_end_here bytes at h other =
    no_end_tail (take (at + 1) bytes) at (length-take-le (at + 1) bytes (omega (arith, h)))
    (λ is. other (sym (get_or-take (at + 1) bytes at 0 (omega arith)) ∙ is))

-- a line feed ends the line that stood before it
pub end_here : (bytes : List ℕ) (at : ℕ) → at < length bytes → get_or bytes at 0 ≡ 10 → take (at + 1) bytes ≡ take at bytes ++ 10 ∷ []
end_here bytes at h is = take_more bytes at 0 h ∙ ap (λ (b : ℕ). take at bytes ++ b ∷ []) is

-- the line feed decides whether a head ends here
pub end_is : (bytes : List ℕ) (at : ℕ) (b : Bool) → at < length bytes → get_or bytes at 0 ≡ 10 → ends_empty (take at bytes ++ 10 ∷ []) ≡ b
    → ends_empty (take (at + 1) bytes) ≡ b
end_is bytes at b h is same = ap ends_empty (end_here bytes at h is) ∙ same

-- no end comes between: a step of the search
pub no_end_step : (bytes : List ℕ) (at : ℕ) → HasNoEnd bytes at → ends_empty (take (at + 1) bytes) ≡ false → HasNoEnd bytes (at + 1)
no_end_step bytes at none here k h =
    elim (cases_lt at k) [
      | inl more ↦ let e : k ≡ at + 1 = omega (arith, h, more) in subst (λ (i : ℕ). ends_empty (take i bytes) ≡ false) (sym e) here
      | inr le ↦ none k le
    ]

-- what is looked through from a place on
abbrev pub rest_from : List ℕ → ℕ → List ℕ
rest_from bytes at = slice_range bytes at (length bytes)

pub rest_long : (bytes : List ℕ) (at : ℕ) → at ≤ length bytes → length (rest_from bytes at) ≡ length bytes - at
rest_long bytes at h = length-take-le (length bytes - at) (drop at bytes) (omega (arith, length-drop at bytes))

rest_at : (bytes : List ℕ) (at k : ℕ) → at + k < length bytes → get_or (rest_from bytes at) k 0 ≡ get_or bytes (at + k) 0
rest_at bytes at k h = get_or-take (length bytes - at) (drop at bytes) k 0 (omega (arith, h)) ∙ get_or-drop at bytes k 0

-- the line feed that was found
pub feed_at : (bytes : List ℕ) (at n : ℕ) → at + n < length bytes → Passes (is_byte 10) (rest_from bytes at) n → get_or bytes (at + n) 0 ≡ 10
feed_at bytes at n h passes = sym (rest_at bytes at n h) ∙ is_feed (get_or (rest_from bytes at) n 0) passes
  where
    is_feed : (b : ℕ) → is_byte 10 b ≡ true → b ≡ 10
    is_feed b is = grind (arith, nat_tests, is)

-- no end comes between where no line feed stands
pub no_end_run : (bytes : List ℕ) (at n : ℕ) → HasNoEnd bytes at → at + n ≤ length bytes
    → ((k : ℕ) → 0 ≤ k → k < n → ¬ (Passes (is_byte 10) (rest_from bytes at) k)) → HasNoEnd bytes (at + n)
no_end_run bytes at zero none within other = let e : at ≡ at + 0 = omega arith in subst (HasNoEnd bytes) e none
no_end_run bytes at (suc n) none within other =
    let e : at + n + 1 ≡ at + suc n = omega arith in
    subst (HasNoEnd bytes) e
    (no_end_step bytes (at + n) (no_end_run bytes at n none (omega (arith, within)) (λ k from less. other k from (omega (arith, less))))
    (no_end_here bytes (at + n) (omega (arith, within))
    (λ is. other n (omega arith) (omega arith) (feed_passes (get_or (rest_from bytes at) n 0) (rest_at bytes at n (omega (arith, within)) ∙ is)))))
  where
    feed_passes : (b : ℕ) → b ≡ 10 → is_byte 10 b ≡ true
    feed_passes b is = grind (arith, nat_tests, is)

-- a single byte isn't a carriage return where a head ends with it
pub end_of_one : (a n : ℕ) → n ≤ 1 → ends_empty (take n (a ∷ [])) ≡ true → a ≡ 10
end_of_one a zero h ends = absurd (true≢false (sym ends))
end_of_one a (suc zero) h ends = grind (arith, nat_tests, ends)
end_of_one a (suc (suc n)) h ends = absurd (omega (arith, h))

-- a head isn't empty
end_some : (w : List ℕ) (n : ℕ) → ends_empty (take n w) ≡ true → 0 < n
end_some w zero ends = absurd (true≢false (sym ends))
end_some w (suc n) ends = omega arith

nat_lt_true : (a b : ℕ) → a < b → nat_lt a b ≡ true
nat_lt_true a b h = grind (arith, nat_tests)

nat_lt_false : (a b : ℕ) → b ≤ a → nat_lt a b ≡ false
nat_lt_false a b h = grind (arith, nat_tests)

-- where a head ends, nothing that follows makes a pair of its front
pub pair_apart : (w more : List ℕ) (n : ℕ) → n ≤ length w → ends_empty (take n w) ≡ true → begins_pair w ≡ false → begins_pair (w ++ more) ≡ false
pair_apart [] more zero h ends none = absurd (true≢false (sym ends))
pair_apart [] more (suc n) h ends none = absurd (omega (arith, h))
pair_apart (a ∷ []) [] n h ends none = refl
pair_apart (a ∷ []) (b ∷ more) n h ends none = rw (end_of_one a n h ends) refl
pair_apart (a ∷ b ∷ w) more n h ends none = none

pub pair_take : (w : List ℕ) (m : ℕ) → begins_pair w ≡ false → begins_pair (take m w) ≡ false
pair_take [] zero none = refl
pair_take [] (suc m) none = refl
pair_take (a ∷ []) zero none = refl
pair_take (a ∷ []) (suc zero) none = refl
pair_take (a ∷ []) (suc (suc m)) none = refl
pair_take (a ∷ b ∷ w) zero none = refl
pair_take (a ∷ b ∷ w) (suc zero) none = refl
pair_take (a ∷ b ∷ w) (suc (suc m)) none = none

pub pair_short : (w : List ℕ) → length w < 2 → begins_pair w ≡ false
pair_short [] h = refl
pair_short (a ∷ []) h = refl
pair_short (a ∷ b ∷ w) h = absurd (omega (arith, h))

-- no pair at the front of a front, where none stands there or there is no room for one
pub pair_front : (w : List ℕ) (m : ℕ) → (2 ≤ m → begins_pair w ≡ false) → begins_pair (take m w) ≡ false
pair_front w zero none = refl
pair_front [] (suc zero) none = refl
pair_front (a ∷ w) (suc zero) none = refl
pair_front w (suc (suc m)) none = pair_take w (suc (suc m)) (none (omega arith))

-- the bytes behind pairs
pub drop-pairs : (n m k : ℕ) (s : List ℕ) → k ≡ 2 * n + m → drop k (pairs n ++ s) ≡ drop m s
drop-pairs zero m k s e = let same : k ≡ m = omega (arith, e) in ap (λ (i : ℕ). drop i s) same
drop-pairs (suc n) m zero s e = absurd (omega (arith, e))
drop-pairs (suc n) m (suc zero) s e = absurd (omega (arith, e))
drop-pairs (suc n) m (suc (suc k)) s e = drop-pairs n m k s (omega (arith, e))

-- an end in a front is an end
pub end_in_front : (w : List ℕ) (m n : ℕ) → m ≤ length w → IsHeadEnd (take m w) n → IsHeadEnd w n × (n ≤ m)
end_in_front w m n h end =
    let len : length (take m w) ≡ m = length-take-le m w h in
    let below : n ≤ m = omega (arith, len, end.within) in (
      record {
        within = omega (arith, h, below);
        ends = subst (λ (l : List ℕ). ends_empty l ≡ true) (take-take n m w below) end.ends;
        first = λ k less. subst (λ (l : List ℕ). ends_empty l ≡ false) (take-take k m w (omega (arith, less, below))) (end.first k less);
      },
      below,
    )

pub none_in_front : (w : List ℕ) (m : ℕ) → m ≤ length w → HasNoEnd (take m w) (length (take m w)) → HasNoEnd w m
none_in_front w m h none k below =
    let len : length (take m w) ≡ m = length-take-le m w h in
    subst (λ (l : List ℕ). ends_empty l ≡ false) (take-take k m w below) (none k (omega (arith, below, len)))

-- How bytes begin whose pairs are passed, from what their rest begins with.
opening_is : (count m : ℕ) (s : List ℕ) (found : Option (List ℕ × List ℕ)) → 16384 ≡ 2 * count + m → begins_pair (take m s) ≡ false
    → first_front ends_empty [] (take m s) ≡ found → opening (pairs count ++ s) ≡ opening_at (pairs count ++ s) found
unfolding opening
opening_is count m s found e none first =
    ap (opening_at (pairs count ++ s))
    (ap (λ (l : List ℕ). first_front ends_empty [] l)
    (ap skip_pairs (take-pairs count m 16384 s e) ∙ skip_pairs-pairs count (take m s) ∙ skip_none (take m s) none) ∙ first)

-- a head stands at the front of what is held
pub opening_headed : (count : ℕ) (w more : List ℕ) (n : ℕ) → 2 * count + n ≤ 16384 → IsHeadEnd w n → (2 * count + 2 ≤ 16384 → begins_pair w ≡ false)
    → opening (pairs count ++ w ++ more) ≡ headed (take n w) (drop n w ++ more)
opening_headed count w more n limit end none =
    let m : ℕ = 16384 - 2 * count in
    let e : 16384 ≡ 2 * count + m = omega (arith, limit) in
    let s : List ℕ = w ++ more in
    let some : 0 < n = end_some w n end.ends in
    let apart : begins_pair s ≡ false = pair_apart w more n end.within end.ends (none (omega (arith, limit, some))) in
    let front_is : take n (take m s) ≡ take n w = take-take n m s (omega (arith, limit)) ∙ take-append-le n w more end.within in
    let long : n ≤ length (take m s) = omega (arith, limit, length-take m s, length-append w more, end.within) in
    let found = first_found ends_empty [] (take m s) n long
    (subst (λ (l : List ℕ). ends_empty l ≡ true) (sym front_is) end.ends)
    (λ k less. subst (λ (l : List ℕ). ends_empty l ≡ false)
    (sym (take-take k m s (omega (arith, limit, less)) ∙ take-append-le k w more (omega (arith, less, end.within)))) (end.first k less)) in
    let behind : drop n (take m s) ++ drop 16384 (pairs count ++ s) ≡ drop n w ++ more =
    ap (λ (l : List ℕ). drop n (take m s) ++ l) (drop-pairs count m 16384 s e)
    ∙ sym (drop-append-le n (take m s) (drop m s) long)
    ∙ ap (drop n) (take-append-drop m s)
    ∙ drop-append-le n w more end.within in
    ap opening (append_assoc (pairs count) w more)
    ∙ opening_is count m s (Some (take n (take m s), drop n (take m s))) e (pair_take s m apart) found
    ∙ ap (λ (l : List ℕ). headed l (drop n (take m s) ++ drop 16384 (pairs count ++ s))) front_is
    ∙ ap (headed (take n w)) behind

-- no head ends within the limit
pub opening_too_long : (count m : ℕ) (w more : List ℕ) → 16384 ≡ 2 * count + m → m ≤ length w → HasNoEnd w m → (2 * count + 2 ≤ 16384 → begins_pair w ≡ false)
    → opening (pairs count ++ w ++ more) ≡ too_long
opening_too_long count m w more e long none pair =
    let s : List ℕ = w ++ more in
    let front_is : take m s ≡ take m w = take-append-le m w more long in
    let apart : begins_pair (take m s) ≡ false = subst (λ (l : List ℕ). begins_pair l ≡ false) (sym front_is) (pair_front w m (λ two. pair (omega
    (arith, e, two)))) in
    let len : length (take m w) ≡ m = length-take-le m w long in
    let found = first_none ends_empty [] (take m s)
    (λ k below. subst (λ (l : List ℕ). ends_empty l ≡ false)
    (sym (ap (take k) front_is ∙ take-take k m w (omega (arith, below, len, ap length front_is)))) (none k (omega
    (arith, below, len, ap length front_is)))) in
    let all : nat_lt (length (pairs count ++ s)) 16384 ≡ false =
    nat_lt_false (length (pairs count ++ s)) 16384 (omega (arith, e, long, length-append (pairs count) s, length-append w more, length-pairs count)) in
    ap opening (append_assoc (pairs count) w more)
    ∙ opening_is count m s None e apart found
    ∙ ap (λ (b : Bool). if b then unended (skip_pairs (pairs count ++ s)) else too_long) all

-- a part of a head is all that there is
pub opening_part : (count : ℕ) (w : List ℕ) → 2 * count + length w < 16384 → HasNoEnd w (length w) → (2 * count + 2 ≤ 16384 → begins_pair w ≡ false)
    → opening (pairs count ++ w) ≡ unended w
opening_part count w short none pair =
    let m : ℕ = 16384 - 2 * count in
    let e : 16384 ≡ 2 * count + m = omega (arith, short) in
    let all : take m w ≡ w = take_all m w (omega (arith, short)) in
    let apart : begins_pair (take m w) ≡ false = pair_front w m (λ two. pair (omega (arith, e, two))) in
    let apart_all : begins_pair w ≡ false = subst (λ (l : List ℕ). begins_pair l ≡ false) all apart in
    let found = ap (λ (l : List ℕ). first_front ends_empty [] l) all ∙ first_none ends_empty [] w none in
    let less : nat_lt (length (pairs count ++ w)) 16384 ≡ true =
    nat_lt_true (length (pairs count ++ w)) 16384 (omega (arith, short, length-append (pairs count) w, length-pairs count)) in
    opening_is count m w None e apart found
    ∙ ap (λ (b : Bool). if b then unended (skip_pairs (pairs count ++ w)) else too_long) less
    ∙ ap unended (skip_pairs-pairs count w ∙ skip_none w apart_all)
