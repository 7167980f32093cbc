-- The hex text of a digest: it is 64 digits, and no other digest has it.
use Rattle.std.proofs.Common.{◌≡◌, ℕ, zero, suc, ◌+◌, ◌*◌, ◌/◌, ◌%◌, ◌<◌, ◌==◌, Bool, true, false, not, cond, ltb, ◌&&◌, inl, inr, List, [], ◌∷◌, length, take}
use Rattle.std.proofs.Common.{slice_index, min, Option, Some, None, refl, sym, ap, ◌∙◌, arith}
use Rattle.std.specs.List.{AllByRecursion, position, position_or_len}
use Rattle.std.specs.Option.{is_none, option_or}
use Rattle.std.proofs.lemmas.Bool.{and_parts, cases_lt, eqb-true}
use Rattle.std.proofs.lemmas.Bool.Decides.{nat_tests}
use Rattle.std.proofs.lemmas.List.{get_or_past, take_all}
use Rattle.hex.specs.Hex.{hex_digit_value, encode_lower, encode_with, lower_digits}
use Rattle.lake_base.specs.Names.{is_hex, is_like_id, stray_hex, digest_fault}
use Rattle.lake_base.proofs.DigestLemmas.{all_hex}
use Rattle.lake_format.specs.Spelling.{AreBytes, IsDigest}

-- ---- digits

-- the test of one digit, which computes
abbrev has_value : Option ℕ → ℕ → Bool
has_value None n = false
has_value (Some v) n = v == n

abbrev fits : ℕ → Bool
fits n = is_hex (slice_index lower_digits n) && has_value (hex_digit_value (slice_index lower_digits n)) n

abbrev all_fit : ℕ → Bool
all_fit zero = true
all_fit (suc n) = fits n && all_fit n

all_fit-at : (n k : ℕ) → all_fit n ≡ true → k < n → fits k ≡ true
all_fit-at zero k h lt = absurd (omega arith)
all_fit-at (suc n) k h lt =
    let parts = and_parts (fits n) (all_fit n) h in
    elim (cases_lt k n) [
      | inl below ↦ all_fit-at n k parts.1 below
      | inr top ↦
          let e : k ≡ n = omega arith in
          rw e parts.0
    ]

parts_at : (n : ℕ) → n < 16 → (is_hex (slice_index lower_digits n) ≡ true) × (has_value (hex_digit_value (slice_index lower_digits n)) n ≡ true)
parts_at n lt = and_parts (is_hex (slice_index lower_digits n)) (has_value (hex_digit_value (slice_index lower_digits n)) n) (all_fit-at 16 n refl lt)

value_is : (o : Option ℕ) (n : ℕ) → has_value o n ≡ true → o ≡ Some n
value_is None n h = absurd cc
value_is (Some v) n h = ap Some (eqb-true v n h)

value_at : (n : ℕ) → n < 16 → hex_digit_value (slice_index lower_digits n) ≡ Some n
value_at n lt = value_is (hex_digit_value (slice_index lower_digits n)) n (parts_at n lt).1

-- a number past the sixteenth has no digit
small : (n : ℕ) → is_hex (slice_index lower_digits n) ≡ true → n < 16
small n hex = elim (cases_lt n 16) [
  | inl below ↦ below
  | inr past ↦
      let none : slice_index lower_digits n ≡ 0 = get_or_past lower_digits n 0 past in
      let no : is_hex 0 ≡ true = rw none at hex in
      absurd cc
]

one_digit : (m n : ℕ) → is_hex (slice_index lower_digits m) ≡ true → slice_index lower_digits m ≡ slice_index lower_digits n → m ≡ n
one_digit m n hex same =
    let other : is_hex (slice_index lower_digits n) ≡ true = ap is_hex (sym same) ∙ hex in
    let values : Some m ≡ Some n = sym (value_at m (small m hex)) ∙ ap hex_digit_value same ∙ value_at n (small n other) in
    cc

-- ---- texts

one_byte : (m n : ℕ) → m / 16 ≡ n / 16 → m % 16 ≡ n % 16 → m ≡ n
one_byte m n high low = omega arith

-- bytes whose text is in digits are those of that text alone
one_text : (bytes others : List ℕ) → AllByRecursion (λ c. is_hex c ≡ true) (encode_lower bytes) → encode_lower bytes ≡ encode_lower others → bytes ≡ others
unfolding encode_with
one_text [] [] hex same = refl
one_text [] (n ∷ others) hex same = absurd cc
one_text (m ∷ bytes) [] hex same = absurd cc
one_text (m ∷ bytes) (n ∷ others) hex same =
    let high : slice_index lower_digits (m / 16) ≡ slice_index lower_digits (n / 16) = cc in
    let low : slice_index lower_digits (m % 16) ≡ slice_index lower_digits (n % 16) = cc in
    let later : encode_lower bytes ≡ encode_lower others = cc in
    let first = one_byte m n (one_digit (m / 16) (n / 16) hex.0 high) (one_digit (m % 16) (n % 16) hex.1.0 low) in
    let rest = one_text bytes others hex.1.1 later in
    λ i. first i ∷ rest i

all_digits : (bytes : List ℕ) → AreBytes bytes → AllByRecursion (λ c. is_hex c ≡ true) (encode_lower bytes)
unfolding encode_with
all_digits [] each = tt
all_digits (b ∷ bytes) each = (
  (parts_at (b / 16) (omega (arith, each 0))).0,
  ((parts_at (b % 16) (omega arith)).0, all_digits bytes (λ i. each (suc i))),
)

twice : (bytes : List ℕ) → length (encode_lower bytes) ≡ 2 * length bytes
unfolding encode_with
twice [] = refl
twice (b ∷ bytes) = omega (arith, twice bytes)

past_all : (p : ℕ → Bool) (s : List ℕ) → AllByRecursion (λ c. p c ≡ true) s → position_or_len (λ byte. not (p byte)) s ≡ length s
past_all p [] all = refl
past_all p (c ∷ s) all = ap (λ b. cond (not (not b)) (1 + position_or_len (λ byte. not (p byte)) s) 0) all.0 ∙ omega (arith, past_all p s all.1)

none_before : (n m : ℕ) → n ≡ m → cond (ltb n m) (Some n) None ≡ None
none_before n m e = grind (arith, nat_tests)

none_stray : (p : ℕ → Bool) (s : List ℕ) → AllByRecursion (λ c. p c ≡ true) s → position (λ byte. not (p byte)) s ≡ None
none_stray p s all = none_before (position_or_len (λ byte. not (p byte)) s) (length s) (past_all p s all)

read_whole : (text : List ℕ) → length text ≡ 64 → AllByRecursion (λ c. is_hex c ≡ true) text → digest_fault text ≡ None
read_whole text long hex =
    ap (λ f. option_or f (cond (length text == 64) None (Some (min 64 (length text)))))
    (ap stray_hex (take_all 64 text (omega arith)) ∙ none_stray is_hex text hex)
    ∙ ap (λ n. cond (n == 64) None (Some (min 64 n))) long

-- the text of a digest is like an id
pub text_is_like_id : (bytes : List ℕ) → IsDigest bytes → is_like_id (encode_lower bytes) ≡ true
text_is_like_id bytes is =
    let long : length (encode_lower bytes) ≡ 64 = omega (arith, twice bytes, is.long) in
    (λ i. (long i == 64) && is_none (none_stray is_hex (encode_lower bytes) (all_digits bytes is.bytes) i))

-- the text of a digest is read without a fault
pub digest_reads : (bytes : List ℕ) → IsDigest bytes → digest_fault (encode_lower bytes) ≡ None
digest_reads bytes is = read_whole (encode_lower bytes) (omega (arith, twice bytes, is.long)) (all_digits bytes is.bytes)

-- ---- and back

no_fault : (o : Option ℕ) (b : Bool) (n : ℕ) → option_or o (cond b None (Some n)) ≡ None → (o ≡ None) × (b ≡ true)
no_fault (Some at) b n e = absurd cc
no_fault None true n e = (refl, refl)
no_fault None false n e = absurd cc

-- what is read without a fault is in digits
read_digits : (text : List ℕ) → digest_fault text ≡ None → AllByRecursion (λ c. is_hex c ≡ true) text
read_digits text none =
    let parts = no_fault (stray_hex (take 64 text)) (length text == 64) (min 64 (length text)) none in
    let long : length text ≡ 64 = eqb-true (length text) 64 parts.1 in
    all_hex text (ap stray_hex (sym (take_all 64 text (omega arith))) ∙ parts.0)

-- bytes of a text that is read without a fault are those of that text alone
pub read_once : (bytes others : List ℕ) → digest_fault (encode_lower bytes) ≡ None → encode_lower bytes ≡ encode_lower others → bytes ≡ others
read_once bytes others none same = one_text bytes others (read_digits (encode_lower bytes) none) same
