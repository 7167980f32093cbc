-- 64 lower-case hex digits are the text of 32 bytes.
use Rattle.std.proofs.Common.{◌≡◌, ℕ, zero, suc, ◌+◌, ◌*◌, ◌/◌, ◌%◌, ◌<◌, ◌==◌, Bool, true, false, not, cond, ltb, ◌&&◌, ◌||◌, inl, inr, List, [], ◌∷◌, length}
use Rattle.std.proofs.Common.{take, min, slice_index, Option, Some, None, Ok, refl, sym, ap, ◌∙◌, arith}
use Rattle.std.specs.Option.{option_or}
use Rattle.std.specs.List.{AllByRecursion}
use Rattle.std.proofs.lemmas.Bool.{and_parts, cases_lt, eqb-true, ltb-true, ne_eqb}
use Rattle.std.proofs.lemmas.Bool.Decides.{nat_tests}
use Rattle.std.proofs.lemmas.List.{take_min, length-take}
use Rattle.hex.specs.Hex.{decode_pairs, decode_sized, hex_digit_value, encode_lower, encode_with, lower_digits}
use Rattle.hex.proofs.Pairs.{decode_sized-pairs}
use Rattle.lake_base.proofs.NamesLemmas.{all_pass}
use Rattle.lake_base.specs.Names.{is_hex, stray_hex, digest_fault}

-- the test of one digit, which computes
abbrev fits : Option ℕ → ℕ → Bool
fits None c = false
fits (Some v) c = ltb v 16 && (slice_index lower_digits v == c)

abbrev reads : ℕ → Bool
reads c = not (is_hex c) || fits (hex_digit_value c) c

abbrev all_read : ℕ → Bool
all_read zero = true
all_read (suc n) = reads n && all_read n

all_read-at : (n k : ℕ) → all_read n ≡ true → k < n → reads k ≡ true
all_read-at zero k h lt = absurd (omega arith)
all_read-at (suc n) k h lt =
    let parts = and_parts (reads n) (all_read n) h in
    elim (cases_lt k n) [
      | inl below ↦ all_read-at n k parts.1 below
      | inr top ↦
          let e : k ≡ n = omega arith in
          rw e parts.0
    ]

small : (c : ℕ) → is_hex c ≡ true → c < 103
small c h = grind (arith, nat_tests, h)

fitting : (o : Option ℕ) (c : ℕ) → fits o c ≡ true → (v : ℕ) × (o ≡ Some v) × (v < 16) × (slice_index lower_digits v ≡ c)
fitting None c h = absurd cc
fitting (Some v) c h =
    let parts = and_parts (ltb v 16) (slice_index lower_digits v == c) h in
    (v, refl, ltb-true v 16 parts.0, eqb-true (slice_index lower_digits v) c parts.1)

tested : (b t : Bool) → b ≡ true → (not b || t) ≡ true → t ≡ true
tested true t h e = e
tested false t h e = absurd cc

digit : (c : ℕ) → is_hex c ≡ true → (v : ℕ) × (hex_digit_value c ≡ Some v) × (v < 16) × (slice_index lower_digits v ≡ c)
digit c h = fitting (hex_digit_value c) c (tested (is_hex c) _ h (all_read-at 103 c refl (small c h)))

pub pairs_back : (i n : ℕ) (s : List ℕ) → length s ≡ 2 * n → AllByRecursion (λ c. is_hex c ≡ true) s
    → (bytes : List ℕ) × (decode_pairs i s ≡ Ok bytes) × (s ≡ encode_lower bytes)
unfolding decode_pairs encode_with
pairs_back i n [] len all = ([], refl, refl)
pairs_back i n (h ∷ []) len all = absurd (omega (arith, len))
pairs_back i zero (h ∷ l ∷ rest) len all = absurd (omega (arith, len))
pairs_back i (suc n) (h ∷ l ∷ rest) len all =
    let high = digit h all.0 in
    let low = digit l all.1.0 in
    let more = pairs_back (i + 2) n rest (omega (arith, len)) all.1.1 in
    let byte = high.0 * 16 + low.0 in
    let up : byte / 16 ≡ high.0 = omega (arith, high.2, low.2) in
    let down : byte % 16 ≡ low.0 = omega (arith, high.2, low.2) in
    let first : h ≡ slice_index lower_digits (byte / 16) = sym high.3 ∙ ap (slice_index lower_digits) (sym up) in
    let second : l ≡ slice_index lower_digits (byte % 16) = sym low.3 ∙ ap (slice_index lower_digits) (sym down) in (
      byte ∷ more.0,
      rw (high.1, low.1, more.1) refl,
      λ j. first j ∷ second j ∷ more.2 j,
    )

pub all_hex : (s : List ℕ) → stray_hex s ≡ None → AllByRecursion (λ c. is_hex c ≡ true) s
all_hex s h = all_pass is_hex s h

pub decoded : (s : List ℕ) → length s ≡ 64 → stray_hex s ≡ None → (bytes : List ℕ) × (decode_sized s 32 ≡ Ok bytes) × (s ≡ encode_lower bytes)
decoded s len none =
    let back = pairs_back 0 32 s len (all_hex s none) in
    (back.0, decode_sized-pairs s 32 (omega (arith, len)) (omega (arith, len)) ∙ back.1, back.2)

-- the front of at most 64 bytes
pub front_is : (text : List ℕ) (n : ℕ) → n ≡ min (length text) 64 → take n text ≡ take 64 text
front_is text n e = ap (λ m. take m text) (e ∙ swap (length text)) ∙ take_min 64 text
  where
    swap : (l : ℕ) → min l 64 ≡ min 64 l
    swap l = omega arith

pub stray_fault : (text : List ℕ) (n at : ℕ) → n ≡ min (length text) 64 → Some at ≡ stray_hex (take n text) → digest_fault text ≡ Some at
stray_fault text n at e found =
    ap (λ f. option_or f (cond (length text == 64) None (Some (min 64 (length text))))) (sym (found ∙ ap stray_hex (front_is text n e)))

pub length_fault : (text : List ℕ) (n : ℕ) → n ≡ min (length text) 64 → None ≡ stray_hex (take n text) → (length text ≡ 64 → ⊥)
    → digest_fault text ≡ Some (length (take n text))
length_fault text n e found ne =
    ap (λ f. option_or f (cond (length text == 64) None (Some (min 64 (length text))))) (sym (found ∙ ap stray_hex (front_is text n e)))
    ∙ ap (λ b. cond b None (Some (min 64 (length text)))) (ne_eqb (length text) 64 ne)
    ∙ ap Some (omega (arith, length-take n text, e))
