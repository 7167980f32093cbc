-- A number's name reads back as the number.
use Rattle.std.proofs.Common.{◌≡◌, ℕ, zero, suc, ◌+◌, ◌*◌, ◌/◌, ◌%◌, ◌<◌, ◌^◌, Bool, true, false, ◌&&◌, inl, inr, List, [], ◌∷◌, length, get_or, slice_index}
use Rattle.std.proofs.Common.{Ok, refl, sym, ap, ◌∙◌, arith}
use Rattle.std.specs.Int.{w64, to_be_bytes, from_be_bytes}
use Rattle.std.specs.List.{AllPass}
use Rattle.std.proofs.lemmas.Bool.{and_parts, cases_lt}
use Rattle.std.proofs.lemmas.List.Elements.{All-cons, All-nil}
use Rattle.std.proofs.lemmas.Nat.{from_be_bytes-to_be_bytes_8}
use Rattle.hex.specs.Hex.{IsBytes, encode_lower, encode_with, lower_digits, decode_sized}
use Rattle.hex.proofs.HexLemmas.{length-encode_with, decode_sized-encode_lower}
use Rattle.lake_base.specs.Names.{is_hex}
use Rattle.folder_blocks.specs.ObjectNames.{object_name}

-- the eight bytes of a number are bytes
pub are_bytes : (number : ℕ) → IsBytes (to_be_bytes w64 number)
are_bytes number zero = omega arith
are_bytes number (suc zero) = omega arith
are_bytes number (suc (suc zero)) = omega arith
are_bytes number (suc (suc (suc zero))) = omega arith
are_bytes number (suc (suc (suc (suc zero)))) = omega arith
are_bytes number (suc (suc (suc (suc (suc zero))))) = omega arith
are_bytes number (suc (suc (suc (suc (suc (suc zero)))))) = omega arith
are_bytes number (suc (suc (suc (suc (suc (suc (suc zero))))))) = omega arith
are_bytes number (suc (suc (suc (suc (suc (suc (suc (suc k)))))))) = omega arith

-- a name decodes to the bytes of its number
pub decodes : (number : ℕ) → decode_sized (object_name number) 8 ≡ Ok (to_be_bytes w64 number)
decodes number = decode_sized-encode_lower (to_be_bytes w64 number) 8 refl (are_bytes number)

-- what a name decodes to is its number
pub decoded : (number : ℕ) (bytes : List ℕ) → number < 2 ^ 64 → decode_sized (object_name number) 8 ≡ Ok bytes → from_be_bytes w64 bytes ≡ number
decoded number bytes fits is =
    let same : to_be_bytes w64 number ≡ bytes = let e = sym (decodes number) ∙ is in cc in
    ap (from_be_bytes w64) (sym same) ∙ from_be_bytes-to_be_bytes_8 number fits

-- two numbers with one name are the same
pub apart : (a b : ℕ) → a < 2 ^ 64 → b < 2 ^ 64 → object_name a ≡ object_name b → a ≡ b
apart a b below_a below_b same =
    let read : decode_sized (object_name b) 8 ≡ Ok (to_be_bytes w64 a) = ap (λ name. decode_sized name 8) (sym same) ∙ decodes a in
    sym (from_be_bytes-to_be_bytes_8 a below_a) ∙ decoded b (to_be_bytes w64 a) below_b read

pub long : (number : ℕ) → length (object_name number) ≡ 16
long number = length-encode_with lower_digits (to_be_bytes w64 number)

-- the test of the first digits, which computes
abbrev all_hex : ℕ → Bool
all_hex zero = true
all_hex (suc n) = is_hex (slice_index lower_digits n) && all_hex n

all_hex-at : (n k : ℕ) → all_hex n ≡ true → k < n → is_hex (slice_index lower_digits k) ≡ true
all_hex-at zero k h lt = absurd (omega arith)
all_hex-at (suc n) k h lt =
    let parts = and_parts (is_hex (slice_index lower_digits n)) (all_hex n) h in
    elim (cases_lt k n) [
      | inl below ↦ all_hex-at n k parts.1 below
      | inr top ↦
          let e : k ≡ n = omega arith in
          rw e parts.0
    ]

abbrev IsHexDigit : ℕ → Type 0
IsHexDigit c = is_hex c ≡ true

digits_of : (bytes : List ℕ) → IsBytes bytes → AllPass is_hex (encode_lower bytes)
unfolding encode_with
digits_of [] h = All-nil IsHexDigit
digits_of (b ∷ rest) h =
    let fits : b < 256 = h 0 in
    let high : b / 16 < 16 = omega arith in
    let low : b % 16 < 16 = omega arith in
    let first = slice_index lower_digits (b / 16) in
    let second = slice_index lower_digits (b % 16) in
    All-cons IsHexDigit first (second ∷ encode_lower rest) (all_hex-at 16 (b / 16) refl high)
    (All-cons IsHexDigit second (encode_lower rest) (all_hex-at 16 (b % 16) refl low) (digits_of rest (λ k. h (suc k))))

pub digits : (number : ℕ) → AllPass is_hex (object_name number)
digits number = digits_of (to_be_bytes w64 number) (are_bytes number)
