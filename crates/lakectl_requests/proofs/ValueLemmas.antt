-- Values of fields that have no blanks at their ends.
use Rattle.std.proofs.Common.{◌≡◌, ◌≤◌, ◌<◌, ◌^◌, ℕ, Bool, true, false, not, List, [], ◌∷◌, length, reverse, Some, None, IsTrue, refl}
use Rattle.std.proofs.Common.{ap, ◌∙◌, arith, if◌then◌else◌}
use Rattle.std.specs.Char.{is_ascii_digit}
use Rattle.std.specs.Fmt.{decimal}
use Rattle.std.specs.List.{list_all}
use Rattle.std.specs.Str.Parse.{digits_value}
use Rattle.std.proofs.lemmas.Bool.Decides.{nat_tests}
use Rattle.std.proofs.lemmas.Fmt.{digits_decimal, digits_value-decimal, length-decimal-le, decimal_nonempty}
use Rattle.httparse.specs.Grammar.{AllPass, is_ows, is_value_byte, skip_ows, trim_ows}
use Rattle.httparse.proofs.TrimLemmas.{AllPass-reverse, trim_ows_space}
use Rattle.http_wire.specs.MessageFields.{is_length, stated_number}
use Rattle.http_wire.proofs.FieldLemmas.{own}
use Rattle.http_wire.proofs.LineLemmas.{all_from_test}
use Rattle.lakectl_verbs.specs.ReadWords.{is_visible}
use Rattle.lakectl_requests.specs.SentReadings.{IsFieldValue}

skip_none : (bs : List ℕ) → AllPass (λ b. not (is_ows b)) bs → skip_ows bs ≡ bs
skip_none [] all = refl
skip_none (b ∷ bs) all =
    let tested : not (is_ows b) ≡ true = all 0 0 (omega arith) in
    let other : is_ows b ≡ false = grind (arith, nat_tests, tested) in
    rw other refl

-- bytes without blanks are such a value
no_blanks : (bs : List ℕ) → AllPass is_value_byte bs → AllPass (λ b. not (is_ows b)) bs → IsFieldValue bs
unfolding trim_ows
no_blanks bs bytes all = record {
  bytes = bytes;
  ends = trim_ows_space bs (skip_none bs all) (skip_none (reverse bs) (AllPass-reverse (λ b. not (is_ows b)) bs all));
}

visible_value : (b : ℕ) → is_visible b ≡ true → is_value_byte b ≡ true
visible_value b is = grind (arith, nat_tests, is)

visible_no_blank : (b : ℕ) → is_visible b ≡ true → not (is_ows b) ≡ true
visible_no_blank b is = grind (arith, nat_tests, is)

-- visible bytes are
pub visible_plain : (bs : List ℕ) → list_all is_visible bs ≡ true → IsFieldValue bs
visible_plain bs all =
    no_blanks bs (all_from_test is_visible (λ b. IsTrue (is_value_byte b)) visible_value bs all)
    (all_from_test is_visible (λ b. IsTrue (not (is_ows b))) visible_no_blank bs all)

-- ---- numbers

digit_visible : (b : ℕ) → is_ascii_digit b ≡ true → is_value_byte b ≡ true
digit_visible b is = grind (arith, nat_tests, is)

digit_no_blank : (b : ℕ) → is_ascii_digit b ≡ true → not (is_ows b) ≡ true
digit_no_blank b is = grind (arith, nat_tests, is)

digits_all : (n : ℕ) → n < 10 ^ 19 → list_all is_ascii_digit (decimal n) ≡ true
digits_all n h = digits_decimal own n (omega (arith, h))

-- the digits of a number are
pub number_plain : (n : ℕ) → n < 10 ^ 19 → IsFieldValue (decimal n)
number_plain n h =
    no_blanks (decimal n) (all_from_test is_ascii_digit (λ b. IsTrue (is_value_byte b)) digit_visible (decimal n) (digits_all n h))
    (all_from_test is_ascii_digit (λ b. IsTrue (not (is_ows b))) digit_no_blank (decimal n) (digits_all n h))

-- and they state it
pub number_stated : (n : ℕ) → n < 10 ^ 19 → stated_number (decimal n) ≡ Some n
number_stated n h =
    let below : n < 2 ^ 64 = omega (arith, h) in
    let some : 0 < length (decimal n) = decimal_nonempty n below in
    let few : length (decimal n) ≤ 19 = length-decimal-le 19 n (omega arith) h below in
    let digits : list_all is_ascii_digit (decimal n) ≡ true = digits_all n h in
    let is : is_length (decimal n) ≡ true = grind (arith, nat_tests) in
    ap (λ (t : Bool). if t then Some (digits_value 10 (decimal n)) else None) is ∙ ap Some (digits_value-decimal own n below)
