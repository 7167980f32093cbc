-- Numbers of 1 to 19 digits.
use Rattle.std.proofs.Common.{◌≡◌, ◌≤◌, ◌<◌, ◌+◌, ◌*◌, ◌^◌, ℕ, Bool, true, false, List, length, take, get_or, sym, ◌∙◌, arith, rules, true≢false, inl, inr}
use Rattle.std.specs.Char.{is_ascii_digit, digit_value}
use Rattle.std.specs.List.{list_all}
use Rattle.std.specs.Str.Parse.{digits_value}
use Rattle.std.proofs.lemmas.Bool.{cases_Bool}
use Rattle.std.proofs.lemmas.Bool.Decides.{nat_tests}
use Rattle.std.proofs.lemmas.List.Folds.{list_all_at}
use Rattle.std.proofs.lemmas.Int.Digits.{digits_value_more}
use Rattle.std.proofs.lemmas.Str.Parse.{IsNumeralModel, numerals_by_value, digits_value_short, digits_value-take-le}
use Rattle.lakectl_sent.specs.OptionValues.{is_number}

own : IsNumeralModel (λ (ds : List ℕ). list_all is_ascii_digit ds ≡ true) (digits_value 10)
own = numerals_by_value _ (search rules)

digits_all : (ds : List ℕ) → is_number ds ≡ true → list_all is_ascii_digit ds ≡ true
digits_all ds is = grind (arith, nat_tests)

short : (ds : List ℕ) → is_number ds ≡ true → length ds ≤ 19
short ds is = grind (arith, nat_tests)

pub digit_at : (ds : List ℕ) (i : ℕ) → is_number ds ≡ true → i < length ds → is_ascii_digit (get_or ds i 0) ≡ true
digit_at ds i is h =
    elim (cases_Bool (is_ascii_digit (get_or ds i 0))) [
      | inl is_so ↦ is_so
      | inr not_so ↦ absurd (true≢false (sym (digits_all ds is) ∙ list_all_at is_ascii_digit ds i 0 h not_so))
    ]

-- the number so far and the next digit stay below the limit
pub number_fits : (ds : List ℕ) (i : ℕ) → is_number ds ≡ true → i < length ds → digits_value 10 (take i ds) * 10 + digit_value (get_or ds i 0) < 10 ^ 19
number_fits ds i is h =
    omega (
      arith,
      digits_value_more 10 ds i h,
      digits_value-take-le 10 ds (i + 1) (omega arith),
      digits_value_short own ds 19 (digits_all ds is)
          (short ds is),
    )

pub digit_is : (b : ℕ) → is_ascii_digit b ≡ true → (digit_value b + 48 ≡ b) × (48 ≤ b)
digit_is b is = (grind (arith, nat_tests), grind (arith, nat_tests))
