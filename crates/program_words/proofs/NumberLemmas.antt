-- What a text of digits is read as.
use Rattle.std.proofs.Common.{◌≡◌, ◌<◌, ℕ, List, Some, None, Result, Ok, Err, Bool, true, false, cond, length, rules, refl, ap, ◌∙◌, ◌^◌}
use Rattle.std.proofs.lemmas.Bool.{lt-ltb}
use Rattle.std.proofs.lemmas.Bool.Decides.{Decides-ltb}
use Rattle.std.proofs.lemmas.Str.Parse.{IsNumeralModel, numerals_by_fold, parse_digits}
use Rattle.std.specs.Char.{is_ascii_digit}
use Rattle.std.specs.List.{list_all}
use Rattle.std.specs.Prelude.{nat_lt}
use Rattle.std.specs.Result.{OkIff, result_ok}
use Rattle.std.specs.Str.Parse.{ParsesUnsigned}
use Rattle.program_words.specs.ProgramWords.{number_after, value_in}

-- the digits and their number, as a number's text is read
pub own : IsNumeralModel (λ (ds : List ℕ). list_all is_ascii_digit ds ≡ true) (number_after 0)
own = numerals_by_fold _ (search rules) number_after (search rules)

told : (test : Bool) (value : ℕ) → test ≡ true → Some value ≡ cond test (Some value) None
told true value is = refl
told false value is = absurd cc

untold : (test : Bool) (value : ℕ) → (test ≡ true → ⊥) → None ≡ cond test (Some value) None
untold true value not = absurd (not refl)
untold false value not = refl

-- the number of digits, where it has at most 64 bits
pub as_parsed : {E : Type 0} (text : List ℕ) (r : Result ℕ E) → ParsesUnsigned 64 10 text r → list_all is_ascii_digit text ≡ true → 0 < length text
    → result_ok r ≡ value_in text
as_parsed {E} text r parses digits some = by r (parse_digits own 64 text r parses digits)
  where
    by : (r : Result ℕ E) → OkIff r ((0 < length text) × (number_after 0 text < 2 ^ 64)) (number_after 0 text) → result_ok r ≡ value_in text
    by (Ok x) is = ap Some is.1 ∙ told (nat_lt (number_after 0 text) (2 ^ 64)) (number_after 0 text) (lt-ltb (number_after 0 text) (2 ^ 64) is.0.1)
    by (Err e) fails =
        untold (nat_lt (number_after 0 text) (2 ^ 64)) (number_after 0 text)
        (λ is. fails (some, (Decides-ltb (number_after 0 text) (2 ^ 64)).0 is))
