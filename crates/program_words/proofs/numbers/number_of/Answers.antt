use Rattle.std.proofs.Common.{◌≡◌, ℕ, List, Result, Ok, length, ◌≤◌, ◌<◌, arith, true}
use Rattle.std.proofs.lemmas.Bool.Decides.{nat_tests}
use Rattle.std.proofs.lemmas.Str.Parse.{parse_gives, digits_value_short}
use Rattle.std.specs.Char.{is_ascii_digit}
use Rattle.std.specs.List.{list_all}
use Rattle.std.specs.Str.Parse.{ParsesUnsigned}
use Rattle.program_words.specs.ProgramWords.{is_number, number_after}
use Rattle.program_words.proofs.NumberLemmas.{own}
use Rattle.program_words.proofs.numbers.number_of.Goals as goal

digits_all : (text : List ℕ) → is_number text ≡ true → list_all is_ascii_digit text ≡ true
digits_all text is = grind (arith, nat_tests)

short : (text : List ℕ) → is_number text ≡ true → (0 < length text) × (length text ≤ 19)
short text is = (grind (arith, nat_tests), grind (arith, nat_tests))

parsed : {E : Type 0} (text : List ℕ) (r : Result ℕ E) → ParsesUnsigned 64 10 text r → is_number text ≡ true → r ≡ Ok (number_after 0 text)
parsed text r parses is =
    parse_gives own 64 text r parses (digits_all text is) ((short text is).0)
    (omega (arith, digits_value_short own text 19 (digits_all text is) ((short text is).1)))

pub unreachable-requires : goal.unreachable-requires
unreachable-requires c = let is = parsed c.args.digits.now c.parse.result c.parse.ensures.value.0 c.requires in cc (is, c.in-Err.is)

pub returns : goal.returns
returns c = let is = parsed c.args.digits.now c.parse.result c.parse.ensures.value.0 c.requires in cc (is, c.in-Ok.is)
