-- How many lines a batch has.
use Rattle.std.proofs.Common.{◌≡◌, ◌<◌, ◌≤◌, ◌+◌, ◌-◌, ◌^◌, ◌==◌, ℕ, Bool, true, false, List, [], ◌∷◌, ◌++◌, length, take, refl, ap, length-append, arith}
use Rattle.std.specs.Prelude.{nat_le, if◌then◌else◌}
use Rattle.std.proofs.lemmas.List.{length-map, length-take}
use Rattle.std.proofs.lemmas.List.Splits.{length-slice_split}
use Rattle.std.proofs.lemmas.List.Sums.{count_by-le-length}
use Rattle.std.specs.Str.Lines.{lines, lines_of_parts, strip_carriage_return}
use Rattle.lake_base.specs.Outside.{last_count}
use Rattle.batch_lines.proofs.ClosingLemmas.{tested_within}
use Rattle.batch_lines.specs.Lines.{batch_lines, ended_lines, parts}

-- no more than the bytes, and one
few_parts : (bytes : List ℕ) → length (parts bytes) ≤ length bytes + 1
few_parts bytes = omega (arith, length-slice_split (λ b. b == 10) bytes, count_by-le-length (λ b. b == 10) bytes)

ended_count : (bytes : List ℕ) → length (ended_lines bytes) ≤ length bytes
ended_count bytes =
    omega (
      arith,
      length-map (take (length (parts bytes) - 1) (parts bytes)) strip_carriage_return,
      length-take (length (parts bytes) - 1) (parts bytes),
      few_parts bytes,
    )

whole_step : (empty : Bool) (part : List ℕ) → length (if empty then [] else part ∷ []) ≤ 1
whole_step true part = omega arith
whole_step false part = omega arith

line_count : (all : List (List ℕ)) → length (lines_of_parts all) ≤ length all
line_count [] = omega arith
line_count (part ∷ []) = whole_step (length part == 0) part
line_count (part ∷ next ∷ more) = omega (arith, line_count (next ∷ more))

-- A batch has at most as many lines as its limit has bytes, and one.
pub few_lines : (limit : ℕ) (input : List ℕ) → length (batch_lines limit input) ≤ limit + 1
few_lines limit input = by (nat_le (length input) limit) refl
  where
    by : (within : Bool) → nat_le (length input) limit ≡ within
        → length (if within then lines input else ended_lines (take limit input)) ≤ limit + 1
    by true is =
        let short : length input ≤ limit = tested_within is in
        omega (arith, short, line_count (parts input), few_parts input)
    by false is = omega (arith, ended_count (take limit input), length-take limit input)

-- So a clock that was read once before can count a reading of each line.
pub few_served : (limit : ℕ) (input : List ℕ) (served unserved : List (List ℕ)) → served ++ unserved ≡ batch_lines limit input → limit < 2 ^ 63
    → length served + 1 < last_count
few_served limit input served unserved all small =
    omega (arith, small, length-append served unserved, ap length all, few_lines limit input)
