-- How many lines the generator has.
use Rattle.std.proofs.Common.{◌<◌, ◌≤◌, ◌+◌, ◌*◌, ◌^◌, ◌%◌, ◌==◌, ℕ, zero, suc, Bool, true, false, [], ◌∷◌, length, length-append, arith}
use Rattle.std.specs.Prelude.{◌||◌, if◌then◌else◌}
use Rattle.lake_base.specs.Outside.{last_count}
use Rattle.lake_generator.specs.GeneratedLines.{commit_lines, commits_at, generated_lines, lines_to, merge_line, number_at, upload_line}

few_commits : (objects i : ℕ) → length (commit_lines objects i) ≤ 2
few_commits objects i = by (i % 1000 == 0 || i == objects)
  where
    by : (due : Bool) → length (if due then commits_at i else []) ≤ 2
    by true = omega arith
    by false = omega arith

-- an upload has at most two commits behind it
few_to : (first objects i : ℕ) → length (lines_to first objects i) ≤ 3 * i + 1
unfolding lines_to
few_to first objects zero = omega arith
few_to first objects (suc i) =
    omega (
      arith,
      few_to first objects i,
      few_commits objects (suc i),
      length-append (lines_to first objects i) (upload_line (number_at first (suc i)) ∷ commit_lines objects (suc i)),
    )

-- A clock that was read once before can count a reading of each.
pub few_generated : (first objects : ℕ) → objects < 2 ^ 32 → length (generated_lines first objects) + 1 < last_count
few_generated first objects small =
    omega (arith, small, few_to first objects objects, length-append (lines_to first objects objects) (merge_line ∷ []))
