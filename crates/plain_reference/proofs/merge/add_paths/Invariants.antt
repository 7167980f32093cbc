use Rattle.std.proofs.Common.{◌≡◌, ◌||◌, ℕ, List, take}
use Rattle.std.specs.FinMap.{contains_key}
use Rattle.plain_reference.proofs.MergeLemmas.{among}
use Rattle.plain_reference.proofs.merge.add_paths.Given as goal

-- the paths at first, and those of the entries so far
abbrev pub invariant-loop-path : goal.invariant-loop-path
invariant-loop-path l = (q : List ℕ) → contains_key l.paths q ≡ (contains_key l.fn.paths q || among (take l.path-index l.path-items) q)
