use Rattle.std.proofs.Common.{◌≡◌, ℕ, ◌<◌, false, drop, length}
use Rattle.lake_values.specs.HookDecisions.{matches}
use Rattle.plain_reference.proofs.hooks.+matches.Given as goal

-- the pattern that is left
abbrev pub decreases-matches : goal.decreases-matches
decreases-matches l = length l.pattern.now

-- after no fewer bytes does the rest of the pattern match
abbrev pub invariant-loop-skipped : goal.invariant-loop-skipped
invariant-loop-skipped l = (k : ℕ) → k < l.skipped → matches l.rest (drop k l.name) ≡ false
