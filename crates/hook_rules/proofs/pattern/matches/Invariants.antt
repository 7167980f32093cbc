use Rattle.std.proofs.Common.{◌+◌, length}
use Rattle.hook_rules.specs.Matching.{plain_bytes, steps_left}
use Rattle.hook_rules.proofs.MatchingLemmas.{IsUnderWay}
use Rattle.hook_rules.proofs.pattern.matches.Given as goal

abbrev pub invariant-loop-byte : goal.invariant-loop-byte
invariant-loop-byte l = IsUnderWay l.pattern l.name l.walk

-- each star is met once, and stands for one byte more at a time
abbrev pub decreases-loop-byte : goal.decreases-loop-byte
decreases-loop-byte l = steps_left (plain_bytes l.pattern + 1) (length l.name) l.walk
