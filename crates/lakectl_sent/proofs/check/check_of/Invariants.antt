-- The values that are left have the first bad one.
use Rattle.std.proofs.Common.{◌≡◌, drop, map}
use Rattle.lakectl_verbs.specs.ReadWords.{value_seen}
use Rattle.lakectl_sent.specs.OptionValues.{first_bad}
use Rattle.lakectl_sent.proofs.check.check_of.Given as goal

abbrev pub invariant-loop-value : goal.invariant-loop-value
invariant-loop-value l = first_bad (map value_seen (drop l.value-index l.values)) ≡ first_bad (map value_seen l.fn.values)
