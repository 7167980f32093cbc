-- The values that are left have of this name what all have.
use Rattle.std.proofs.Common.{◌≡◌, map, drop}
use Rattle.lakectl_verbs.specs.ReadWords.{value_seen, text_in}
use Rattle.lakectl_verbs.proofs.read.text_of.Given as goal

abbrev pub invariant-loop-value : goal.invariant-loop-value
invariant-loop-value l = text_in (map value_seen (drop l.value-index l.values)) l.name ≡ text_in (map value_seen l.fn.values) l.fn.name
