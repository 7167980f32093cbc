-- The fields so far are those of the first places.
use Rattle.std.proofs.Common.{◌≡◌, take, map}
use Rattle.lakectl_words.specs.WireRequests.{with_value}
use Rattle.lakectl_words.proofs.filled.with_values.Given as goal

abbrev pub invariant-loop-field : goal.invariant-loop-field
invariant-loop-field l = l.filled.items ≡ map (with_value l.fn.name l.fn.value) (take l.field-index l.fields)
