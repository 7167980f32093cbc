use Rattle.std.proofs.Common.{◌≡◌, ◌-◌, None}
use Rattle.lake_format.specs.Reading.{last_key, read_pairs}
use Rattle.lake_format.proofs.MetadataLemmas.{with_front}
use Rattle.lake_format.proofs.fields.read_pairs.Given as goal

-- the pairs so far, and those still read, are all
abbrev pub invariant-loop : goal.invariant-loop
invariant-loop l = with_front l.pairs.items (read_pairs (l.count - l.counter) (last_key l.pairs.items) l.rest) ≡ read_pairs l.count None l.bytes
