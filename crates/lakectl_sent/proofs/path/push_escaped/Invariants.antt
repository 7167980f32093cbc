-- The bytes so far, and those of the bytes that are left.
use Rattle.std.proofs.Common.{◌≡◌, ◌++◌, drop}
use Rattle.std.specs.List.{flat_map}
use Rattle.lakectl_sent.specs.SentMessages.{escaped_byte, escaped}
use Rattle.lakectl_sent.proofs.path.push_escaped.Given as goal

abbrev pub invariant-loop-byte : goal.invariant-loop-byte
invariant-loop-byte l = l.out.items ++ flat_map escaped_byte (drop l.byte-index l.segment) ≡ l.fn.out.items ++ escaped l.fn.segment
