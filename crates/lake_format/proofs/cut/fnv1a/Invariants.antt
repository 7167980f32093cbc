use Rattle.std.proofs.Common.{◌≡◌, drop}
use Rattle.lake_format.specs.Cutting.{fnv_from}
use Rattle.lake_format.proofs.cut.fnv1a.Given as goal

-- the rest of the bytes gives the whole sum
abbrev pub invariant-loop-byte : goal.invariant-loop-byte
invariant-loop-byte l = fnv_from l.sum (drop l.byte-index l.bytes) ≡ fnv_from 14695981039346656037 l.bytes
