use Rattle.std.proofs.Common.{◌≡◌, ◌≤◌, ◌+◌, ◌*◌, length, take}
use Rattle.std.specs.List.{flat_map}
use Rattle.lake_format.specs.Spelling.{pair_spelling}
use Rattle.lake_format.proofs.fields.pairs_len.Given as goal

-- the pairs so far are counted, and each has few bytes
abbrev pub invariant-loop-key : goal.invariant-loop-key
invariant-loop-key l = record {
  counted : l.len ≡ 2 + length (flat_map pair_spelling (take l.key-index l.pairs-2));
  few : l.len ≤ 2 + 1156 * l.key-index;
}
