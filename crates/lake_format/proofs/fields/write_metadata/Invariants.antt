use Rattle.std.proofs.Common.{◌≡◌, ◌++◌, true, length, take, drop}
use Rattle.std.specs.Int.{w16, to_be_bytes}
use Rattle.std.specs.List.{flat_map, AllByRecursion}
use Rattle.std.specs.Str.{is_utf8}
use Rattle.lake_format.specs.Spelling.{pair_spelling}
use Rattle.lake_format.specs.Writing.{HasRoom, Appends}
use Rattle.lake_format.proofs.fields.write_metadata.Given as goal

-- the pairs so far are written, they are UTF-8, and there is room for the others
abbrev pub invariant-loop-key : goal.invariant-loop-key
invariant-loop-key l = record {
  written : Appends l.fn.out l.out (to_be_bytes w16 (length l.pairs-2) ++ flat_map pair_spelling (take l.key-index l.pairs-2));
  room : HasRoom l.out (length (flat_map pair_spelling (drop l.key-index l.pairs-2)));
  utf8 : AllByRecursion (λ pair. (is_utf8 pair.0 ≡ true) × (is_utf8 pair.1 ≡ true)) (take l.key-index l.pairs-2);
}
