use Rattle.std.proofs.Common.{◌≡◌, ◌++◌, length, take}
use Rattle.std.specs.Int.{w16, to_be_bytes}
use Rattle.std.specs.List.{flat_map, AllByRecursion}
use Rattle.lake_format.specs.Spelling.{IsDigest}
use Rattle.plain_reference.proofs.files.put_parents.Given as goal

-- the parents so far are written, each of 32 bytes
abbrev pub invariant-loop-parent : goal.invariant-loop-parent
invariant-loop-parent l = record {
  written : l.out.items ≡ l.fn.out.items ++ (to_be_bytes w16 (length l.parents) ++ flat_map (λ parent. parent.0) (take l.parent-index l.parents));
  limits : AllByRecursion (λ parent. IsDigest parent.0) (take l.parent-index l.parents);
}
