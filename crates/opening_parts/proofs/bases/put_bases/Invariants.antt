use Rattle.std.proofs.Common.{◌≡◌, ◌≤◌, drop, length}
use Rattle.core_state.specs.LakeStates.{lake_value}
use Rattle.opening_parts.specs.Fillings.{from_last, with_base}
use Rattle.opening_parts.proofs.bases.put_bases.Given as goal

-- the things from this place on were put
abbrev pub invariant-loop-left : goal.invariant-loop-left
invariant-loop-left l = record {
  within : l.left ≤ length l.things;
  same : lake_value l.lake ≡ from_last with_base (drop l.left l.things) (lake_value l.fn.lake);
}

abbrev pub decreases-loop-left : goal.decreases-loop-left
decreases-loop-left l = l.left
