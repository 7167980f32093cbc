use Rattle.std.proofs.Common.{◌≡◌, ◌≤◌, ℕ, drop, length}
use Rattle.std.specs.BTreeMap.{get as tree_get}
use Rattle.std.specs.Ordering.{nat_cmp}
use Rattle.core_state.specs.LakeStates.{lake_value}
use Rattle.opening_parts.specs.Fillings.{from_last, holder_with, with_branch_of}
use Rattle.opening_parts.proofs.branches.put_branches.Given as goal

-- the things from this place on were put, and are told of
abbrev pub invariant-loop-left : goal.invariant-loop-left
invariant-loop-left l = record {
  within : l.left ≤ length l.things;
  same : lake_value l.lake ≡ from_last with_branch_of (drop l.left l.things) (lake_value l.fn.lake);
  told : (token : ℕ) → tree_get nat_cmp l.holders token ≡ from_last (holder_with token) (drop l.left l.things) (tree_get nat_cmp l.fn.holders token);
}

abbrev pub decreases-loop-left : goal.decreases-loop-left
decreases-loop-left l = l.left
