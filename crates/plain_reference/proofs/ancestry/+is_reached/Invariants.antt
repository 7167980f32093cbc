use Rattle.std.proofs.Common.{◌-◌}
use Rattle.std.specs.List.{AllWithin}
use Rattle.lake_values.specs.Ancestry.{graph_of, IsReachedWithin}
use Rattle.plain_reference.proofs.ancestry.+is_reached.Given as goal

-- the steps that are left
abbrev pub decreases-is_reached : goal.decreases-is_reached
decreases-is_reached l = l.steps

-- no parent so far leads there
abbrev pub invariant-loop-parent : goal.invariant-loop-parent
invariant-loop-parent l = AllWithin (λ parent. IsReachedWithin (graph_of l.commits) (l.steps - 1) l.old parent → ⊥) l.parent-items 0 l.parent-index
