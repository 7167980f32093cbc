use Rattle.std.proofs.Common.{◌≡◌, ◌≤◌, drop}
use Rattle.std.specs.Prelude.{max}
use Rattle.lake_values.specs.Ancestry.{graph_of, due_generation}
use Rattle.plain_reference.proofs.ancestry.due_after.Given as goal

-- the greatest of what is due so far and what is due after the parents that are left
abbrev pub invariant-loop-parent : goal.invariant-loop-parent
invariant-loop-parent l = record {
  some : 1 ≤ l.due;
  left : due_generation (graph_of l.commits) l.parents ≡ max l.due (due_generation (graph_of l.commits) (drop l.parent-index l.parents));
}
