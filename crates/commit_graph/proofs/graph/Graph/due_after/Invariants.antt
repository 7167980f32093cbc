use Rattle.std.proofs.Common.{◌≡◌, ◌≤◌, drop}
use Rattle.std.specs.Prelude.{max}
use Rattle.lake_values.specs.Ancestry.{due_generation}
use Rattle.commit_graph.proofs.graph.Graph.due_after.Given as goal

-- the greatest of what is due so far and what is due after the parents that are left
abbrev pub invariant-loop-parent : goal.invariant-loop-parent
invariant-loop-parent l = record {
  some : 1 ≤ l.due;
  left : due_generation l.self l.parents ≡ max l.due (due_generation l.self (drop l.parent-index l.parents));
}
