use Rattle.std.proofs.Common.{◌≡◌, drop}
use Rattle.commit_graph.specs.Adding.{missing_parent}
use Rattle.commit_graph.proofs.graph.Graph.test_parents.Given as goal

-- those so far are there
abbrev pub invariant-loop-parent : goal.invariant-loop-parent
invariant-loop-parent l = missing_parent l.self (drop l.parent-index l.parents) ≡ missing_parent l.self l.parents
