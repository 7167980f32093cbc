use Rattle.std.proofs.Common.{◌+◌, length}
use Rattle.commit_graph.proofs.LogLemmas.{AreBoth}
use Rattle.commit_graph.proofs.graph.Graph.base.Given as goal

-- what the walks still have in common are the common ancestors
abbrev pub invariant-loop-x : goal.invariant-loop-x
invariant-loop-x l = AreBoth l.self l.a l.b l.left l.right

abbrev pub decreases-loop-x : goal.decreases-loop-x
decreases-loop-x l = length l.left + length l.right
