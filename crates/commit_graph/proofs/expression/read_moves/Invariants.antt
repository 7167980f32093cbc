use Rattle.std.proofs.Common.{length}
use Rattle.commit_graph.specs.Scanning.{IsScanned}
use Rattle.commit_graph.proofs.expression.read_moves.Given as goal

-- the moves so far are scanned
abbrev pub invariant-loop-rest : goal.invariant-loop-rest
invariant-loop-rest l = IsScanned l.bytes l.moves.items l.rest

abbrev pub decreases-loop-rest : goal.decreases-loop-rest
decreases-loop-rest l = length l.rest
