use Rattle.std.proofs.Common.{◌≡◌, drop}
use Rattle.commit_graph.specs.Moves.{moves_target}
use Rattle.commit_graph.proofs.graph.Graph.resolve.Given as goal

-- the moves that are left lead where all do
abbrev pub invariant-loop-number : goal.invariant-loop-number
invariant-loop-number l = moves_target l.self l.number l.at (drop l.number l.moves) ≡ moves_target l.self 0 l.from l.moves
