use Rattle.std.proofs.Common.{◌≡◌, Some}
use Rattle.lake_values.specs.Ancestry.{back}
use Rattle.commit_graph.proofs.graph.Graph.back.Given as goal

-- it stands so many steps back
abbrev pub invariant-loop : goal.invariant-loop
invariant-loop l = back l.self l.counter l.id ≡ Some l.at
