use Rattle.std.proofs.Common.{◌≡◌, ◌<◌, Some}
use Rattle.lake_values.specs.Ancestry.{generation, back, walk_within}
use Rattle.commit_graph.proofs.graph.Graph.first_parents.Given as goal

-- the walk so far, and where it stands
abbrev pub invariant-loop : goal.invariant-loop
invariant-loop l = record {
  so_far : l.ids.items ≡ walk_within l.counter l.self l.from;
  stands : l.counter < generation l.self l.from → back l.self l.counter l.from ≡ Some l.at;
}
