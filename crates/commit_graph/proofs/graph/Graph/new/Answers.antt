use Rattle.commit_graph.proofs.GraphLemmas.{sound_empty}
use Rattle.commit_graph.proofs.graph.Graph.new.Goals as goal

pub invariant_of-result : goal.invariant_of-result
invariant_of-result c = sound_empty c.new.result.entries c.new.ensures.empty
