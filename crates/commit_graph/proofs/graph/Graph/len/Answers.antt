use Rattle.std.proofs.Common.{◌∙◌, sym}
use Rattle.commit_graph.proofs.GraphLemmas.{len_from}
use Rattle.commit_graph.proofs.graph.Graph.len.Goals as goal

pub returns-clause-count : goal.returns-clause-count
returns-clause-count c = rw (← c.self.view_is) (c.len.ensures.len ∙ sym (len_from c.self.inside.commits.entries c.len.ensures.ordered))
