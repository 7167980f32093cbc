use Rattle.std.proofs.Common.{ap, sym, ◌∙◌}
use Rattle.commit_graph.proofs.GraphLemmas.{entries_from, keyed}
use Rattle.commit_graph.proofs.graph.Graph.iter.Goals as goal

pub returns-clause-all : goal.returns-clause-all
returns-clause-all c =
    let es = c.self.inside.commits.entries in
    rw (← c.self.view_is) (ap keyed c.iter.ensures.rest ∙ sym (entries_from es c.iter.ensures.ordered))
