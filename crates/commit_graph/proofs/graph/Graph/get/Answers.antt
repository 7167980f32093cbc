use Rattle.std.proofs.Common.{◌∙◌, sym}
use Rattle.commit_graph.proofs.GraphLemmas.{commit_from}
use Rattle.commit_graph.proofs.graph.Graph.get.Goals as goal

pub returns-clause-found : goal.returns-clause-found
returns-clause-found c = rw (← c.self.view_is) (c.get.ensures.value ∙ sym (commit_from c.self.inside.commits.entries c.args.id.now))
