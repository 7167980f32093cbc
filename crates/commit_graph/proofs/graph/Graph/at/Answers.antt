use Rattle.std.proofs.lemmas.Iterator.Consumers.{YieldsList-from_rest, nth_from_yields_List}
use Rattle.std.specs.Map.Iter.{deref_pair}
use Rattle.commit_graph.proofs.GraphLemmas.{at_from}
use Rattle.commit_graph.proofs.graph.Graph.at.Goals as goal

pub returns-clause-found : goal.returns-clause-found
returns-clause-found c =
    let es = c.self.inside.commits.entries in
    rw (← c.self.view_is) (at_from es c.args.place c.nth.result c.iter.ensures.ordered
    (nth_from_yields_List c.nth.result c.nth.new.self c.args.place c.nth.ensures.ran (YieldsList-from_rest {shows = deref_pair} es c.iter.ensures.rest)))
