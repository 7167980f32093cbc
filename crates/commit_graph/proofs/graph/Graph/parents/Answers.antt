use Rattle.std.proofs.Common.{ap, ◌∙◌}
use Rattle.lake_values.specs.Commit.{CommitRecordValue}
use Rattle.lake_values.proofs.AncestryLemmas.{parents_some, parents_none}
use Rattle.commit_graph.proofs.graph.Graph.parents.Goals as goal

pub returns-in-Some : goal.returns-in-Some
returns-in-Some c = c.as_slice.ensures ∙ ap (λ (x : CommitRecordValue). x.parents) c.commit.view_is
    ∙ parents_some c.args.self.now c.args.id.now c.in-Some.commit.now c.in-Some.ensures.found

pub returns-in-None : goal.returns-in-None
returns-in-None c = parents_none c.args.self.now c.args.id.now c.in-None.ensures.found
