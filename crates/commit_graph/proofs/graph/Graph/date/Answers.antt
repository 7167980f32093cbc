use Rattle.std.proofs.Common.{ap, ◌∙◌}
use Rattle.lake_values.specs.Commit.{CommitRecordValue}
use Rattle.lake_values.proofs.AncestryLemmas.{date_some, date_none}
use Rattle.commit_graph.proofs.graph.Graph.date.Goals as goal

pub returns-in-Some : goal.returns-in-Some
returns-in-Some c =
    ap (λ (x : CommitRecordValue). x.date) c.commit.view_is ∙ date_some c.args.self.now c.args.id.now c.in-Some.commit.now c.in-Some.ensures.found

pub returns-in-None : goal.returns-in-None
returns-in-None c = date_none c.args.self.now c.args.id.now c.in-None.ensures.found
