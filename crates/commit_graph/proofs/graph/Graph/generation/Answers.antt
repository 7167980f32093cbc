use Rattle.std.proofs.Common.{ap, ◌∙◌}
use Rattle.lake_values.specs.Commit.{CommitRecordValue}
use Rattle.lake_values.proofs.AncestryLemmas.{generation_some, generation_none}
use Rattle.commit_graph.proofs.graph.Graph.generation.Goals as goal

pub returns-in-Some-clause-generation : goal.returns-in-Some-clause-generation
returns-in-Some-clause-generation c =
    ap (λ (x : CommitRecordValue). x.generation) c.commit.view_is ∙ generation_some c.args.self.now c.args.id.now c.in-Some.commit.now c.in-Some.ensures.found

pub returns-in-None-clause-generation : goal.returns-in-None-clause-generation
returns-in-None-clause-generation c = generation_none c.args.self.now c.args.id.now c.in-None.ensures.found
