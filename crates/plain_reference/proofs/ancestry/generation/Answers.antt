use Rattle.std.proofs.Common.{ap, ◌∙◌}
use Rattle.lake_values.specs.Ancestry.{graph_of}
use Rattle.lake_values.specs.Commit.{CommitRecordValue}
use Rattle.lake_values.proofs.AncestryLemmas.{generation_some, generation_none}
use Rattle.plain_reference.proofs.ancestry.generation.Goals as goal

pub returns-in-Some : goal.returns-in-Some
returns-in-Some c = ap (λ (x : CommitRecordValue). x.generation) c.commit.view_is
    ∙ generation_some (graph_of c.args.commits.now) c.args.id.now c.in-Some.commit.now c.in-Some.ensures

pub returns-in-None : goal.returns-in-None
returns-in-None c = generation_none (graph_of c.args.commits.now) c.args.id.now c.in-None.ensures
