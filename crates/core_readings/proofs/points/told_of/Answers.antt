use Rattle.std.proofs.Common.{ap, ◌∙◌}
use Rattle.lake_values.specs.Commit.{CommitRecordValue}
use Rattle.lake_values.proofs.AncestryLemmas.{parents_some, parents_none}
use Rattle.core_readings.proofs.points.told_of.Goals as goal

pub returns-in_ok-copy-in-Some-2-clause-parents : goal.returns-in_ok-copy-in-Some-2-clause-parents
returns-in_ok-copy-in-Some-2-clause-parents c =
    c.in_ok-copy-in-Some.ensures.equal ∙ ap (λ (commit : CommitRecordValue). commit.parents) c.commit.view_is
    ∙ parents_some c.args.repository.now.graph c.args.id.now _ c.in-Some.ensures.found

pub returns-in-None-clause-parents : goal.returns-in-None-clause-parents
returns-in-None-clause-parents c = c.of.ensures ∙ c.new.ensures.items ∙ parents_none c.args.repository.now.graph c.args.id.now c.in-None.ensures.found
