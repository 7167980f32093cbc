use Rattle.std.proofs.Common.{◌≡◌}
use Rattle.std.specs.Prelude.{is_some}
use Rattle.lake_values.specs.Ancestry.{commit_of}
use Rattle.commit_graph.specs.Graphs.{IsSound}
use Rattle.core_state.specs.LakeStates.{lake_value}
use Rattle.core_state.specs.RepositoryStates.{repository_value}
use Rattle.core_commits.proofs.ChangedLemmas.{told_nowhere, told_there}
use Rattle.core_commits.proofs.keeping.has_commit.Goals as goal

pub returns-in-Some-clause-there : goal.returns-in-Some-clause-there
unfolding lake_value
returns-in-Some-clause-there c =
    told_there repository_value c.args.lake.now.repositories c.args.repo.now (λ r. is_some (commit_of r.commits c.args.id.now) ≡ c.has_here.result)
    c.in-Some.place.now c.in-Some.ensures c.has_here.ensures.there

pub returns-in-Some-clause-valid : goal.returns-in-Some-clause-valid
unfolding lake_value
returns-in-Some-clause-valid c =
    told_there repository_value c.args.lake.now.repositories c.args.repo.now (λ r. IsSound r.commits)
    c.in-Some.place.now c.in-Some.ensures c.has_here.ensures.valid

pub returns-in-None-clause-there : goal.returns-in-None-clause-there
unfolding lake_value
returns-in-None-clause-there c r there =
    absurd (told_nowhere repository_value c.args.lake.now.repositories c.args.repo.now c.in-None.ensures r there)

pub returns-in-None-clause-valid : goal.returns-in-None-clause-valid
unfolding lake_value
returns-in-None-clause-valid c r there =
    absurd (told_nowhere repository_value c.args.lake.now.repositories c.args.repo.now c.in-None.ensures r there)
