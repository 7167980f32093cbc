use Rattle.std.proofs.Common.{◌≡◌, ◌++◌, drop}
use Rattle.lake_model.specs.Readings.{commits_in}
use Rattle.core_state.specs.RepositoryStates.{repository_of, repository_value}
use Rattle.core_readings.proofs.logs.commits_of.Given as goal

abbrev pub invariant-loop-id : goal.invariant-loop-id
invariant-loop-id l =
    l.commits.items ++ commits_in (repository_of (repository_value l.repository)) (drop l.id-index l.ids)
    ≡ commits_in (repository_of (repository_value l.repository)) l.ids
