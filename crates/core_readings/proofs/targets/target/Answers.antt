use Rattle.std.proofs.Common.{sym}
use Rattle.core_state.specs.RepositoryStates.{repository_of, repository_value}
use Rattle.core_readings.proofs.TargetLemmas.{name_there}
use Rattle.core_readings.proofs.targets.target.Goals as goal

pub resolve-requires-clause-there : goal.resolve-requires-clause-there
resolve-requires-clause-there c =
    name_there (repository_of (repository_value c.args.repository.now)) c.requires c.e.inside.name c.in-Some.id (sym c.in-Some.ensures)
