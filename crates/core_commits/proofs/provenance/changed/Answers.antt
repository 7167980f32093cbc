use Rattle.core_state.specs.RepositoryStates.{repository_value}
use Rattle.core_commits.proofs.ProvenanceLemmas.{changes_over}
use Rattle.core_commits.proofs.provenance.changed.Goals as goal

pub returns-in-Some-clause-made : goal.returns-in-Some-clause-made
returns-in-Some-clause-made c =
    changes_over (repository_value c.args.repository.now) c.args.old.now c.in-Some.old.now c.args.changes.now c.in-Some.ensures
