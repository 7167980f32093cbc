use Rattle.lake_laws.proofs.SealedFateLemmas.{uncommitted_stays, uncommitted_stays_some, sealed_stays, sealed_stays_over, sealed_stays_some}
use Rattle.lake_laws.proofs.SealedFateLemmas.{staged_stays, goes_into_commit, goes_into_commit_sealed, goes_into_commit_some}
use Rattle.lake_laws.proofs.sealed_paths.law_of_sealed_paths.Goals as goal

pub returns-clause-uncommitted : goal.returns-clause-uncommitted
returns-clause-uncommitted c state entries repo branch path change legal = uncommitted_stays repo branch path change state entries legal

pub returns-clause-uncommitted_written : goal.returns-clause-uncommitted_written
returns-clause-uncommitted_written c state entries repo branch path legal = uncommitted_stays_some repo branch path state entries legal

pub returns-clause-sealed : goal.returns-clause-sealed
returns-clause-sealed c state entries repo branch path change legal = sealed_stays repo branch path change state entries legal

pub returns-clause-sealed_over : goal.returns-clause-sealed_over
returns-clause-sealed_over c state entries repo branch path change legal = sealed_stays_over repo branch path change state entries legal

pub returns-clause-sealed_written : goal.returns-clause-sealed_written
returns-clause-sealed_written c state entries repo branch path legal = sealed_stays_some repo branch path state entries legal

pub returns-clause-goes_in : goal.returns-clause-goes_in
returns-clause-goes_in c state entries between meanwhile repo branch path change sealer committer why about =
    goes_into_commit repo branch path change state entries between meanwhile sealer committer why about

pub returns-clause-goes_in_written : goal.returns-clause-goes_in_written
returns-clause-goes_in_written c state entries between meanwhile repo branch path sealer committer why about =
    goes_into_commit_some repo branch path state entries between meanwhile sealer committer why about

pub returns-clause-staged : goal.returns-clause-staged
returns-clause-staged c state entries repo branch path change legal = staged_stays repo branch path change state entries legal

pub returns-clause-goes_in_sealed : goal.returns-clause-goes_in_sealed
returns-clause-goes_in_sealed c state entries between meanwhile repo branch path change sealer committer why about =
    goes_into_commit_sealed repo branch path change state entries between meanwhile sealer committer why about
