use Rattle.commit_laws.proofs.NewestFateLemmas.{newest_goes_in, newest_sealed, newest_stays}
use Rattle.commit_laws.proofs.written_paths.law_of_written_paths.Goals as goal

pub returns-clause-stays : goal.returns-clause-stays
returns-clause-stays c state entries repo branch path change = newest_stays repo branch path change state entries

pub returns-clause-seals : goal.returns-clause-seals
returns-clause-seals c state between repo branch path change sealer why = newest_sealed repo branch path change state between sealer why

pub returns-clause-goes_in : goal.returns-clause-goes_in
returns-clause-goes_in c state entries between meanwhile repo branch path change sealer maker why kind about =
    newest_goes_in repo branch path change state entries between meanwhile sealer maker why kind about
