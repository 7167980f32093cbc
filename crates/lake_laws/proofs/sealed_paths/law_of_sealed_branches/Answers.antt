use Rattle.lake_laws.proofs.SealedPathLemmas.{commit_map, seal_all}
use Rattle.lake_laws.proofs.sealed_paths.law_of_sealed_branches.Goals as goal

pub returns-clause-seal : goal.returns-clause-seal
returns-clause-seal c state by repo branch why r b stands is = seal_all state by.seat repo branch r b stands is why

pub returns-clause-commit : goal.returns-clause-commit
returns-clause-commit c state by repo branch about r b may stands is = commit_map state by.seat repo branch r b stands is about may.possible
