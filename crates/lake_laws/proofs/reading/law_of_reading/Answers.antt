use Rattle.lake_laws.proofs.ReadingLemmas.{now_of-seal, now_of-commit}
use Rattle.lake_laws.proofs.reading.law_of_reading.Goals as goal

pub returns-clause-seal : goal.returns-clause-seal
returns-clause-seal c state by repo branch why r b = now_of-seal state by.seat repo branch why r b

pub returns-clause-commit : goal.returns-clause-commit
returns-clause-commit c state by repo branch about r b sound may = now_of-commit state by.seat repo branch about r b sound may.possible
