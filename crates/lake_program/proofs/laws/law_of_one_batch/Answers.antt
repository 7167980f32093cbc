use Rattle.lake_program.proofs.OneBatchLemmas.{one_batch}
use Rattle.lake_program.proofs.laws.law_of_one_batch.Goals as goal

pub returns : goal.returns
returns c = one_batch
