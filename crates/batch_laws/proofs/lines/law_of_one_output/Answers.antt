use Rattle.batch_laws.proofs.OneRunLemmas.{only_run}
use Rattle.batch_laws.proofs.lines.law_of_one_output.Goals as goal

pub returns : goal.returns
returns c = only_run
