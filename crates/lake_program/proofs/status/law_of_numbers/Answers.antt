use Rattle.lake_program.proofs.StatusLemmas.{same_status}
use Rattle.lake_program.proofs.status.law_of_numbers.Goals as goal

pub returns : goal.returns
returns c = same_status
