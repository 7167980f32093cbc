use Rattle.lake_calls.proofs.DeterminedLemmas.{determined}
use Rattle.lake_calls.proofs.laws.law_of_one_value.Goals as goal

pub returns : goal.returns
returns c = determined
