use Rattle.lake_calls.proofs.NothingMetLemmas.{none_counted}
use Rattle.lake_calls.proofs.laws.law_of_counts.Goals as goal

pub returns : goal.returns
returns c = none_counted
