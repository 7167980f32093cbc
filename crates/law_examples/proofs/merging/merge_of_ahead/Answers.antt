use Rattle.law_examples.proofs.AheadLemmas.{ahead_allowed, ahead_parents}
use Rattle.law_examples.proofs.merging.merge_of_ahead.Goals as goal

pub returns-clause-allowed : goal.returns-clause-allowed
returns-clause-allowed c = ahead_allowed

pub returns-clause-parents : goal.returns-clause-parents
returns-clause-parents c = ahead_parents
