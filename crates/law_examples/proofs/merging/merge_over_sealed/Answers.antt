use Rattle.law_examples.proofs.RefusedLemmas.{over_same, over_sealed}
use Rattle.law_examples.proofs.merging.merge_over_sealed.Goals as goal

pub returns-clause-allowed : goal.returns-clause-allowed
returns-clause-allowed c = over_same

pub returns-clause-refused : goal.returns-clause-refused
returns-clause-refused c = over_sealed
