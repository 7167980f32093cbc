use Rattle.law_examples.proofs.ConflictLemmas.{conflict_allowed, conflict_refused}
use Rattle.law_examples.proofs.committing.pick_in_conflict.Goals as goal

pub returns-clause-allowed : goal.returns-clause-allowed
returns-clause-allowed c cut about other third three = conflict_allowed cut about other three third

pub returns-clause-refused : goal.returns-clause-refused
returns-clause-refused c cut about other third three = conflict_refused cut about other three third
