use Rattle.law_examples.proofs.WritingLemmas.{ready_take, barred_take, ready_put, barred_put, ready_deletion, barred_deletion, copy_allowed, barred_copy}
use Rattle.law_examples.proofs.WritingLemmas.{ready_reset, barred_reset, ready_seal, barred_seal, ready_commit, barred_commit}
use Rattle.law_examples.proofs.writing.protected_branch.Goals as goal

pub returns-clause-allowed_take : goal.returns-clause-allowed_take
returns-clause-allowed_take c = ready_take

pub returns-clause-refused_take : goal.returns-clause-refused_take
returns-clause-refused_take c = barred_take

pub returns-clause-allowed_put : goal.returns-clause-allowed_put
returns-clause-allowed_put c = ready_put

pub returns-clause-refused_put : goal.returns-clause-refused_put
returns-clause-refused_put c = barred_put

pub returns-clause-allowed_deletion : goal.returns-clause-allowed_deletion
returns-clause-allowed_deletion c = ready_deletion

pub returns-clause-refused_deletion : goal.returns-clause-refused_deletion
returns-clause-refused_deletion c = barred_deletion

pub returns-clause-allowed_copy : goal.returns-clause-allowed_copy
returns-clause-allowed_copy c = copy_allowed

pub returns-clause-refused_copy : goal.returns-clause-refused_copy
returns-clause-refused_copy c = barred_copy

pub returns-clause-allowed_reset : goal.returns-clause-allowed_reset
returns-clause-allowed_reset c = ready_reset

pub returns-clause-refused_reset : goal.returns-clause-refused_reset
returns-clause-refused_reset c = barred_reset

pub returns-clause-allowed_seal : goal.returns-clause-allowed_seal
returns-clause-allowed_seal c = ready_seal

pub returns-clause-refused_seal : goal.returns-clause-refused_seal
returns-clause-refused_seal c = barred_seal

pub returns-clause-allowed_commit : goal.returns-clause-allowed_commit
returns-clause-allowed_commit c = ready_commit

pub returns-clause-refused_commit : goal.returns-clause-refused_commit
returns-clause-refused_commit c = barred_commit
