use Rattle.std.proofs.Common.{refl}
use Rattle.lake_model.specs.Uncommitted.{put_number}
use Rattle.core_changes.specs.LakeChanges.{after_branch_create, after_branch_delete, after_copy, after_fault, after_note_set, after_reset, after_seal}
use Rattle.core_changes.specs.LakeChanges.{after_tag_create, after_tag_delete, after_ticket_drop, after_ticket_take}
use Rattle.core_changes.proofs.IndexLemmas.{index_changed, index_stays, index_ticketed}
use Rattle.core_changes.proofs.NewIndexLemmas.{index_made}
use Rattle.core_changes.proofs.laws.laws_of_indexes.Goals as goal

pub returns-clause-ticket_take : goal.returns-clause-ticket_take
returns-clause-ticket_take c l seat has = index_stays l (after_ticket_take seat l) refl has

pub returns-clause-ticket_drop : goal.returns-clause-ticket_drop
returns-clause-ticket_drop c l number has = index_stays l (after_ticket_drop number l) refl has

pub returns-clause-stage : goal.returns-clause-stage
returns-clause-stage c l repo branch path change has = index_ticketed l repo branch path change (put_number change) has

pub returns-clause-copy : goal.returns-clause-copy
returns-clause-copy c l repo branch path entry has = index_changed l (after_copy repo branch path entry l) repo _ (λ r. refl) has

pub returns-clause-reset : goal.returns-clause-reset
returns-clause-reset c l repo branch what has = index_changed l (after_reset repo branch what l) repo _ (λ r. refl) has

pub returns-clause-seal : goal.returns-clause-seal
returns-clause-seal c l repo branch has = index_changed l (after_seal repo branch l) repo _ (λ r. refl) has

pub returns-clause-branch_create : goal.returns-clause-branch_create
returns-clause-branch_create c l repo branch commit has = index_changed l (after_branch_create repo branch commit l) repo _ (λ r. refl) has

pub returns-clause-branch_delete : goal.returns-clause-branch_delete
returns-clause-branch_delete c l repo branch has = index_changed l (after_branch_delete repo branch l) repo _ (λ r. refl) has

pub returns-clause-tag_create : goal.returns-clause-tag_create
returns-clause-tag_create c l repo tag commit has = index_changed l (after_tag_create repo tag commit l) repo _ (λ r. refl) has

pub returns-clause-tag_delete : goal.returns-clause-tag_delete
returns-clause-tag_delete c l repo tag has = index_changed l (after_tag_delete repo tag l) repo _ (λ r. refl) has

pub returns-clause-note_set : goal.returns-clause-note_set
returns-clause-note_set c l repo name note has = index_changed l (after_note_set repo name note l) repo _ (λ r. refl) has

pub returns-clause-fault : goal.returns-clause-fault
returns-clause-fault c l has = index_stays l (after_fault l) refl has

pub returns-clause-repository_create : goal.returns-clause-repository_create
returns-clause-repository_create c l repo branch date has sound unused admissible =
    index_made l repo branch date (record { index = has; sound = sound; unused = unused; admissible = admissible })
