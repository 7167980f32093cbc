use Rattle.std.proofs.Common.{None, refl}
use Rattle.std.specs.FinMap.{insert, remove}
use Rattle.lake_values.specs.declared.entry.Change.TheVariants.{Put}
use Rattle.lake_model.specs.Parts.{changed_at}
use Rattle.lake_model.specs.Uncommitted.{put_number}
use Rattle.core_state.specs.BranchStates.{new_branch}
use Rattle.core_changes.specs.declared.branch.BranchChange.TheVariants as branch
use Rattle.core_changes.specs.BranchChanges.{branch_after}
use Rattle.core_changes.specs.LakeChanges.{after_branch_create, after_branch_delete, after_fault, after_reset, after_seal, after_tag_create, after_tag_delete}
use Rattle.core_changes.specs.LakeChanges.{after_ticket_drop, after_ticket_take}
use Rattle.reading_again.proofs.ReadablePartLemmas.{found_parts, fresh_parts, head_parts, note_parts, others_parts, same_parts, stage_parts}
use Rattle.reading_again.proofs.parts.laws_of_readable_parts.Goals as goal

pub returns-clause-fresh : goal.returns-clause-fresh
returns-clause-fresh c = fresh_parts

pub returns-clause-ticket_take : goal.returns-clause-ticket_take
returns-clause-ticket_take c l seat parts = same_parts l (after_ticket_take seat l) refl parts

pub returns-clause-ticket_drop : goal.returns-clause-ticket_drop
returns-clause-ticket_drop c l number parts = same_parts l (after_ticket_drop number l) refl parts

pub returns-clause-fault : goal.returns-clause-fault
returns-clause-fault c l parts = same_parts l (after_fault l) refl parts

pub returns-clause-stage : goal.returns-clause-stage
returns-clause-stage c l repo name path change parts = stage_parts l repo name path change (put_number change) parts

pub returns-clause-copy : goal.returns-clause-copy
returns-clause-copy c l repo name path entry parts = stage_parts l repo name path (Put entry) None parts

pub returns-clause-reset : goal.returns-clause-reset
returns-clause-reset c l repo name what parts =
    others_parts l (after_reset repo name what l) repo
    (λ r. record r { branches = changed_at name (branch_after (branch.Reset what l.next_version)) r.branches }) refl (λ r. refl) (λ r. refl) parts

pub returns-clause-seal : goal.returns-clause-seal
returns-clause-seal c l repo name parts =
    others_parts l (after_seal repo name l) repo
    (λ r. record r { branches = changed_at name (branch_after (branch.Seal l.next_token l.next_version)) r.branches }) refl (λ r. refl) (λ r. refl) parts

pub returns-clause-branch_create : goal.returns-clause-branch_create
returns-clause-branch_create c l repo name commit parts =
    others_parts l (after_branch_create repo name commit l) repo
    (λ r. record r { branches = insert r.branches name (new_branch l.next_version commit l.next_token) }) refl (λ r. refl) (λ r. refl) parts

pub returns-clause-branch_delete : goal.returns-clause-branch_delete
returns-clause-branch_delete c l repo name parts =
    others_parts l (after_branch_delete repo name l) repo (λ r. record r { branches = remove r.branches name }) refl (λ r. refl) (λ r. refl) parts

pub returns-clause-tag_create : goal.returns-clause-tag_create
returns-clause-tag_create c l repo name commit parts =
    others_parts l (after_tag_create repo name commit l) repo (λ r. record r { tags = insert r.tags name commit }) refl (λ r. refl) (λ r. refl) parts

pub returns-clause-tag_delete : goal.returns-clause-tag_delete
returns-clause-tag_delete c l repo name parts =
    others_parts l (after_tag_delete repo name l) repo (λ r. record r { tags = remove r.tags name }) refl (λ r. refl) (λ r. refl) parts

pub returns-clause-note_set : goal.returns-clause-note_set
returns-clause-note_set c l repo name note parts text = note_parts l repo name note text parts

pub returns-clause-new_head : goal.returns-clause-new_head
returns-clause-new_head c l repo name new parts fits = head_parts l repo name new fits parts

pub returns-clause-repository_create : goal.returns-clause-repository_create
returns-clause-repository_create c l repo branch date parts = found_parts l repo branch date parts
