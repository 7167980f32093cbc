use Rattle.std.proofs.Common.{None, arith, refl}
use Rattle.std.specs.FinMap.{insert, remove}
use Rattle.lake_values.specs.declared.entry.Change.TheVariants.{Put}
use Rattle.lake_model.specs.NoteChanges.{notes_after}
use Rattle.lake_model.specs.Uncommitted.{put_number}
use Rattle.core_changes.specs.LakeChanges.{after_fault, after_note_set, after_tag_create, after_tag_delete, after_ticket_drop, after_ticket_take}
use Rattle.reading_again.proofs.GivenNumberLemmas.{create_given, delete_given, found_given, fresh_given, head_given, others_given, reset_given, same_given}
use Rattle.reading_again.proofs.GivenNumberLemmas.{seal_given, stage_given}
use Rattle.reading_again.proofs.numbers.laws_of_given_numbers.Goals as goal

pub returns-clause-fresh : goal.returns-clause-fresh
returns-clause-fresh c = fresh_given

pub returns-clause-ticket_take : goal.returns-clause-ticket_take
returns-clause-ticket_take c l seat given = same_given l (after_ticket_take seat l) refl (omega arith) given

pub returns-clause-ticket_drop : goal.returns-clause-ticket_drop
returns-clause-ticket_drop c l number given = same_given l (after_ticket_drop number l) refl (omega arith) given

pub returns-clause-fault : goal.returns-clause-fault
returns-clause-fault c l given = same_given l (after_fault l) refl (omega arith) given

pub returns-clause-stage : goal.returns-clause-stage
returns-clause-stage c l repo name path change given fits = stage_given l given repo name path change fits (put_number change)

pub returns-clause-copy : goal.returns-clause-copy
returns-clause-copy c l repo name path entry given fits = stage_given l given repo name path (Put entry) fits None

pub returns-clause-reset : goal.returns-clause-reset
returns-clause-reset c l repo name what given = reset_given l given repo name what

pub returns-clause-seal : goal.returns-clause-seal
returns-clause-seal c l repo name given = seal_given l given repo name

pub returns-clause-branch_create : goal.returns-clause-branch_create
returns-clause-branch_create c l repo name commit given = create_given l given repo name commit

pub returns-clause-branch_delete : goal.returns-clause-branch_delete
returns-clause-branch_delete c l repo name given = delete_given l given repo name

pub returns-clause-tag_create : goal.returns-clause-tag_create
returns-clause-tag_create c l repo name commit given =
    others_given l given repo name (λ r. record r { tags = insert r.tags name commit }) (λ r. refl) (λ r. refl) (after_tag_create repo name commit l) refl refl

pub returns-clause-tag_delete : goal.returns-clause-tag_delete
returns-clause-tag_delete c l repo name given =
    others_given l given repo name (λ r. record r { tags = remove r.tags name }) (λ r. refl) (λ r. refl) (after_tag_delete repo name l) refl refl

pub returns-clause-note_set : goal.returns-clause-note_set
returns-clause-note_set c l repo name note given =
    others_given l given repo repo (λ r. record r { settings = l.next_version; notes = notes_after name note r.notes }) (λ r. refl) (λ r. refl)
    (after_note_set repo name note l) refl refl

pub returns-clause-new_head : goal.returns-clause-new_head
returns-clause-new_head c l repo name new given fits = head_given l given repo name new fits

pub returns-clause-repository_create : goal.returns-clause-repository_create
returns-clause-repository_create c l repo branch date given = found_given l given repo branch date
