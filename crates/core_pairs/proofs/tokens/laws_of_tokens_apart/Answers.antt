use Rattle.std.proofs.Common.{None, refl}
use Rattle.lake_values.specs.declared.entry.Change.TheVariants.{Put}
use Rattle.lake_model.specs.NoteChanges.{notes_after}
use Rattle.lake_model.specs.Uncommitted.{put_number}
use Rattle.std.specs.FinMap.{insert, remove}
use Rattle.core_changes.specs.LakeChanges.{after_note_set, after_tag_create, after_tag_delete}
use Rattle.core_pairs.proofs.TokenApartLemmas.{create_apart, delete_apart, found_apart, head_apart, others_apart, reset_apart, seal_apart, stage_apart}
use Rattle.core_pairs.proofs.tokens.laws_of_tokens_apart.Goals as goal

pub returns-clause-stage : goal.returns-clause-stage
returns-clause-stage c l repo name path change apart = stage_apart l apart repo name path change (put_number change)

pub returns-clause-copy : goal.returns-clause-copy
returns-clause-copy c l repo name path entry apart = stage_apart l apart repo name path (Put entry) None

pub returns-clause-reset : goal.returns-clause-reset
returns-clause-reset c l repo name what apart = reset_apart l apart repo name what

pub returns-clause-seal : goal.returns-clause-seal
returns-clause-seal c l repo name apart below = seal_apart l apart repo name below

pub returns-clause-branch_create : goal.returns-clause-branch_create
returns-clause-branch_create c l repo name commit apart below = create_apart l apart below repo name commit

pub returns-clause-branch_delete : goal.returns-clause-branch_delete
returns-clause-branch_delete c l repo name apart = delete_apart l apart repo name

pub returns-clause-tag_create : goal.returns-clause-tag_create
returns-clause-tag_create c l repo name commit apart =
    others_apart l repo (λ r. record r { tags = insert r.tags name commit }) (λ r. refl) apart (after_tag_create repo name commit l) refl

pub returns-clause-tag_delete : goal.returns-clause-tag_delete
returns-clause-tag_delete c l repo name apart =
    others_apart l repo (λ r. record r { tags = remove r.tags name }) (λ r. refl) apart (after_tag_delete repo name l) refl

pub returns-clause-note_set : goal.returns-clause-note_set
returns-clause-note_set c l repo name note apart =
    others_apart l repo (λ r. record r { settings = l.next_version; notes = notes_after name note r.notes }) (λ r. refl) apart
    (after_note_set repo name note l) refl

pub returns-clause-new_head : goal.returns-clause-new_head
returns-clause-new_head c l repo name new apart = head_apart l apart repo name new

pub returns-clause-repository_create : goal.returns-clause-repository_create
returns-clause-repository_create c l repo branch date apart below none = found_apart l apart below repo branch date none
