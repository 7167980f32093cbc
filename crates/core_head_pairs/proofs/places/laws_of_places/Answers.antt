use Rattle.std.proofs.Common.{None, refl}
use Rattle.std.specs.FinMap.{insert, remove}
use Rattle.lake_values.specs.declared.entry.Change.TheVariants.{Put}
use Rattle.lake_model.specs.NoteChanges.{notes_after}
use Rattle.lake_model.specs.Parts.{changed_at}
use Rattle.lake_model.specs.Uncommitted.{put_number}
use Rattle.core_state.specs.BranchStates.{new_branch}
use Rattle.core_changes.specs.declared.branch.BranchChange.TheVariants as branch
use Rattle.core_changes.specs.BranchChanges.{branch_after}
use Rattle.core_changes.specs.LakeChanges.{after_branch_create, after_branch_delete, after_fault, after_note_set, after_reset, after_seal, after_tag_create}
use Rattle.core_changes.specs.LakeChanges.{after_tag_delete}
use Rattle.core_changes.specs.LakeChanges.{after_ticket_drop, after_ticket_take}
use Rattle.core_head_pairs.proofs.AdmissibleLemmas.{fresh_places, head_places, repository_places}
use Rattle.core_head_pairs.proofs.PlacesKeptLemmas.{kept_trees, places_stay, same_trees, stage_places}
use Rattle.core_head_pairs.proofs.places.laws_of_places.Goals as goal

pub returns-clause-ticket_take : goal.returns-clause-ticket_take
returns-clause-ticket_take c kept l seat places = places_stay kept l (after_ticket_take seat l) (same_trees l (after_ticket_take seat l) refl) places

pub returns-clause-ticket_drop : goal.returns-clause-ticket_drop
returns-clause-ticket_drop c kept l number places = places_stay kept l (after_ticket_drop number l) (same_trees l (after_ticket_drop number l) refl) places

pub returns-clause-fault : goal.returns-clause-fault
returns-clause-fault c kept l places = places_stay kept l (after_fault l) (same_trees l (after_fault l) refl) places

pub returns-clause-stage : goal.returns-clause-stage
returns-clause-stage c kept l repo name path change places = stage_places kept l repo name path change (put_number change) places

pub returns-clause-copy : goal.returns-clause-copy
returns-clause-copy c kept l repo name path entry places = stage_places kept l repo name path (Put entry) None places

pub returns-clause-reset : goal.returns-clause-reset
returns-clause-reset c kept l repo name what places =
    places_stay kept l (after_reset repo name what l)
    (kept_trees l (after_reset repo name what l) repo
    (λ r. record r { branches = changed_at name (branch_after (branch.Reset what l.next_version)) r.branches }) (λ r. refl) refl) places

pub returns-clause-seal : goal.returns-clause-seal
returns-clause-seal c kept l repo name places =
    places_stay kept l (after_seal repo name l)
    (kept_trees l (after_seal repo name l) repo
    (λ r. record r { branches = changed_at name (branch_after (branch.Seal l.next_token l.next_version)) r.branches }) (λ r. refl) refl) places

pub returns-clause-branch_create : goal.returns-clause-branch_create
returns-clause-branch_create c kept l repo name commit places =
    places_stay kept l (after_branch_create repo name commit l)
    (kept_trees l (after_branch_create repo name commit l) repo
    (λ r. record r { branches = insert r.branches name (new_branch l.next_version commit l.next_token) }) (λ r. refl) refl) places

pub returns-clause-branch_delete : goal.returns-clause-branch_delete
returns-clause-branch_delete c kept l repo name places =
    places_stay kept l (after_branch_delete repo name l)
    (kept_trees l (after_branch_delete repo name l) repo (λ r. record r { branches = remove r.branches name }) (λ r. refl) refl) places

pub returns-clause-tag_create : goal.returns-clause-tag_create
returns-clause-tag_create c kept l repo name commit places =
    places_stay kept l (after_tag_create repo name commit l)
    (kept_trees l (after_tag_create repo name commit l) repo (λ r. record r { tags = insert r.tags name commit }) (λ r. refl) refl) places

pub returns-clause-tag_delete : goal.returns-clause-tag_delete
returns-clause-tag_delete c kept l repo name places =
    places_stay kept l (after_tag_delete repo name l)
    (kept_trees l (after_tag_delete repo name l) repo (λ r. record r { tags = remove r.tags name }) (λ r. refl) refl) places

pub returns-clause-note_set : goal.returns-clause-note_set
returns-clause-note_set c kept l repo name note places =
    places_stay kept l (after_note_set repo name note l)
    (kept_trees l (after_note_set repo name note l) repo
    (λ r. record r { settings = l.next_version; notes = notes_after name note r.notes }) (λ r. refl) refl) places

pub returns-clause-fresh : goal.returns-clause-fresh
returns-clause-fresh c kept cut added = fresh_places cut kept added

pub returns-clause-new_head : goal.returns-clause-new_head
returns-clause-new_head c before after l repo name r draft new places index sound in_lake admissible is added =
    head_places l repo r draft new index sound in_lake admissible is before after name places added

pub returns-clause-repository_create : goal.returns-clause-repository_create
returns-clause-repository_create c before after l repo branch date places none added = repository_places l repo branch date none before after places added
