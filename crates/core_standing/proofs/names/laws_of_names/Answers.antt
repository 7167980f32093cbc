use Rattle.lake_model.specs.declared.history.Operation.TheVariants.{BranchCreate, BranchDelete, TagCreate, TagDelete}
use Rattle.core_state.specs.LakeStates.{state_of}
use Rattle.core_changes.specs.LakeChanges.{after_branch_create, after_branch_delete, after_tag_create, after_tag_delete}
use Rattle.core_standing.specs.Standing.{versions_since}
use Rattle.core_standing.proofs.MakingLemmas.{may_make}
use Rattle.core_standing.proofs.PresentLemmas.{present_sound}
use Rattle.core_standing.proofs.names.laws_of_names.Goals as goal

pub returns-clause-create_branch : goal.returns-clause-create_branch
returns-clause-create_branch c opened history l by repo name e commit stands plain none leads =
    may_make opened history l by (BranchCreate repo name commit) stands
    (c.law_of_name_steps.ensures.create_branch (state_of l) by repo name e commit
    (present_sound c.law_of_soundness.ensures.replay opened history l stands) plain none leads)
    (after_branch_create repo name commit)
    (c.laws_of_states.ensures.branch_create l by repo name commit)
    (c.laws_of_counts.ensures.branch_create (versions_since opened history) l by repo name commit)
    (c.laws_of_tokens.ensures.branch_create l repo name commit)
    (c.laws_of_few.ensures.branch_create l repo name commit) (c.laws_of_few.ensures.fault l)
    (c.laws_of_indexes.ensures.branch_create l repo name commit) (c.laws_of_indexes.ensures.fault l)

pub returns-clause-delete_branch : goal.returns-clause-delete_branch
returns-clause-delete_branch c opened history l by repo name stands none =
    may_make opened history l by (BranchDelete repo name) stands
    (c.law_of_name_steps.ensures.delete_branch (state_of l) by repo name none) (after_branch_delete repo name)
    (c.laws_of_states.ensures.branch_delete l by repo name)
    (c.laws_of_counts.ensures.branch_delete (versions_since opened history) l by repo name)
    (c.laws_of_tokens.ensures.branch_delete l repo name)
    (c.laws_of_few.ensures.branch_delete l repo name) (c.laws_of_few.ensures.fault l)
    (c.laws_of_indexes.ensures.branch_delete l repo name) (c.laws_of_indexes.ensures.fault l)

pub returns-clause-create_tag : goal.returns-clause-create_tag
returns-clause-create_tag c opened history l by repo name e commit stands plain none leads =
    may_make opened history l by (TagCreate repo name commit) stands
    (c.law_of_name_steps.ensures.create_tag (state_of l) by repo name e commit
    (present_sound c.law_of_soundness.ensures.replay opened history l stands) plain none leads)
    (after_tag_create repo name commit)
    (c.laws_of_states.ensures.tag_create l by repo name commit)
    (c.laws_of_counts.ensures.tag_create (versions_since opened history) l by repo name commit)
    (c.laws_of_tokens.ensures.tag_create l repo name commit)
    (c.laws_of_few.ensures.tag_create l repo name commit) (c.laws_of_few.ensures.fault l)
    (c.laws_of_indexes.ensures.tag_create l repo name commit) (c.laws_of_indexes.ensures.fault l)

pub returns-clause-delete_tag : goal.returns-clause-delete_tag
returns-clause-delete_tag c opened history l by repo name stands none =
    may_make opened history l by (TagDelete repo name) stands
    (c.law_of_name_steps.ensures.delete_tag (state_of l) by repo name none) (after_tag_delete repo name)
    (c.laws_of_states.ensures.tag_delete l by repo name)
    (c.laws_of_counts.ensures.tag_delete (versions_since opened history) l by repo name)
    (c.laws_of_tokens.ensures.tag_delete l repo name)
    (c.laws_of_few.ensures.tag_delete l repo name) (c.laws_of_few.ensures.fault l)
    (c.laws_of_indexes.ensures.tag_delete l repo name) (c.laws_of_indexes.ensures.fault l)
