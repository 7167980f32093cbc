use Rattle.std.proofs.Common.{◌+◌, refl}
use Rattle.lake_values.specs.declared.entry.Change.TheVariants.{Put}
use Rattle.lake_model.specs.Uncommitted.{put_number}
use Rattle.core_state.specs.BranchStates.{new_branch}
use Rattle.core_changes.proofs.FoundingLemmas.{created_below}
use Rattle.core_changes.proofs.TokenLemmas.{below_later, dropped_below, gone_below, made_below, new_below, others_below, seal_below, stage_below}
use Rattle.core_changes.proofs.TokenLemmas.{ticketed_below}
use Rattle.core_changes.proofs.laws.laws_of_tokens.Goals as goal

pub returns-clause-stage : goal.returns-clause-stage
returns-clause-stage c l repo branch path change below = ticketed_below l repo branch path change (put_number change) below

pub returns-clause-copy : goal.returns-clause-copy
returns-clause-copy c l repo branch path entry below = stage_below l below repo branch path (Put entry)

pub returns-clause-reset : goal.returns-clause-reset
returns-clause-reset c l repo branch what below = dropped_below l below repo branch what l.next_version

pub returns-clause-seal : goal.returns-clause-seal
returns-clause-seal c l repo branch below = seal_below l below repo branch l.next_version

pub returns-clause-branch_create : goal.returns-clause-branch_create
returns-clause-branch_create c l repo branch commit below =
    made_below l below (l.next_token + 1) (below_later l.next_token) repo branch (new_branch l.next_version commit l.next_token)
    (new_below l.next_version commit l.next_token)

pub returns-clause-branch_delete : goal.returns-clause-branch_delete
returns-clause-branch_delete c l repo branch below = gone_below l below repo branch

pub returns-clause-tag_create : goal.returns-clause-tag_create
returns-clause-tag_create c l repo tag commit below = others_below l below repo _ (λ r. refl)

pub returns-clause-tag_delete : goal.returns-clause-tag_delete
returns-clause-tag_delete c l repo tag below = others_below l below repo _ (λ r. refl)

pub returns-clause-note_set : goal.returns-clause-note_set
returns-clause-note_set c l repo name value below = others_below l below repo _ (λ r. refl)

pub returns-clause-repository_create : goal.returns-clause-repository_create
returns-clause-repository_create c l repo branch date below = created_below l repo branch date below
