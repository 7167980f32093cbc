use Rattle.std.proofs.Common.{ap, refl}
use Rattle.lake_values.specs.declared.entry.Change.TheVariants.{Put}
use Rattle.lake_model.specs.Uncommitted.{put_number}
use Rattle.core_changes.proofs.FoundingLemmas.{created_seen}
use Rattle.core_changes.proofs.StateLemmas.{dropped_seen, gone_seen, made_seen, repository_seen, seal_seen, stage_seen, ticketed_seen, with_one_more}
use Rattle.core_changes.proofs.laws.laws_of_states.Goals as goal

pub returns-clause-stage : goal.returns-clause-stage
returns-clause-stage c l by repo branch path change below = ticketed_seen l repo branch path change (put_number change) below

pub returns-clause-copy : goal.returns-clause-copy
returns-clause-copy c l by repo branch path from from_path entry below = ap with_one_more (stage_seen l repo branch path (Put entry) below)

pub returns-clause-reset : goal.returns-clause-reset
returns-clause-reset c l by repo branch what = ap with_one_more (dropped_seen l repo branch what l.next_version)

pub returns-clause-seal : goal.returns-clause-seal
returns-clause-seal c l by repo branch why below = ap with_one_more (seal_seen l repo branch l.next_version below)

pub returns-clause-branch_create : goal.returns-clause-branch_create
returns-clause-branch_create c l by repo branch commit = ap with_one_more (made_seen l repo branch l.next_version commit l.next_token)

pub returns-clause-branch_delete : goal.returns-clause-branch_delete
returns-clause-branch_delete c l by repo branch = ap with_one_more (gone_seen l repo branch)

pub returns-clause-tag_create : goal.returns-clause-tag_create
returns-clause-tag_create c l by repo tag commit = ap with_one_more (repository_seen l repo _ _ (λ r is. refl))

pub returns-clause-tag_delete : goal.returns-clause-tag_delete
returns-clause-tag_delete c l by repo tag = ap with_one_more (repository_seen l repo _ _ (λ r is. refl))

pub returns-clause-note_set : goal.returns-clause-note_set
returns-clause-note_set c l by repo name value = ap with_one_more (repository_seen l repo _ _ (λ r is. refl))

pub returns-clause-repository_create : goal.returns-clause-repository_create
returns-clause-repository_create c l by repo branch date = created_seen l repo branch date
