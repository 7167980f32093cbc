use Rattle.std.proofs.Common.{◌+◌, ap, refl}
use Rattle.lake_values.specs.declared.entry.Change.TheVariants.{Put}
use Rattle.lake_model.specs.Uncommitted.{put_number}
use Rattle.lake_model.specs.Versions.{settings_version}
use Rattle.core_state.specs.BranchStates.{new_branch}
use Rattle.core_changes.specs.declared.branch.BranchChange.TheVariants.{Reset, Seal}
use Rattle.core_changes.specs.BranchChanges.{branch_after}
use Rattle.core_changes.proofs.CountLemmas.{branch_begins, branch_goes, lake_rises, lake_versions, settings_rise, stage_stays, ticketed_stays, versions_of}
use Rattle.core_changes.proofs.CountLemmas.{versions_rise, versions_stay}
use Rattle.core_changes.proofs.FoundingLemmas.{created_rises}
use Rattle.core_changes.proofs.laws.laws_of_counts.Goals as goal

pub returns-clause-stage : goal.returns-clause-stage
returns-clause-stage c given l by repo branch path change has = ticketed_stays given l repo branch path change (put_number change) has

pub returns-clause-copy : goal.returns-clause-copy
returns-clause-copy c given l by repo branch path from from_path entry has = stage_stays given l repo branch path (Put entry) has

pub returns-clause-reset : goal.returns-clause-reset
returns-clause-reset c given l by repo branch what has =
    lake_versions _ _ (ap (λ n. n + 1) has.next) has.references (lake_rises given l repo branch (branch_after (Reset what l.next_version)) (λ b. refl) has)

pub returns-clause-seal : goal.returns-clause-seal
returns-clause-seal c given l by repo branch why has =
    lake_versions _ _ (ap (λ n. n + 1) has.next) has.references
    (lake_rises given l repo branch (branch_after (Seal l.next_token l.next_version)) (λ b. refl) has)

pub returns-clause-branch_create : goal.returns-clause-branch_create
returns-clause-branch_create c given l by repo branch commit has =
    lake_versions _ _ (ap (λ n. n + 1) has.next) (ap (λ n. n + 1) has.references)
    (versions_rise given l.repositories repo _ (versions_of given l has) branch
    (λ q r tie is. branch_begins given repo branch q (settings_version given q) r tie is (new_branch l.next_version commit l.next_token) has.next))

pub returns-clause-branch_delete : goal.returns-clause-branch_delete
returns-clause-branch_delete c given l by repo branch has =
    lake_versions _ _ has.next (ap (λ n. n + 1) has.references)
    (versions_stay given l.repositories repo _ (versions_of given l has) (λ v s r is. branch_goes v s r is branch))

pub returns-clause-tag_create : goal.returns-clause-tag_create
returns-clause-tag_create c given l by repo tag commit has =
    lake_versions _ _ has.next (ap (λ n. n + 1) has.references)
    (versions_stay given l.repositories repo _ (versions_of given l has) (λ v s r is. record { branches = is.branches; settings = is.settings }))

pub returns-clause-tag_delete : goal.returns-clause-tag_delete
returns-clause-tag_delete c given l by repo tag has =
    lake_versions _ _ has.next (ap (λ n. n + 1) has.references)
    (versions_stay given l.repositories repo _ (versions_of given l has) (λ v s r is. record { branches = is.branches; settings = is.settings }))

pub returns-clause-note_set : goal.returns-clause-note_set
returns-clause-note_set c given l by repo name value has there =
    lake_versions _ _ (ap (λ n. n + 1) has.next) (ap (λ n. n + 1) has.references)
    (settings_rise given l.repositories repo _ (versions_of given l has) there (λ r. has.next) (λ r. refl))

pub returns-clause-repository_create : goal.returns-clause-repository_create
returns-clause-repository_create c given l by repo branch date has none =
    lake_versions _ _ (ap (λ n. n + 1) has.next) (ap (λ n. n + 1) has.references) (created_rises l repo branch date given none has)
