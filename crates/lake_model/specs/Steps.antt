-- What each change of the one-thread lake answers: the first cause that holds, in the one order, or the place of its new
-- entry and what it gives. A lake is taken with its versions.
use Rattle.std.specs.Prelude.{◌≡◌, ◌+◌, ◌==◌, ◌&&◌, ℕ, Bool, true, false, not, List, Option, Some, None, option_map, option_and_then, is_none, is_some, Result}
use Rattle.std.specs.Prelude.{Ok, Err, if◌then◌else◌}
use Rattle.std.specs.FinMap.{contains_key, get}
use Rattle.std.specs.Option.{option_map_or, option_or}
use Rattle.std.specs.Result.{result_err, result_ok}
use Rattle.std.specs.Str.{bytes_eq}
use Rattle.lake_base.specs.declared.digest.Digest.{Digest}
use Rattle.lake_values.specs.Commit.{AboutValue, CommitRecordValue}
use Rattle.lake_values.specs.Entry.{EntryValue}
use Rattle.lake_values.specs.declared.settings.Note.{Note}
use Rattle.lake_values.specs.declared.settings.NoteName.{NoteName}
use Rattle.lake_format.specs.Spelling.{commit_id}
use Rattle.commit_graph.specs.Expressions.{RefExprValue}
use Rattle.lake_model.specs.declared.fault.StepFault.{StepFault}
use Rattle.lake_model.specs.declared.fault.StepFault.TheVariants.{NoRef, NoParent, NoNote, Exists, DefaultBranch, NoPath, Expired, StoreFault, NoMemory}
use Rattle.lake_model.specs.declared.fault.Reference.TheVariants.{Named, Expression}
use Rattle.lake_model.specs.declared.history.CopySource.{CopySource}
use Rattle.lake_model.specs.declared.history.CopySource.TheVariants as from
use Rattle.lake_model.specs.declared.history.Operation.{Operation}
use Rattle.lake_model.specs.declared.history.Operation.TheVariants.{Commit, Merge, Pick}
use Rattle.lake_model.specs.declared.reply.SwapKind.{SwapKind}
use Rattle.lake_model.specs.declared.reply.SwapKind.TheVariants as kind
use Rattle.lake_model.specs.declared.history.SealFor.{SealFor}
use Rattle.lake_model.specs.declared.history.SealFor.TheVariants as seal
use Rattle.lake_model.specs.declared.reply.Versions.{Versions}
use Rattle.lake_model.specs.State.{Branch, Repository, State, branch_of, is_expired}
use Rattle.lake_model.specs.Commits.{Draft, bare_repository, commit_draft, first_draft, merge_draft, pick_draft, record_of}
use Rattle.lake_model.specs.NoteChanges.{note_at}
use Rattle.lake_model.specs.Refusals.{Causes, first_cause, unless_refused, cause_if, causes_of_change, with_repository, with_branch, with_protection}
use Rattle.lake_model.specs.Refusals.{with_current_version, Clash, GivesOrFails, IsClashOrNone, clash_fault}
use Rattle.lake_model.specs.Resolving.{name_target, expression_target, is_plain_branch}
use Rattle.lake_model.specs.Readings.{expression_map}
use Rattle.lake_model.specs.Versions.{VersionsGiven, branch_version, settings_version}

-- what is asked of a repository that is there
abbrev pub in_it : {X : Type 0} → State → List ℕ → (Repository → Option X) → Option X
in_it state repo f = option_and_then f (get state.repositories repo)

-- whether something holds of a repository that is there
abbrev pub holds_in : State → List ℕ → (Repository → Bool) → Bool
holds_in state repo test = option_map_or test (get state.repositories repo) false

-- the commit of an expression, where it leads to one
abbrev pub target_in : Repository → RefExprValue → Option Digest
target_in r e = result_ok (expression_target r e)

-- a move that finds no parent
abbrev pub move_fault : Option StepFault → Option StepFault
move_fault (Some (NoParent number)) = Some (NoParent number)
move_fault _ = None

-- what takes an expression asks what its name leads to, and then its moves
abbrev pub with_expression : State → List ℕ → RefExprValue → Causes → Causes
with_expression state repo e c = record c {
  reference = option_or c.reference (cause_if (holds_in state repo (λ r. is_none (name_target r e.name))) (NoRef Expression));
  parent = in_it state repo (λ r. move_fault (result_err (expression_target r e)));
}

-- a commit that is expired
abbrev pub expired_fault : Repository → Digest → Option StepFault
expired_fault r id = cause_if (is_expired r id) (Expired id)

-- what uses the commit of an expression asks whether it is expired
abbrev pub with_live_target : State → List ℕ → RefExprValue → Causes → Causes
with_live_target state repo e c =
    record c { expired = in_it state repo (λ r. option_and_then (expired_fault r) (target_in r e)) }

-- a version is asked that was read of a branch
abbrev pub with_current_branch : VersionsGiven → List ℕ → List ℕ → ℕ → Causes → Causes
with_current_branch given repo branch version =
    with_current_version (version == branch_version given repo branch) (branch_version given repo branch) (settings_version given repo)

-- the place of the next entry, unless a cause holds
abbrev pub next_place : State → Causes → Result ℕ StepFault
next_place state c = unless_refused (first_cause c) (state.entries + 1)

-- the place of the next entry with a value, unless a cause holds
abbrev pub next_with : {X : Type 0} → State → Causes → X → Result (ℕ × X) StepFault
next_with state c value = unless_refused (first_cause c) (state.entries + 1, value)

-- What a change answered that hands out something that was found: the first cause, or the place of the next entry and
-- what was found; or memory ran out; or the store failed where no cause holds.
abbrev pub IsReplyOf : {X : Type 0} → State → Causes → Option X → Result (ℕ × X) StepFault → Type 0
IsReplyOf state c value (Err NoMemory) = Unit {0}
IsReplyOf state c value (Err StoreFault) = first_cause c ≡ None
IsReplyOf state c value (Err fault) = first_cause c ≡ Some fault
IsReplyOf state c value (Ok reply) = (first_cause c ≡ None) × ((reply.0 ≡ state.entries + 1) × (value ≡ Some reply.1))

-- a repository is made, whose first commit may clash
abbrev pub create_repository_causes : State → List ℕ → Option Clash → Causes
create_repository_causes state repo clash =
    record (causes_of_change state) { exists = cause_if (contains_key state.repositories repo) Exists; clash = clash_fault clash }

-- what a change answered by which a repository is made
abbrev pub IsCreateRepositoryReply : State → List ℕ → List ℕ → ℕ → Result ℕ StepFault → Type 0
IsCreateRepositoryReply state repo branch date answer =
    (clash : Option Clash) × IsClashOrNone state (bare_repository date branch) (first_draft date) clash
    × GivesOrFails answer (next_place state (create_repository_causes state repo clash))

-- a branch is made at the commit of an expression
abbrev pub create_branch_causes : State → List ℕ → List ℕ → RefExprValue → Causes
create_branch_causes state repo name e =
    with_live_target state repo e (with_expression state repo e (record (with_repository state repo (causes_of_change state)) {
      exists = cause_if (is_some (branch_of state repo name)) Exists;
    }))

abbrev pub IsCreateBranchReply : State → List ℕ → List ℕ → RefExprValue → Result (ℕ × Digest) StepFault → Type 0
IsCreateBranchReply state repo name e =
    IsReplyOf state (create_branch_causes state repo name e) (in_it state repo (λ r. target_in r e))

-- a branch goes
abbrev pub delete_branch_causes : State → List ℕ → List ℕ → Causes
delete_branch_causes state repo name =
    with_protection state repo name (record (with_branch state repo name (causes_of_change state)) {
      default_branch = cause_if (holds_in state repo (λ r. bytes_eq r.default_branch name)) DefaultBranch;
    })

abbrev pub delete_branch_reply : State → List ℕ → List ℕ → Result ℕ StepFault
delete_branch_reply state repo name = next_place state (delete_branch_causes state repo name)

-- a tag names the commit of an expression
abbrev pub create_tag_causes : State → List ℕ → List ℕ → RefExprValue → Causes
create_tag_causes state repo name e =
    with_live_target state repo e (with_expression state repo e (record (with_repository state repo (causes_of_change state)) {
      exists = cause_if (holds_in state repo (λ r. contains_key r.tags name)) Exists;
    }))

abbrev pub IsCreateTagReply : State → List ℕ → List ℕ → RefExprValue → Result (ℕ × Digest) StepFault → Type 0
IsCreateTagReply state repo name e =
    IsReplyOf state (create_tag_causes state repo name e) (in_it state repo (λ r. target_in r e))

-- a tag goes
abbrev pub delete_tag_causes : State → List ℕ → List ℕ → Causes
delete_tag_causes state repo name = record (with_repository state repo (causes_of_change state)) {
  reference = cause_if (not (holds_in state repo (λ r. contains_key r.tags name))) (NoRef Named);
}

abbrev pub delete_tag_reply : State → List ℕ → List ℕ → Result ℕ StepFault
delete_tag_reply state repo name = next_place state (delete_tag_causes state repo name)

-- what writes to a branch: the branch is there, and unprotected
abbrev pub write_causes : State → List ℕ → List ℕ → Causes
write_causes state repo branch = with_protection state repo branch (with_branch state repo branch (causes_of_change state))

-- a number is given out
abbrev pub take_ticket_reply : State → List ℕ → List ℕ → Result (ℕ × ℕ) StepFault
take_ticket_reply state repo branch = next_with state (write_causes state repo branch) state.next_number

-- a ticket goes
abbrev pub drop_ticket_reply : State → Result ℕ StepFault
drop_ticket_reply state = next_place state (causes_of_change state)

-- a change is staged by a version of the branch
abbrev pub stage_causes : State → VersionsGiven → List ℕ → List ℕ → ℕ → Causes
stage_causes state given repo branch version = with_current_branch given repo branch version (write_causes state repo branch)

abbrev pub stage_reply : State → VersionsGiven → List ℕ → List ℕ → ℕ → Result ℕ StepFault
stage_reply state given repo branch version = next_place state (stage_causes state given repo branch version)

-- what an expression is copied from: a branch, where it is one without `@` and moves, and else a commit
abbrev pub copy_source : Repository → RefExprValue → Option CopySource
copy_source r e = if is_plain_branch r e then Some (from.Branch e.name) else option_map from.Commit (target_in r e)

-- the entry that an expression has at a path, where it leads to a map
abbrev pub copied_entry : State → List ℕ → RefExprValue → List ℕ → Option EntryValue
copied_entry state repo e path = in_it state repo (λ r. option_and_then (λ map. get map path) (result_ok (expression_map r e)))

-- the commit of an expression is asked for its expiry, where it is no plain branch
abbrev pub source_fault : Repository → RefExprValue → Option StepFault
source_fault r e = if is_plain_branch r e then None else option_and_then (expired_fault r) (target_in r e)

-- the entry of an expression at a path is staged at another
abbrev pub copy_causes_of : State → List ℕ → List ℕ → RefExprValue → List ℕ → Causes
copy_causes_of state repo branch e from =
    record (with_expression state repo e (write_causes state repo branch)) {
      path = cause_if (is_none (copied_entry state repo e from)) NoPath;
      expired = in_it state repo (λ r. source_fault r e);
    }

-- so it is by a version of the branch
abbrev pub copy_causes : State → VersionsGiven → List ℕ → List ℕ → ℕ → RefExprValue → List ℕ → Causes
copy_causes state given repo branch version e from =
    with_current_branch given repo branch version (copy_causes_of state repo branch e from)

abbrev pub IsCopyReply : State → VersionsGiven → List ℕ → List ℕ → ℕ → RefExprValue → List ℕ → Result (ℕ × EntryValue) StepFault → Type 0
IsCopyReply state given repo branch version e from =
    IsReplyOf state (copy_causes state given repo branch version e from) (copied_entry state repo e from)

-- staged changes are sealed: for a commit the branch is unprotected
abbrev pub seal_causes : SealFor → State → List ℕ → List ℕ → Causes
seal_causes seal.Commit state repo branch = write_causes state repo branch
seal_causes seal.Other state repo branch = with_branch state repo branch (causes_of_change state)

-- the branch is given the next version
abbrev pub seal_reply : SealFor → State → VersionsGiven → List ℕ → List ℕ → Result Versions StepFault
seal_reply why state given repo branch = unless_refused (first_cause (seal_causes why state repo branch))
    (record { at = state.entries + 1; version = given.next; settings = settings_version given repo })

-- changes are dropped
abbrev pub reset_reply : State → List ℕ → List ℕ → Result ℕ StepFault
reset_reply state repo branch = next_place state (write_causes state repo branch)

-- no version of the settings is asked, or it is the one now
abbrev pub is_expected : VersionsGiven → List ℕ → Option ℕ → Bool
is_expected given repo None = true
is_expected given repo (Some version) = version == settings_version given repo

-- a setting is set or deleted
abbrev pub set_note_causes_of : State → List ℕ → NoteName → Option Note → Causes
set_note_causes_of state repo name note = record (with_repository state repo (causes_of_change state)) {
  note = cause_if (is_none note && is_none (in_it state repo (λ r. note_at name r.notes))) NoNote;
}

-- so it is where a version may be asked
abbrev pub set_note_causes : State → VersionsGiven → List ℕ → Option ℕ → NoteName → Option Note → Causes
set_note_causes state given repo expected name note =
    with_current_version (is_expected given repo expected) 0 (settings_version given repo) (set_note_causes_of state repo name note)

abbrev pub set_note_reply : State → VersionsGiven → List ℕ → Option ℕ → NoteName → Option Note → Result ℕ StepFault
set_note_reply state given repo expected name note = next_place state (set_note_causes state given repo expected name note)

-- how a new head of a branch is made: whether protection refuses it, the commit that is used, and what is drafted of the
-- repository and the branch
pub record SwapRule : Type 0 where
  pub protects : Bool
  pub source : Option Digest
  pub draft : Repository → Branch → Draft

-- a commit of the sealed changes, a merge, a pick
abbrev pub swap_rule : SwapKind → AboutValue → SwapRule
swap_rule kind.Commit about = record { protects = true; source = None; draft = λ r b. commit_draft r b about }
swap_rule (kind.Merge source strategy) about =
    record { protects = false; source = Some source; draft = merge_draft source strategy about }
swap_rule (kind.Pick base source strategy) about =
    record { protects = false; source = Some source; draft = pick_draft base source strategy about }

-- the operation by which it is made
abbrev pub swap_operation : List ℕ → List ℕ → SwapKind → AboutValue → Operation
swap_operation repo branch kind.Commit about = Commit repo branch about
swap_operation repo branch (kind.Merge source strategy) about = Merge repo branch source strategy about
swap_operation repo branch (kind.Pick base source strategy) about = Pick repo branch base source strategy about

-- the new commit, where the branch is there
abbrev pub new_commit : State → List ℕ → List ℕ → SwapRule → Option CommitRecordValue
new_commit state repo branch rule =
    in_it state repo (λ r. option_map (λ b. record_of state.cut r.commits (rule.draft r b)) (get r.branches branch))

-- the first expired commit: the source, or the new commit
abbrev pub swap_expired : State → List ℕ → List ℕ → SwapRule → Option StepFault
swap_expired state repo branch rule = in_it state repo (λ r.
    option_or (option_and_then (expired_fault r) rule.source)
    (option_and_then (λ commit. expired_fault r (commit_id commit)) (new_commit state repo branch rule)))

-- whether both versions are those now
abbrev pub is_current : VersionsGiven → List ℕ → List ℕ → ℕ → ℕ → Bool
is_current given repo branch version settings =
    (version == branch_version given repo branch) && (settings == settings_version given repo)

-- a new head, whose commit may clash
abbrev pub new_head_causes : State → List ℕ → List ℕ → SwapRule → Option Clash → Causes
new_head_causes state repo branch rule clash =
    record (if rule.protects then write_causes state repo branch else with_branch state repo branch (causes_of_change state)) {
      expired = swap_expired state repo branch rule;
      clash = clash_fault clash;
    }

-- so it is by versions of the branch and of the settings
abbrev pub swap_causes : State → VersionsGiven → List ℕ → List ℕ → ℕ → ℕ → SwapRule → Option Clash → Causes
swap_causes state given repo branch version settings rule clash =
    with_current_version (is_current given repo branch version settings) (branch_version given repo branch) (settings_version given repo)
    (new_head_causes state repo branch rule clash)

-- a clash of the new commit, or that there is none, where the branch is there
abbrev pub IsSwapClash : State → List ℕ → List ℕ → SwapRule → Option Clash → Type 0
IsSwapClash state repo branch rule clash = (r : Repository) (b : Branch)
    → get state.repositories repo ≡ Some r → get r.branches branch ≡ Some b → IsClashOrNone state r (rule.draft r b) clash

-- what a change answered by which a new head is made: with the head's id and its record
abbrev pub IsSwapReply : State → VersionsGiven → List ℕ → List ℕ → ℕ → ℕ → SwapRule → Result (ℕ × (Digest × CommitRecordValue)) StepFault → Type 0
IsSwapReply state given repo branch version settings rule answer =
    (clash : Option Clash) × IsSwapClash state repo branch rule clash
    × IsReplyOf state (swap_causes state given repo branch version settings rule clash)
    (option_map (λ commit. (commit_id commit, commit)) (new_commit state repo branch rule)) answer

-- commits expire, by a version of the references
abbrev pub expire_causes : State → VersionsGiven → ℕ → Causes
expire_causes state given version = with_current_version (version == given.references) given.references 0 (causes_of_change state)

abbrev pub expire_reply : State → VersionsGiven → ℕ → Result ℕ StepFault
expire_reply state given version = next_place state (expire_causes state given version)

-- numbers are condemned
abbrev pub condemn_reply : State → Result ℕ StepFault
condemn_reply state = next_place state (causes_of_change state)
