-- What each operation makes of a lake in memory.
use Rattle.std.specs.Prelude.{◌+◌, true, ℕ, List, Option}
use Rattle.std.specs.FinMap.{insert, remove}
use Rattle.std.specs.Option.{option_map_or}
use Rattle.lake_base.specs.declared.digest.Digest.{Digest}
use Rattle.lake_values.specs.declared.commit.ResetWhat.{ResetWhat}
use Rattle.lake_values.specs.Entry.{EntryValue}
use Rattle.lake_values.specs.declared.entry.Change.{Change}
use Rattle.lake_values.specs.declared.entry.Change.TheVariants.{Put}
use Rattle.lake_values.specs.declared.settings.Note.{Note}
use Rattle.lake_values.specs.declared.settings.NoteName.{NoteName}
use Rattle.lake_model.specs.NoteChanges.{notes_after}
use Rattle.lake_model.specs.Parts.{changed_at}
use Rattle.lake_model.specs.Uncommitted.{put_number}
use Rattle.core_changes.specs.declared.branch.BranchChange.TheVariants as branch
use Rattle.core_state.specs.BranchStates.{BranchStateValue, new_branch}
use Rattle.core_state.specs.FirstStates.{founded_names, founded_repository}
use Rattle.core_state.specs.NewCommits.{NewCommit, with_names, with_new_commit}
use Rattle.core_state.specs.RepositoryStates.{RepositoryStateValue}
use Rattle.core_state.specs.LakeStates.{LakeStateValue}
use Rattle.core_changes.specs.BranchChanges.{branch_after}

-- a repository is changed, where it is there
abbrev pub in_repository : List ℕ → (RepositoryStateValue → RepositoryStateValue) → LakeStateValue → LakeStateValue
in_repository repo change l = record l { repositories = changed_at repo change l.repositories }

-- a branch is changed, where it is there
abbrev pub in_branch : List ℕ → List ℕ → (BranchStateValue → BranchStateValue) → LakeStateValue → LakeStateValue
in_branch repo name change = in_repository repo (λ r. record r { branches = changed_at name change r.branches })

-- the history has one entry more
abbrev pub with_entry : LakeStateValue → LakeStateValue
with_entry l = record l { entries = l.entries + 1 }

-- the next version was given
abbrev pub with_version : LakeStateValue → LakeStateValue
with_version l = record l { next_version = l.next_version + 1 }

-- the next token was given
abbrev pub with_token : LakeStateValue → LakeStateValue
with_token l = record l { next_token = l.next_token + 1 }

-- references changed
abbrev pub with_references : LakeStateValue → LakeStateValue
with_references l = record l { references = l.references + 1 }

-- the ticket of a number goes
abbrev pub without_ticket : ℕ → LakeStateValue → LakeStateValue
without_ticket number l = record l { tickets = remove l.tickets number }

-- a repository is made: it is there with its names, and a version and a token were given
abbrev pub after_repository_create : List ℕ → List ℕ → ℕ → LakeStateValue → LakeStateValue
after_repository_create repo branch date l = with_entry (with_references (with_token (with_version (record l {
  repositories = insert l.repositories repo (founded_repository l.cut date branch l.next_version l.next_token);
  names = founded_names l.cut date repo l.names;
}))))

-- a number is given out
abbrev pub after_ticket_take : ℕ → LakeStateValue → LakeStateValue
after_ticket_take seat l =
    with_entry (record l { tickets = insert l.tickets l.next_number seat; next_number = l.next_number + 1 })

-- an upload is given up
abbrev pub after_ticket_drop : ℕ → LakeStateValue → LakeStateValue
after_ticket_drop number l = with_entry (without_ticket number l)

-- a change is staged, and the ticket of its number goes
abbrev pub after_stage : List ℕ → List ℕ → List ℕ → Change → LakeStateValue → LakeStateValue
after_stage repo name path change l =
    with_entry (in_branch repo name (branch_after (branch.Stage path change))
    (option_map_or (λ number. without_ticket number l) (put_number change) l))

-- an entry is copied: it is staged, and no ticket goes
abbrev pub after_copy : List ℕ → List ℕ → List ℕ → EntryValue → LakeStateValue → LakeStateValue
after_copy repo name path entry l = with_entry (in_branch repo name (branch_after (branch.Stage path (Put entry))) l)

-- changes are dropped
abbrev pub after_reset : List ℕ → List ℕ → ResetWhat → LakeStateValue → LakeStateValue
after_reset repo name what l =
    with_entry (with_version (in_branch repo name (branch_after (branch.Reset what l.next_version)) l))

-- staged changes are sealed
abbrev pub after_seal : List ℕ → List ℕ → LakeStateValue → LakeStateValue
after_seal repo name l =
    with_entry (with_token (with_version (in_branch repo name (branch_after (branch.Seal l.next_token l.next_version)) l)))

-- a branch has a new head
abbrev pub after_head : List ℕ → List ℕ → Digest → LakeStateValue → LakeStateValue
after_head repo name commit l = with_entry (with_references (with_version
    (in_branch repo name (branch_after (branch.Head commit l.next_version)) l)))

-- a new commit becomes the head of a branch
abbrev pub after_new_head : List ℕ → List ℕ → NewCommit → LakeStateValue → LakeStateValue
after_new_head repo branch new l = with_entry (with_references (with_version
    (record (in_repository repo (with_new_commit l.next_version branch new) l) { names = with_names repo new l.names })))

-- a branch is made
abbrev pub after_branch_create : List ℕ → List ℕ → Digest → LakeStateValue → LakeStateValue
after_branch_create repo name commit l =
    with_entry (with_references (with_token (with_version (in_repository repo
    (λ r. record r { branches = insert r.branches name (new_branch l.next_version commit l.next_token) }) l))))

-- a branch goes
abbrev pub after_branch_delete : List ℕ → List ℕ → LakeStateValue → LakeStateValue
after_branch_delete repo name l =
    with_entry (with_references (in_repository repo (λ r. record r { branches = remove r.branches name }) l))

-- a tag names a commit
abbrev pub after_tag_create : List ℕ → List ℕ → Digest → LakeStateValue → LakeStateValue
after_tag_create repo name commit l =
    with_entry (with_references (in_repository repo (λ r. record r { tags = insert r.tags name commit }) l))

-- a tag goes
abbrev pub after_tag_delete : List ℕ → List ℕ → LakeStateValue → LakeStateValue
after_tag_delete repo name l =
    with_entry (with_references (in_repository repo (λ r. record r { tags = remove r.tags name }) l))

-- a setting is set, or deleted where no new one is given
abbrev pub after_note_set : List ℕ → NoteName → Option Note → LakeStateValue → LakeStateValue
after_note_set repo name note l = with_entry (with_references (with_version (in_repository repo
    (λ r. record r { settings = l.next_version; notes = notes_after name note r.notes }) l)))

-- the store failed
abbrev pub after_fault : LakeStateValue → LakeStateValue
after_fault l = with_entry (record l { stopped = true })
