-- What joins a repository of a lake that is read.
use Rattle.std.specs.Prelude.{ℕ, Bool, List, if◌then◌else◌}
use Rattle.std.specs.FinMap.{insert}
use Rattle.lake_values.specs.Commit.{CommitRecordValue}
use Rattle.lake_values.specs.declared.entry.Change.{Change}
use Rattle.lake_format.specs.Spelling.{commit_id}
use Rattle.meta_range.specs.Ranges.{TreeValue}
use Rattle.branch_record.specs.Tokens.{with_change}
use Rattle.lake_model.specs.NoteChanges.{with_note}
use Rattle.lake_model.specs.Parts.{changed_at}
use Rattle.core_state.specs.BranchStates.{BranchStateValue, branch_value}
use Rattle.core_state.specs.NewCommits.{with_commit}
use Rattle.core_state.specs.RepositoryStates.{RepositoryStateValue}
use Rattle.core_filling.specs.declared.parts.Part.{Part}
use Rattle.core_filling.specs.declared.parts.Part.TheVariants as part

-- a branch with a change under a token, over those that are there
abbrev pub with_token_change : ℕ → List ℕ → Change → BranchStateValue → BranchStateValue
with_token_change token path change b = record b { tokens = with_change b.tokens token path change }

-- a repository with a commit under its id, with its tree, which may be expired
abbrev pub with_marked_commit : CommitRecordValue → TreeValue → Bool → RepositoryStateValue → RepositoryStateValue
with_marked_commit commit tree expired r = record (with_commit (record { id = commit_id commit; content = commit; tree = tree }) r) {
  expired = if expired then insert r.expired (commit_id commit).0 tt else r.expired;
}

-- a repository with a part
abbrev pub with_part : Part → RepositoryStateValue → RepositoryStateValue
with_part (part.Branch name branch) r = record r { branches = insert r.branches name (branch_value branch) }
with_part (part.Tag name commit) r = record r { tags = insert r.tags name commit }
with_part (part.Commit commit tree expired) r = with_marked_commit commit tree.value expired r
with_part (part.Setting note) r = record r { notes = with_note note r.notes }
with_part (part.Change branch token path change) r =
    record r { branches = changed_at branch.now (with_token_change token path change) r.branches }
