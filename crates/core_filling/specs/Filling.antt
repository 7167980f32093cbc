-- What joins a lake that is read.
use Rattle.std.specs.Prelude.{◌≡◌, ◌∷◌, false, ℕ, Bool, List, [], None}
use Rattle.std.specs.FinMap.{empty, insert}
use Rattle.lake_base.specs.declared.digest.Digest.{Digest}
use Rattle.lake_values.specs.Commit.{CommitRecordValue}
use Rattle.lake_format.specs.Spelling.{commit_id}
use Rattle.lake_format.specs.declared.cut.Cut.{Cut}
use Rattle.meta_range.specs.Ranges.{TreeValue}
use Rattle.core_state.specs.BranchStates.{BranchStateValue}
use Rattle.core_state.specs.LakeStates.{LakeStateValue}
use Rattle.core_state.specs.NameIndexes.{empty_index}
use Rattle.core_state.specs.NewCommits.{with_names}
use Rattle.core_state.specs.RepositoryStates.{RepositoryStateValue}
use Rattle.core_changes.specs.LakeChanges.{in_repository}
use Rattle.core_filling.specs.Parts.{with_marked_commit}
use Rattle.core_filling.specs.declared.commits.ReadCommit.{ReadCommit}

-- a lake of a cut without anything in it
abbrev pub bare_lake : Cut → LakeStateValue
bare_lake cut = record {
  cut = cut;
  repositories = empty;
  names = empty_index;
  tickets = empty;
  gone = empty;
  stopped = false;
  entries = 0;
  references = 0;
  next_number = 0;
  next_version = 0;
  next_token = 0;
}

-- a repository without anything in it
abbrev pub bare_repository : ℕ → List ℕ → ℕ → RepositoryStateValue
bare_repository created default_branch settings = record {
  created = created;
  default_branch = default_branch;
  settings = settings;
  branches = empty;
  tags = empty;
  commits = empty;
  trees = empty;
  expired = empty;
  notes = record { retention = None; protection = None; hooks = None };
}

-- a lake with such a repository
abbrev pub with_repository : List ℕ → ℕ → List ℕ → ℕ → LakeStateValue → LakeStateValue
with_repository repo created default_branch settings l =
    record l { repositories = insert l.repositories repo (bare_repository created default_branch settings) }

-- a branch without changes
abbrev pub bare_branch : ℕ → Digest → ℕ → List ℕ → BranchStateValue
bare_branch version head staging sealed =
    record { version = version; head = head; staging = staging; sealed = sealed; tokens = empty }

-- a lake with a branch, where its repository is there
abbrev pub with_branch : List ℕ → List ℕ → BranchStateValue → LakeStateValue → LakeStateValue
with_branch repo name b = in_repository repo (λ r. record r { branches = insert r.branches name b })

-- a commit that was read: its repository, what it says, its tree, and whether it is expired
pub record CommitRead : Type 0 where
  pub repo : List ℕ
  pub content : CommitRecordValue
  pub tree : TreeValue
  pub expired : Bool

abbrev pub commit_read : ReadCommit → CommitRead
commit_read read = record { repo = read.repo; content = read.commit; tree = read.tree.value; expired = read.expired }

-- a lake with a commit, where its repository is there, and with its names
abbrev pub with_read : CommitRead → LakeStateValue → LakeStateValue
with_read c l = record (in_repository c.repo (with_marked_commit c.content c.tree c.expired) l) {
  names = with_names c.repo (record { id = commit_id c.content; content = c.content; tree = c.tree }) l.names;
}

-- a lake with commits, the last of them first
abbrev pub with_commits : List CommitRead → LakeStateValue → LakeStateValue
with_commits [] l = l
with_commits (c ∷ commits) l = with_read c (with_commits commits l)

-- a commit that was read has the id of its bytes
abbrev pub IsNamed : ReadCommit → Type 0
IsNamed read = commit_id read.commit ≡ read.id
