-- Versions, as counts over the history: by them a caller tells whether what it read still stands.
use Rattle.std.specs.Prelude.{◌<◌, ◌+◌, true, false, ℕ, Bool, List, [], ◌∷◌, option_and_then, codes, if◌then◌else◌}
use Rattle.std.specs.Option.{unwrap_or}
use Rattle.std.specs.FinMap.{empty, get, insert}
use Rattle.lake_base.specs.Maps.{ByteMap}
use Rattle.lake_model.specs.declared.history.HistoryEntry.{HistoryEntry}
use Rattle.lake_model.specs.declared.history.EntryKind.{EntryKind}
use Rattle.lake_model.specs.declared.history.EntryKind.TheVariants.{Accepted, Faulted}
use Rattle.lake_model.specs.declared.history.Operation.{Operation}
use Rattle.lake_model.specs.declared.history.Operation.TheVariants.{RepoCreate, BranchCreate, BranchDelete, TagCreate, TagDelete, Reset, Seal, Commit, Merge}
use Rattle.lake_model.specs.declared.history.Operation.TheVariants.{Pick, NoteSet, Expire}

-- the versions given so far
pub record VersionsGiven : Type 0 where
  -- the version that is given next
  pub next : ℕ
  -- the last one of each branch, by repository and name
  pub branches : ByteMap (ByteMap ℕ)
  -- the last one of each repository's settings
  pub settings : ByteMap ℕ
  -- how many entries so far changed what references lead to, a setting, or what is expired
  pub references : ℕ

-- the version of a branch: the last one given, 0 where none was
abbrev pub branch_version : VersionsGiven → List ℕ → List ℕ → ℕ
branch_version versions repo branch = unwrap_or (option_and_then (λ given. get given branch) (get versions.branches repo)) 0

-- the version of a repository's settings: the last one given, 0 where none was
abbrev pub settings_version : VersionsGiven → List ℕ → ℕ
settings_version versions repo = unwrap_or (get versions.settings repo) 0

-- who is given a version
pub data VersionHolder : Type 0 where
  Branch : (repo branch : List ℕ) → VersionHolder
  Settings : (repo : List ℕ) → VersionHolder
  Nobody : VersionHolder

-- whom an operation gives a version
abbrev pub version_holder : Operation → VersionHolder
version_holder (RepoCreate repo branch date) = Branch repo branch
version_holder (BranchCreate repo branch commit) = Branch repo branch
version_holder (Reset repo branch what) = Branch repo branch
version_holder (Seal repo branch why) = Branch repo branch
version_holder (Commit repo branch about) = Branch repo branch
version_holder (Merge repo branch source strategy about) = Branch repo branch
version_holder (Pick repo branch base source strategy about) = Branch repo branch
version_holder (NoteSet repo name value) = Settings repo
version_holder _ = Nobody

-- whether an operation changes what references lead to, a setting, or what is expired
abbrev pub moves_references : Operation → Bool
moves_references (RepoCreate repo branch date) = true
moves_references (BranchCreate repo branch commit) = true
moves_references (BranchDelete repo branch) = true
moves_references (TagCreate repo tag commit) = true
moves_references (TagDelete repo tag) = true
moves_references (Commit repo branch about) = true
moves_references (Merge repo branch source strategy about) = true
moves_references (Pick repo branch base source strategy about) = true
moves_references (NoteSet repo name value) = true
moves_references (Expire now commits) = true
moves_references _ = false

-- a branch is given the next version
abbrev pub with_branch_version : List ℕ → List ℕ → VersionsGiven → VersionsGiven
with_branch_version repo branch versions = record versions {
  next = versions.next + 1;
  branches = insert versions.branches repo (insert (unwrap_or (get versions.branches repo) empty) branch versions.next);
}

-- the settings of a repository are given the next version
abbrev pub with_settings_version : List ℕ → VersionsGiven → VersionsGiven
with_settings_version repo versions = record versions {
  next = versions.next + 1;
  settings = insert versions.settings repo versions.next;
}

-- a holder is given the next version
abbrev pub with_version : VersionHolder → VersionsGiven → VersionsGiven
with_version (Branch repo branch) versions = with_branch_version repo branch versions
with_version (Settings repo) versions = with_settings_version repo versions
with_version Nobody versions = versions

-- the versions after an operation
abbrev pub versions_after_operation : Operation → VersionsGiven → VersionsGiven
versions_after_operation operation versions =
    let given = with_version (version_holder operation) versions in
    record given { references = if moves_references operation then versions.references + 1 else versions.references }

-- the versions after what an entry says
abbrev pub versions_after_kind : EntryKind → VersionsGiven → VersionsGiven
versions_after_kind (Accepted operation) versions = versions_after_operation operation versions
versions_after_kind (Faulted operation) versions = versions

-- the versions after an entry
abbrev pub versions_after : VersionsGiven → HistoryEntry → VersionsGiven
versions_after versions entry = versions_after_kind entry.kind versions

-- the versions after entries, one after the other
abbrev pub count_versions : VersionsGiven → List HistoryEntry → VersionsGiven
count_versions versions [] = versions
count_versions versions (entry ∷ entries) = count_versions (versions_after versions entry) entries

-- every version given so far is below the next one
pub record AreBelowNext (versions : VersionsGiven) : Type 0 where
  pub branches : (repo branch : List ℕ) → branch_version versions repo branch < versions.next
  pub settings : (repo : List ℕ) → settings_version versions repo < versions.next

-- the versions of a fresh lake: its branch has 1, and the next one is 2
abbrev pub fresh_versions : VersionsGiven
fresh_versions = record {
  next = 2;
  branches = insert empty (codes "quickstart") (insert empty (codes "main") 1);
  settings = empty;
  references = 0;
}
