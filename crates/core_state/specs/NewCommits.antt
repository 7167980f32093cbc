-- A new commit in memory, which becomes the head of a branch, with its names.
use Rattle.std.specs.Prelude.{ℕ, List, [], ◌∷◌}
use Rattle.std.specs.FinMap.{empty, insert}
use Rattle.lake_base.specs.Maps.{ByteMap}
use Rattle.lake_base.specs.declared.digest.Digest.{Digest}
use Rattle.lake_values.specs.Ancestry.{Graph}
use Rattle.lake_values.specs.Commit.{CommitRecordValue}
use Rattle.lake_format.specs.Cutting.{files}
use Rattle.lake_format.specs.Spelling.{commit_id, file_name}
use Rattle.lake_format.specs.declared.cut.Cut.{Cut}
use Rattle.meta_range.specs.Ranges.{TreeValue}
use Rattle.branch_record.specs.Tokens.{with_each}
use Rattle.lake_model.specs.Commits.{Draft, record_of}
use Rattle.lake_model.specs.Parts.{changed_at}
use Rattle.core_state.specs.BranchStates.{BranchStateValue}
use Rattle.core_state.specs.NameIndexes.{NameIndexValue}
use Rattle.core_state.specs.RepositoryStates.{RepositoryStateValue}

-- a new commit: its id, what it says, and its tree
pub record NewCommit : Type 0 where
  pub id : Digest
  pub content : CommitRecordValue
  pub tree : TreeValue

-- the commit of a draft: its tree is that of the draft's map, with the files that the cut gives
abbrev pub commit_of_draft : Cut → Graph → Draft → NewCommit
commit_of_draft cut graph draft = record {
  id = commit_id (record_of cut graph draft);
  content = record_of cut graph draft;
  tree = record { map = draft.objects; files = files cut draft.objects };
}

-- a repository with a new commit
abbrev pub with_commit : NewCommit → RepositoryStateValue → RepositoryStateValue
with_commit new r = record r {
  commits = insert r.commits new.id.0 new.content;
  trees = insert r.trees new.id.0 new.tree;
}

-- a branch with a new head: it has a new version, nothing is sealed, and what stood under its sealed tokens is gone
abbrev pub with_new_head : ℕ → Digest → BranchStateValue → BranchStateValue
with_new_head version id b =
    record b { version = version; head = id; sealed = []; tokens = with_each b.sealed (λ _. empty) b.tokens }

-- a repository with a new commit, which is the head of a branch
abbrev pub with_new_commit : ℕ → List ℕ → NewCommit → RepositoryStateValue → RepositoryStateValue
with_new_commit version branch new r =
    record (with_commit new r) { branches = changed_at branch (with_new_head version new.id) r.branches }

-- files under their names
abbrev pub with_files : List (List ℕ) → ByteMap (List ℕ) → ByteMap (List ℕ)
with_files [] kept = kept
with_files (file ∷ files) kept = insert (with_files files kept) (file_name file).0 file

-- an index with the names of a new commit and of the files of its tree
abbrev pub with_names : List ℕ → NewCommit → NameIndexValue → NameIndexValue
with_names repo new i = record { homes = insert i.homes new.id.0 repo; files = with_files new.tree.files i.files }
