-- The first commit of a repository, a new repository in memory with its names, and the fresh lake.
use Rattle.std.specs.Prelude.{ℕ, false, List, None, codes}
use Rattle.std.specs.FinMap.{empty, insert}
use Rattle.lake_base.specs.declared.digest.Digest.{Digest}
use Rattle.lake_values.specs.Commit.{CommitRecordValue}
use Rattle.lake_format.specs.Cutting.{files, tree_id}
use Rattle.lake_format.specs.Spelling.{commit_id}
use Rattle.lake_format.specs.declared.cut.Cut.{Cut}
use Rattle.meta_range.specs.Ranges.{TreeValue, first_file}
use Rattle.lake_model.specs.Commits.{first_draft, record_of}
use Rattle.core_state.specs.BranchStates.{new_branch}
use Rattle.core_state.specs.RepositoryStates.{RepositoryStateValue}
use Rattle.core_state.specs.NameIndexes.{NameIndexValue, empty_index}
use Rattle.core_state.specs.LakeStates.{LakeStateValue}

-- ---- repositories

-- the first commit of a repository that is made at a date
unfoldable pub first_record : Cut → ℕ → CommitRecordValue
first_record cut date = record_of cut empty (first_draft date)

-- its id
unfoldable pub first_id : Cut → ℕ → Digest
first_id cut date = commit_id (first_record cut date)

-- its tree, of the empty map
abbrev pub first_tree : Cut → TreeValue
first_tree cut = record { map = empty; files = files cut empty }

-- A new repository, with its default branch at its first commit: the branch has this version, and stages under this
-- token.
abbrev pub founded_repository : Cut → ℕ → List ℕ → ℕ → ℕ → RepositoryStateValue
founded_repository cut date branch version token = record {
  created = date;
  default_branch = branch;
  settings = 0;
  branches = insert empty branch (new_branch version (first_id cut date) token);
  tags = empty;
  commits = insert empty (first_id cut date).0 (first_record cut date);
  trees = insert empty (first_id cut date).0 (first_tree cut);
  expired = empty;
  notes = record { retention = None; protection = None; hooks = None };
}

-- an index with the names of a new repository: of its first commit, and of the one file of its tree
abbrev pub founded_names : Cut → ℕ → List ℕ → NameIndexValue → NameIndexValue
founded_names cut date repo i = record {
  homes = insert i.homes (first_id cut date).0 repo;
  files = insert i.files (tree_id cut empty).0 (first_file (files cut empty));
}

-- ---- the fresh lake

-- a fresh lake: the repository `quickstart`, with the branch `main`, which has the version 1
abbrev pub fresh_lake : Cut → LakeStateValue
fresh_lake cut = record {
  cut = cut;
  repositories = insert empty (codes "quickstart") (founded_repository cut 0 (codes "main") 1 0);
  names = founded_names cut 0 (codes "quickstart") empty_index;
  tickets = empty;
  gone = empty;
  stopped = false;
  entries = 0;
  references = 0;
  next_number = 0;
  next_version = 2;
  next_token = 1;
}
