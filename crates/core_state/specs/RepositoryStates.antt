-- A repository in memory.
use Rattle.std.specs.Prelude.{◌≡◌, ℕ, List, Some, option_map}
use Rattle.std.specs.FinMap.{get}
use Rattle.lake_base.specs.Maps.{ByteMap}
use Rattle.lake_base.specs.declared.digest.Digest.{Digest}
use Rattle.lake_values.specs.Ancestry.{Graph}
use Rattle.byte_map.specs.Values.{map_values, some_values}
use Rattle.meta_range.specs.Ranges.{TreeValue}
use Rattle.lake_model.specs.State.{Branch, Notes, Repository, HasCommit}
use Rattle.core_state.specs.declared.repository.RepositoryState.{RepositoryState}
use Rattle.core_state.specs.BranchStates.{BranchStateValue, branch_of, branch_value}

-- a repository in memory, its settings with their version
pub record RepositoryStateValue : Type 0 where
  pub created : ℕ
  pub default_branch : List ℕ
  pub settings : ℕ
  pub branches : ByteMap BranchStateValue
  pub tags : ByteMap Digest
  pub commits : Graph
  -- the tree of each commit: its map and its files
  pub trees : ByteMap TreeValue
  pub expired : ByteMap (Unit {0})
  pub notes : Notes

-- its settings, each where it is set
abbrev pub notes_of : RepositoryState → Notes
notes_of r = record { retention = r.retention; protection = r.protection; hooks = r.hooks }

-- what a repository in memory says, without the room that it has for what may come: a name under which nothing stands
-- is room for a branch or a tag
abbrev pub repository_value : RepositoryState → RepositoryStateValue
repository_value r = record {
  created = r.created;
  default_branch = r.default_branch;
  settings = r.settings;
  branches = some_values (option_map branch_value) r.branches;
  tags = some_values (λ tag. tag) r.tags;
  commits = r.graph;
  trees = map_values (λ tree. tree.value) r.trees;
  expired = r.expired;
  notes = notes_of r;
}

-- the repository that it stands for
abbrev pub repository_of : RepositoryStateValue → Repository
repository_of r = record {
  created = r.created;
  default_branch = r.default_branch;
  branches = map_values branch_of r.branches;
  tags = r.tags;
  commits = r.commits;
  maps = map_values (λ tree. tree.map) r.trees;
  expired = r.expired;
  notes = r.notes;
}

-- heads and tagged commits are there
pub record HasTargets (r : Repository) : Type 0 where
  pub heads : (name : List ℕ) (b : Branch) → get r.branches name ≡ Some b → HasCommit r b.head
  pub tagged : (name : List ℕ) (id : Digest) → get r.tags name ≡ Some id → HasCommit r id
