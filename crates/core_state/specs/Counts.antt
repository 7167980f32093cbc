-- The versions of a lake in memory are those that were counted over its history, and its counts are small.
use Rattle.std.specs.Prelude.{◌≡◌, ◌≤◌, ◌<◌, ◌+◌, ◌^◌, ℕ, List, Some, None}
use Rattle.std.specs.FinMap.{get}
use Rattle.byte_map.specs.Values.{map_values}
use Rattle.lake_model.specs.Versions.{VersionsGiven, branch_version, settings_version}
use Rattle.core_state.specs.BranchStates.{BranchStateValue}
use Rattle.core_state.specs.RepositoryStates.{RepositoryStateValue}
use Rattle.core_state.specs.LakeStates.{LakeStateValue}

-- the versions that were given are those that a lake in memory has, and settings of a repository that isn't there had none
pub record HasVersions (given : VersionsGiven) (l : LakeStateValue) : Type 0 where
  pub next : given.next ≡ l.next_version
  pub references : given.references ≡ l.references
  pub branches : (repo : List ℕ) (r : RepositoryStateValue) (branch : List ℕ) (b : BranchStateValue)
      → get l.repositories repo ≡ Some r → get r.branches branch ≡ Some b
      → branch_version given repo branch ≡ b.version
  pub settings : (repo : List ℕ) (r : RepositoryStateValue) → get l.repositories repo ≡ Some r
      → settings_version given repo ≡ r.settings
  pub unset : (repo : List ℕ) → get l.repositories repo ≡ None → settings_version given repo ≡ 0

-- the versions that a lake in memory tells of
abbrev pub versions_of : LakeStateValue → VersionsGiven
versions_of l = record {
  next = l.next_version;
  branches = map_values (λ r. map_values (λ b. b.version) r.branches) l.repositories;
  settings = map_values (λ r. r.settings) l.repositories;
  references = l.references;
}

-- A lake was opened with counts below 2^63, and since then each entry counted at most one.
pub record AreCounted (l : LakeStateValue) : Type 0 where
  pub references : l.references ≤ l.entries
  pub numbers : l.next_number < 2 ^ 63 + l.entries
  pub versions : l.next_version < 2 ^ 63 + l.entries
  pub tokens : l.next_token < 2 ^ 63 + l.entries

-- so it is, and the history has room for one entry more
pub record AreFew (l : LakeStateValue) : Type 0 where
  pub counted : AreCounted l
  pub room : l.entries < 4194304
