-- The versions, the tokens and the counts of a lake that was just opened.
use Rattle.std.proofs.Common.{◌≡◌, ◌<◌, ◌≤◌, ◌+◌, ◌^◌, ℕ, List, [], refl, arith}
use Rattle.std.specs.Prelude.{Option, Some, None, option_map, option_and_then}
use Rattle.std.specs.Option.{unwrap_or}
use Rattle.std.specs.FinMap.{get}
use Rattle.byte_map.specs.Values.{map_values}
use Rattle.byte_map.proofs.ValuesLemmas.{get_map_values}
use Rattle.lake_model.specs.Versions.{AreBelowNext, VersionsGiven}
use Rattle.core_state.specs.BranchStates.{BranchStateValue}
use Rattle.core_state.specs.Counts.{AreCounted, HasVersions, versions_of}
use Rattle.core_state.specs.RepositoryStates.{RepositoryStateValue}
use Rattle.core_state.specs.LakeStates.{LakeStateValue}
use Rattle.core_changes.specs.FreshTokens.{AreTokensBelow}
use Rattle.core_standing.specs.Standing.{HasNoHistory}
use Rattle.core_standing.specs.Ties.{AreTied}

-- the next version is above 0, and above each version that is there
record AreBelow (l : LakeStateValue) : Type 0 where
  pub some_next : 0 < l.next_version
  pub branches : (repo : List ℕ) (r : RepositoryStateValue) (branch : List ℕ) (b : BranchStateValue) → get l.repositories repo ≡ Some r
      → get r.branches branch ≡ Some b → b.version < l.next_version
  pub settings : (repo : List ℕ) (r : RepositoryStateValue) → get l.repositories repo ≡ Some r → r.settings < l.next_version

module _ (l : LakeStateValue) (below : AreBelow l) (repo : List ℕ) where
  -- that of a branch, where it is there
  branch_by : (r : RepositoryStateValue) → get l.repositories repo ≡ Some r → (branch : List ℕ) (o : Option BranchStateValue) → get r.branches branch ≡ o
      → unwrap_or (option_map (λ b. b.version) o) 0 < l.next_version
  branch_by r is branch (Some b) there = below.branches repo r branch b is there
  branch_by r is branch None there = below.some_next

  branches_by : (branch : List ℕ) (o : Option RepositoryStateValue) → get l.repositories repo ≡ o
      → unwrap_or (option_and_then (λ given. get given branch) (option_map (λ r. map_values (λ b. b.version) r.branches) o)) 0 < l.next_version
  branches_by branch (Some r) is =
      let found = get_map_values (λ b. b.version) r.branches branch in
      rw found (branch_by r is branch (get r.branches branch) refl)
  branches_by branch None is = below.some_next

  settings_by : (o : Option RepositoryStateValue) → get l.repositories repo ≡ o → unwrap_or (option_map (λ r. r.settings) o) 0 < l.next_version
  settings_by (Some r) is = below.settings repo r is
  settings_by None is = below.some_next

below_next : (l : LakeStateValue) → AreBelow l → AreBelowNext (versions_of l)
below_next l below = record {
  branches = λ repo branch.
      rw (get_map_values (λ (r : RepositoryStateValue). map_values (λ (b : BranchStateValue). b.version) r.branches) l.repositories repo)
      (branches_by l below repo branch (get l.repositories repo) refl);
  settings = λ repo.
      rw (get_map_values (λ (r : RepositoryStateValue). r.settings) l.repositories repo)
      (settings_by l below repo (get l.repositories repo) refl);
}

pub versions_below : (given : VersionsGiven) (l : LakeStateValue) → HasVersions given l → AreBelowNext given → AreBelowNext (versions_of l)
versions_below given l has below =
    let next = has.next in
    below_next l (record {
      some_next = let less = below.settings [] in omega arith;
      branches = λ repo r branch b is there.
          let less = below.branches repo branch in let same = has.branches repo r branch b is there in omega arith;
      settings = λ repo r is.
          let less = below.settings repo in let same = has.settings repo r is in omega arith;
    })

-- what pairs that agree with one another tell
pub tied_versions : (l : LakeStateValue) → AreTied l → AreBelowNext (versions_of l)
tied_versions l tied = below_next l (record {
  some_next = tied.some_version;
  branches = λ repo r branch b is there. (tied.branches repo r branch b is there).version;
  settings = tied.settings;
})

pub tied_tokens : (l : LakeStateValue) → AreTied l → AreTokensBelow l
tied_tokens l tied repo r branch b is there =
    let at = tied.branches repo r branch b is there in
    record { distinct = at.distinct; named = at.tokens; used = λ token under. at.tokens token (at.named token under) }

pub tied_counts : (l : LakeStateValue) → HasNoHistory l → AreTied l → AreCounted l
tied_counts l fresh tied =
    let none = fresh.entries in
    let unmoved = fresh.references in
    let number = tied.numbers in
    let version = tied.versions in
    let token = tied.tokens in
    record { references = omega arith; numbers = omega arith; versions = omega arith; tokens = omega arith }
