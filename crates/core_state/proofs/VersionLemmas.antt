-- The versions that a lake in memory tells of.
use Rattle.std.proofs.Common.{◌≡◌, ℕ, List, refl, ap, ◌∙◌}
use Rattle.std.specs.Prelude.{Option, Some, None, option_map, option_and_then}
use Rattle.std.specs.Option.{unwrap_or}
use Rattle.std.specs.FinMap.{get}
use Rattle.byte_map.specs.Values.{map_values}
use Rattle.byte_map.proofs.ValuesLemmas.{get_map_values}
use Rattle.core_state.specs.BranchStates.{BranchStateValue}
use Rattle.core_state.specs.RepositoryStates.{RepositoryStateValue}
use Rattle.core_state.specs.LakeStates.{LakeStateValue}
use Rattle.core_state.specs.Counts.{HasVersions, versions_of}

module _ (l : LakeStateValue) (repo : List ℕ) where
  -- what is found of a repository that is there, and of one that isn't
  found : {X : Type 0} (f : RepositoryStateValue → X) (o : Option RepositoryStateValue) → get l.repositories repo ≡ o
      → get (map_values f l.repositories) repo ≡ option_map f o
  found f o is = get_map_values f l.repositories repo ∙ ap (option_map f) is

  branch_told : (r : RepositoryStateValue) (branch : List ℕ) (b : BranchStateValue)
      → get l.repositories repo ≡ Some r → get r.branches branch ≡ Some b
      → unwrap_or (option_and_then (λ given. get given branch)
      (get (map_values (λ r. map_values (λ b. b.version) r.branches) l.repositories) repo)) 0 ≡ b.version
  branch_told r branch b here there =
      ap (λ o. unwrap_or (option_and_then (λ given. get given branch) o) 0) (found (λ r. map_values (λ b. b.version) r.branches) (Some r) here)
      ∙ ap (λ o. unwrap_or o 0) (get_map_values (λ b. b.version) r.branches branch ∙ ap (option_map (λ b. b.version)) there)

pub has_versions : (l : LakeStateValue) → HasVersions (versions_of l) l
has_versions l = record {
  next = refl;
  references = refl;
  branches = λ repo r branch b. branch_told l repo r branch b;
  settings = λ repo r here. ap (λ o. unwrap_or o 0) (found l repo (λ r. r.settings) (Some r) here);
  unset = λ repo none. ap (λ o. unwrap_or o 0) (found l repo (λ r. r.settings) None none);
}
