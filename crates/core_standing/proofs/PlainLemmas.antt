-- Names of branches and tags that are like no id.
use Rattle.std.proofs.Common.{◌≡◌, ℕ, List, false, ap, ◌∙◌}
use Rattle.std.specs.Prelude.{IsSome, is_some, option_map}
use Rattle.std.specs.FinMap.{get}
use Rattle.std.specs.Option.{ForSome}
use Rattle.lake_base.specs.Names.{is_like_id}
use Rattle.byte_map.proofs.ValuesLemmas.{get_map_values}
use Rattle.lake_model.specs.State.{Branch, Repository, State, HasBranch, HasRepository}
use Rattle.lake_model.specs.Soundness.{IsSound}
use Rattle.core_state.specs.RepositoryStates.{repository_of}
use Rattle.core_state.specs.LakeStates.{LakeStateValue, state_of}

module _ (state : State) (sound : IsSound state) (repo name : List ℕ) where
  -- of a branch that is there
  pub branch_plain : {P : Repository → Branch → Type 0} → HasBranch state repo name P → is_like_id name ≡ false
  branch_plain has = (sound.repositories repo has.0 has.1).plain_branches name (ap is_some has.2.1)

  -- of a tag that is there
  pub tag_plain : HasRepository state repo (λ r. IsSome (get r.tags name)) → is_like_id name ≡ false
  tag_plain has = (sound.repositories repo has.0 has.1).plain_tags name has.2

-- of the default branch of a repository
pub default_plain : (l : LakeStateValue) → IsSound (state_of l) → (repo : List ℕ)
    → ForSome (get l.repositories repo) (λ r. is_like_id r.default_branch ≡ false)
default_plain l sound repo r is =
    let there = get_map_values repository_of l.repositories repo ∙ ap (option_map repository_of) is in
    let one = sound.repositories repo (repository_of r) there in
    one.plain_branches r.default_branch one.default
