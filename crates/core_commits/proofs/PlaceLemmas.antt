-- A branch of a lake in memory that is there, with its repository, in the state that the lake stands for.
use Rattle.std.proofs.Common.{◌≡◌, List, ℕ, sym, ap, subst, ◌∙◌}
use Rattle.std.specs.Prelude.{Option, Some, None, option_map}
use Rattle.std.specs.FinMap.{get}
use Rattle.byte_map.proofs.ValuesLemmas.{get_map_values}
use Rattle.lake_model.specs.State.{Branch, Repository}
use Rattle.core_state.specs.BranchStates.{BranchStateValue, branch_of}
use Rattle.core_state.specs.LakeStates.{LakeStateValue, state_of}
use Rattle.core_state.specs.RepositoryStates.{RepositoryStateValue, repository_of}

-- what was found twice is the same
pub same_some : {X : Type 0} (x y : X) (o : Option X) → o ≡ Some x → o ≡ Some y → x ≡ y
same_some x y None is other = absurd cc
same_some x y (Some z) is other = cc

module _ (l : LakeStateValue) (repo branch : List ℕ) (r : RepositoryStateValue) (b : BranchStateValue)
    (at : get l.repositories repo ≡ Some r) (on : get r.branches branch ≡ Some b) where
  pub in_state : get (state_of l).repositories repo ≡ Some (repository_of r)
  in_state = get_map_values repository_of l.repositories repo ∙ ap (option_map repository_of) at

  pub on_state : get (repository_of r).branches branch ≡ Some (branch_of b)
  on_state = get_map_values branch_of r.branches branch ∙ ap (option_map branch_of) on

  -- what holds of them holds where a branch of the name is there
  pub where_there : (P : Repository → Branch → Type 0) → P (repository_of r) (branch_of b) → (q : Repository) (c : Branch)
      → get (state_of l).repositories repo ≡ Some q → get q.branches branch ≡ Some c → P q c
  where_there P holds q c there stands =
      let one : repository_of r ≡ q = same_some (repository_of r) q (get (state_of l).repositories repo) in_state there in
      let two : branch_of b ≡ c =
      same_some (branch_of b) c (get (repository_of r).branches branch) on_state (ap (λ (x : Repository). get x.branches branch) one ∙ stands) in
      subst (λ c. P q c) two (subst (λ q. P q (branch_of b)) one holds)

-- where it isn't there, anything holds of it
module _ (l : LakeStateValue) (repo branch : List ℕ) (P : Repository → Branch → Type 0) where
  abbrev Holds : Type 0
  Holds = (q : Repository) (c : Branch) → get (state_of l).repositories repo ≡ Some q → get q.branches branch ≡ Some c → P q c

  pub no_repository : get l.repositories repo ≡ None → Holds
  no_repository none q c there stands =
      absurd (let gone : get (state_of l).repositories repo ≡ None = get_map_values repository_of l.repositories repo ∙ ap (option_map repository_of) none in
      let both = sym gone ∙ there in cc)

  pub no_branch : (r : RepositoryStateValue) → get l.repositories repo ≡ Some r → get r.branches branch ≡ None → Holds
  no_branch r at none q c there stands =
      absurd (let found : get (state_of l).repositories repo ≡ Some (repository_of r) =
      get_map_values repository_of l.repositories repo ∙ ap (option_map repository_of) at in
      let one : repository_of r ≡ q = same_some (repository_of r) q (get (state_of l).repositories repo) found there in
      let gone : get (repository_of r).branches branch ≡ None = get_map_values branch_of r.branches branch ∙ ap (option_map branch_of) none in
      let both = sym gone ∙ ap (λ (x : Repository). get x.branches branch) one ∙ stands in cc)
