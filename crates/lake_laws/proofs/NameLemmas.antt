-- Branches and tags that no cause keeps from being made, or from going.
use Rattle.std.proofs.Common.{◌≡◌, ℕ, false, List, sym, ◌∙◌}
use Rattle.std.proofs.lemmas.Bool.{true≢false}
use Rattle.std.proofs.lemmas.Slice.Eq.{bytes_eq-Decides}
use Rattle.std.specs.Prelude.{Some, None, is_some, option_and_then}
use Rattle.std.specs.Str.{bytes_eq}
use Rattle.std.specs.FinMap.{get, contains_key}
use Rattle.lake_base.specs.declared.digest.Digest.{Digest}
use Rattle.commit_graph.specs.Expressions.{RefExprValue}
use Rattle.lake_model.specs.declared.fault.StepFault.TheVariants.{DefaultBranch, Exists}
use Rattle.lake_model.specs.State.{Repository, State, HasLiveCommit, branch_of}
use Rattle.lake_model.specs.Soundness.{IsSound}
use Rattle.lake_model.specs.Refusals.{cause_if}
use Rattle.lake_model.specs.Steps.{expired_fault, holds_in, in_it, target_in}
use Rattle.lake_laws.proofs.CauseLemmas.{test_fails}
use Rattle.lake_laws.proofs.PlaceLemmas.{asked, none_there, tested}
use Rattle.lake_laws.proofs.TargetLemmas.{target_there, target_live}

module _ (state : State) (repo : List ℕ) (r : Repository) (is : get state.repositories repo ≡ Some r) where
  -- no branch of the name is there
  pub branch_fresh : (name : List ℕ) → cause_if (is_some (branch_of state repo name)) Exists ≡ None → get r.branches name ≡ None
  branch_fresh name none =
      asked state repo (λ x. get x.branches name) r None is (none_there (branch_of state repo name) (test_fails _ Exists none))

  -- no tag of the name is there
  pub tag_fresh : (name : List ℕ) → cause_if (holds_in state repo (λ x. contains_key x.tags name)) Exists ≡ None → get r.tags name ≡ None
  tag_fresh name none =
      none_there (get r.tags name) (tested state repo (λ x. contains_key x.tags name) r false is (test_fails _ Exists none))

  -- the commit of the expression is there, and isn't expired
  pub live : (e : RefExprValue) (id : Digest) → IsSound state → in_it state repo (λ x. target_in x e) ≡ Some id
      → in_it state repo (λ x. option_and_then (expired_fault x) (target_in x e)) ≡ None → HasLiveCommit r id
  live e id sound leads none =
      let at = asked state repo (λ x. target_in x e) r (Some id) is leads in (
        target_there state.cut r (sound.repositories repo r is) e id at,
        target_live r e id at (asked state repo (λ x. option_and_then (expired_fault x) (target_in x e)) r None is none),
      )

  -- the branch isn't the default branch
  pub other : (name : List ℕ) → cause_if (holds_in state repo (λ x. bytes_eq x.default_branch name)) DefaultBranch ≡ None
      → r.default_branch ≡ name → ⊥
  other name none same =
      let differ = tested state repo (λ x. bytes_eq x.default_branch name) r false is (test_fails _ DefaultBranch none) in
      true≢false (sym ((bytes_eq-Decides r.default_branch name).1 same) ∙ differ)
