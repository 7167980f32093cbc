-- What the tests answer of branches and tags that are made at the commit of an expression.
use Rattle.std.proofs.Common.{◌≡◌, ℕ, Bool, List, Bor, refl, sym, ap, ◌∙◌}
use Rattle.std.proofs.lemmas.Result.{MatchResult-weaker}
use Rattle.std.specs.Prelude.{Option, Some, None, is_some, option_copied, option_map, option_and_then, Result, Ok, Err, MatchResult}
use Rattle.std.specs.FinMap.{get, contains_key}
use Rattle.std.specs.Result.{result_ok}
use Rattle.byte_map.proofs.ValuesLemmas.{contains_map_values}
use Rattle.lake_base.specs.declared.digest.Digest.{Digest}
use Rattle.commit_graph.specs.Expressions.{RefExprValue}
use Rattle.lake_model.specs.declared.fault.StepFault.{StepFault}
use Rattle.lake_model.specs.declared.fault.StepFault.TheVariants.{Exists}
use Rattle.lake_model.specs.State as model
use Rattle.lake_model.specs.State.{State}
use Rattle.lake_model.specs.Resolving.{expression_target}
use Rattle.lake_model.specs.Refusals.{Causes, cause_if, causes_of_change, first_cause, with_repository}
use Rattle.lake_model.specs.Steps.{expired_fault, holds_in, in_it, target_in, with_expression, with_live_target}
use Rattle.core_state.specs.BranchStates.{branch_of}
use Rattle.core_state.specs.RepositoryStates.{RepositoryStateValue, repository_of}
use Rattle.core_state.specs.LakeStates.{LakeStateValue, state_of}
use Rattle.core_causes.specs.Asking.{AsksFor}
use Rattle.core_causes.proofs.CommonLemmas.{asked, repository_passes, tested}
use Rattle.core_causes.proofs.ExpressionLemmas.{expression_refuses, name_passes, parent_passes, target_is}
use Rattle.core_causes.proofs.FirstCauseLemmas.{asks_for, change_passes, exists_refuses, expired_refuses, nothing_refuses}

-- what is made at the commit of an expression asks, with the cause of a name that is taken
abbrev creation_causes : State → List ℕ → RefExprValue → Option StepFault → Causes
creation_causes state repo e taken =
    with_live_target state repo e (with_expression state repo e (record (with_repository state repo (causes_of_change state)) { exists = taken }))

-- what is found in memory is there
pub found_some : {X Y : Type 0} (f : X → Y) (o : Option (Bor X)) (p : Option Y) → option_map f (option_copied o) ≡ p → is_some p ≡ is_some o
found_some f None p is = ap is_some (sym is)
found_some f (Some x) p is = ap is_some (sym is)

-- the cause of a branch that has the name, and of a tag
abbrev pub branch_cause : LakeStateValue → List ℕ → List ℕ → Option StepFault
branch_cause l repo name = cause_if (is_some (model.branch_of (state_of l) repo name)) Exists

abbrev pub tag_cause : LakeStateValue → List ℕ → List ℕ → Option StepFault
tag_cause l repo name = cause_if (holds_in (state_of l) repo (λ x. contains_key x.tags name)) Exists

module _ (l : LakeStateValue) (repo : List ℕ) (r : RepositoryStateValue) (at : get l.repositories repo ≡ Some r) where
  -- a branch of the name
  pub branch_taken : (name : List ℕ) (t : Bool) → is_some (get r.branches name) ≡ t
      → branch_cause l repo name ≡ cause_if t Exists
  branch_taken name t is =
      ap (λ o. cause_if (is_some o) Exists) (asked l repo r at (λ x. get x.branches name))
      ∙ ap (λ h. cause_if h Exists) (contains_map_values branch_of r.branches name ∙ is)

  -- a tag of the name
  pub tag_taken : (name : List ℕ) (t : Bool) → is_some (get r.tags name) ≡ t
      → tag_cause l repo name ≡ cause_if t Exists
  tag_taken name t is = ap (λ h. cause_if h Exists) (tested l repo r at (λ x. contains_key x.tags name) ∙ is)

  module _ (change : first_cause (causes_of_change (state_of l)) ≡ None) (e : RefExprValue) (taken : Option StepFault) where
    -- the expression leads nowhere
    pub creation_astray : (fault : StepFault) → expression_target (repository_of r) e ≡ Err fault
        → first_cause (creation_causes (state_of l) repo e taken) ≡ Some fault
    creation_astray fault is =
        expression_refuses l repo r at e (creation_causes (state_of l) repo e taken) (change_passes (state_of l) change)
        (repository_passes l repo r at) refl refl fault is

    module _ (id : Digest) (leads : expression_target (repository_of r) e ≡ Ok id) where
      -- the name is taken
      pub taken_first : taken ≡ Some Exists → first_cause (creation_causes (state_of l) repo e taken) ≡ Some Exists
      taken_first is =
          exists_refuses (creation_causes (state_of l) repo e taken) (change_passes (state_of l) change) (repository_passes l repo r at)
          (name_passes l repo r at e id leads) (parent_passes l repo r at e id leads) refl Exists is

      expired_is : in_it (state_of l) repo (λ x. option_and_then (expired_fault x) (target_in x e)) ≡ expired_fault (repository_of r) id
      expired_is =
          asked l repo r at (λ x. option_and_then (expired_fault x) (target_in x e))
          ∙ ap (λ answer. option_and_then (expired_fault (repository_of r)) (result_ok answer)) leads

      -- it isn't, by the answer of the test of the commit
      pub creation_answer : (answer : Result Digest StepFault) → taken ≡ None
          → MatchResult answer (λ x. (x ≡ id) × (expired_fault (repository_of r) id ≡ None)) (λ fault. expired_fault (repository_of r) id ≡ Some fault)
          → AsksFor (creation_causes (state_of l) repo e taken) (in_it (state_of l) repo (λ x. target_in x e)) answer
      creation_answer answer free test =
          let causes = creation_causes (state_of l) repo e taken in
          let passes = change_passes (state_of l) change in
          let repository = repository_passes l repo r at in
          let name = name_passes l repo r at e id leads in
          let parent = parent_passes l repo r at e id leads in
          asks_for causes (in_it (state_of l) repo (λ x. target_in x e)) answer (MatchResult-weaker answer test
          (λ x live. (
            nothing_refuses causes passes repository name parent refl free refl refl refl refl (expired_is ∙ live.1) refl,
            target_is l repo r at e id leads ∙ ap Some (sym live.0),
          ))
          (λ fault expired. expired_refuses causes passes repository name parent refl free refl refl refl refl fault (expired_is ∙ expired)))
