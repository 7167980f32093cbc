-- What the causes of a step see of an expression.
use Rattle.std.proofs.Common.{◌≡◌, ℕ, false, List, ◌∷◌, refl, ap, ◌∙◌}
use Rattle.std.specs.Prelude.{Option, Some, None, is_none, Result, Ok, Err}
use Rattle.std.specs.FinMap.{get}
use Rattle.std.specs.Result.{result_err, result_ok}
use Rattle.lake_base.specs.declared.digest.Digest.{Digest}
use Rattle.commit_graph.specs.Expressions.{RefExprValue}
use Rattle.commit_graph.specs.Moves.{moves_target}
use Rattle.lake_model.specs.declared.fault.StepFault.{StepFault}
use Rattle.lake_model.specs.declared.fault.StepFault.TheVariants.{NoRef}
use Rattle.lake_model.specs.declared.fault.Reference.TheVariants.{Expression}
use Rattle.lake_model.specs.State.{Repository}
use Rattle.lake_model.specs.Resolving.{expression_target, moved_target, name_target, parent_fault}
use Rattle.lake_model.specs.Refusals.{Causes, cause_if, first_cause, first_of}
use Rattle.lake_model.specs.Steps.{holds_in, in_it, move_fault, target_in}
use Rattle.core_state.specs.RepositoryStates.{RepositoryStateValue, repository_of}
use Rattle.core_state.specs.LakeStates.{LakeStateValue, state_of}
use Rattle.core_causes.proofs.CommonLemmas.{asked, tested}
use Rattle.core_causes.proofs.FirstCauseLemmas.{PassesChange, after_parent, repository_passed}

-- a move that finds no parent is the first cause
no_parent : (answer : Result Digest ℕ) (fault : StepFault) (later : List (Option StepFault))
    → parent_fault answer ≡ Err fault → first_of (move_fault (result_err (parent_fault answer)) ∷ later) ≡ Some fault
no_parent (Ok id) fault later is = absurd cc
no_parent (Err number) fault later is = ap Some cc

-- a name that leads nowhere, or else a move that finds no parent
no_target : (r : Repository) (e : RefExprValue) (o : Option Digest) (fault : StepFault) (later : List (Option StepFault))
    → moved_target r e o ≡ Err fault
    → first_of (cause_if (is_none o) (NoRef Expression) ∷ move_fault (result_err (moved_target r e o)) ∷ later) ≡ Some fault
no_target r e None fault later is = ap Some cc
no_target r e (Some id) fault later is = no_parent (moves_target r.commits 0 id e.moves) fault later is

-- an expression that leads to a commit has a name that does
name_leads : (r : Repository) (e : RefExprValue) (o : Option Digest) (id : Digest) → moved_target r e o ≡ Ok id → is_none o ≡ false
name_leads r e None id is = absurd cc
name_leads r e (Some at) id is = refl

module _ (l : LakeStateValue) (repo : List ℕ) (r : RepositoryStateValue) (at : get l.repositories repo ≡ Some r) where
  module _ (e : RefExprValue) where
    name_is : cause_if (holds_in (state_of l) repo (λ x. is_none (name_target x e.name))) (NoRef Expression)
        ≡ cause_if (is_none (name_target (repository_of r) e.name)) (NoRef Expression)
    name_is = ap (λ h. cause_if h (NoRef Expression)) (tested l repo r at (λ x. is_none (name_target x e.name)))

    parent_is : in_it (state_of l) repo (λ x. move_fault (result_err (expression_target x e)))
        ≡ move_fault (result_err (expression_target (repository_of r) e))
    parent_is = asked l repo r at (λ x. move_fault (result_err (expression_target x e)))

    -- an expression that leads nowhere is the first cause
    pub expression_refuses : (c : Causes) → PassesChange c → c.repository ≡ None
        → c.reference ≡ cause_if (holds_in (state_of l) repo (λ x. is_none (name_target x e.name))) (NoRef Expression)
        → c.parent ≡ in_it (state_of l) repo (λ x. move_fault (result_err (expression_target x e)))
        → (fault : StepFault) → expression_target (repository_of r) e ≡ Err fault → first_cause c ≡ Some fault
    expression_refuses c change repository reference parent fault is =
        repository_passed c change repository (Some fault)
        ((λ i. first_of ((reference ∙ name_is) i ∷ (parent ∙ parent_is) i ∷ after_parent c))
        ∙ no_target (repository_of r) e (name_target (repository_of r) e.name) fault (after_parent c) is)

    -- one that leads to a commit is none
    module _ (id : Digest) (leads : expression_target (repository_of r) e ≡ Ok id) where
      pub name_passes : cause_if (holds_in (state_of l) repo (λ x. is_none (name_target x e.name))) (NoRef Expression) ≡ None
      name_passes =
          name_is ∙ ap (λ h. cause_if h (NoRef Expression)) (name_leads (repository_of r) e (name_target (repository_of r) e.name) id leads)

      pub parent_passes : in_it (state_of l) repo (λ x. move_fault (result_err (expression_target x e))) ≡ None
      parent_passes = parent_is ∙ ap (λ answer. move_fault (result_err answer)) leads

      -- and its commit is found
      pub target_is : in_it (state_of l) repo (λ x. target_in x e) ≡ Some id
      target_is = asked l repo r at (λ x. target_in x e) ∙ ap result_ok leads
