use Rattle.std.proofs.Common.{sym, ap, ◌∙◌, ◌==◌, List, length}
use Rattle.std.specs.FinMap.{get}
use Rattle.commit_graph.specs.Expressions.{RefExprValue}
use Rattle.commit_graph.specs.declared.expression.Move.{Move}
use Rattle.core_state.specs.RepositoryStates.{repository_value}
use Rattle.core_readings.proofs.TargetLemmas.{plain_if_found}
use Rattle.core_readings.proofs.targets.is_plain_branch.Goals as goal
use Rattle.core_readings.proofs.targets.is_plain_branch.Goals.{then-not-e, else-not-e}

pub returns-then-is_empty : goal.returns-then-is_empty
returns-then-is_empty c =
    elim c.if-not-e.branch [
      | then-not-e w ↦
          c.is_some.ensures
          ∙ plain_if_found (repository_value c.args.repository.now) c.args.e.now c.branch-repository.result
          (c.branch-repository.ensures ∙ ap (λ (e : RefExprValue). get (repository_value c.args.repository.now).branches e.name) c.e.view_is)
          (ap (λ (e : RefExprValue). e.at) (sym c.e.view_is) ∙ w.if-not-e.true)
          (ap (λ (m : List Move). length m == 0) (ap (λ (e : RefExprValue). e.moves) (sym c.e.view_is) ∙ sym w.as_slice.ensures) ∙ sym w.is_empty.ensures
          ∙ sym w.value-is ∙ c.if-is_empty.true)
      | else-not-e w ↦ absurd cc
    ]
