-- Readings of commits that are expired.
use Rattle.std.specs.Prelude.{◌≡◌, ℕ, true, false, List, Some, Ok}
use Rattle.std.specs.FinMap.{get}
use Rattle.lake_base.specs.declared.digest.Digest.{Digest}
use Rattle.commit_graph.specs.Expressions.{RefExprValue}
use Rattle.lake_model.specs.State.{Repository, State, is_expired}
use Rattle.lake_model.specs.Resolving.{expression_target, is_plain_branch}

-- an expression leads to a commit that is expired, and not by the plain name of a branch
pub record ReadsExpired (state : State) (repo : List ℕ) (e : RefExprValue) : Type 0 where
  pub repository : Repository
  pub stands : get state.repositories repo ≡ Some repository
  pub id : Digest
  pub leads : expression_target repository e ≡ Ok id
  pub not_plain : is_plain_branch repository e ≡ false
  pub expired : is_expired repository id ≡ true
