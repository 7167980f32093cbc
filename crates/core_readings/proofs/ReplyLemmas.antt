-- How a reply comes about: the repository first, then what its expression leads to, then the answer.
use Rattle.std.proofs.Common.{◌≡◌, ℕ, List, Some, None, sym, ap, subst, ◌∙◌}
use Rattle.std.specs.Prelude.{Result, Ok, Err}
use Rattle.std.specs.Option.{option_map_or}
use Rattle.std.specs.FinMap.{get}
use Rattle.lake_base.specs.declared.digest.Digest.{Digest}
use Rattle.commit_graph.specs.Expressions.{RefExprValue}
use Rattle.lake_model.specs.declared.fault.StepFault.{StepFault}
use Rattle.lake_model.specs.declared.fault.StepFault.TheVariants.{NoMemory, NoRepo}
use Rattle.lake_values.specs.KeyMap.{KeyMapValue}
use Rattle.lake_model.specs.Readings.{◌then◌, expression_map, map_at}
use Rattle.lake_model.specs.Refusals.{Gives}
use Rattle.lake_model.specs.Resolving.{expression_target, in_repository_of}
use Rattle.lake_model.specs.State.{Repository}
use Rattle.core_state.specs.declared.repository.RepositoryState.{RepositoryState}
use Rattle.core_state.specs.LakeStates.{LakeStateValue, state_of}
use Rattle.core_state.specs.RepositoryStates.{repository_value}
use Rattle.core_readings.proofs.PlacesLemmas.{found_repository, repository_at}

module _ {X : Type 0} where
  -- the reply itself
  pub gives_same : (answer reply : Result X StepFault) → answer ≡ reply → Gives answer reply
  gives_same (Err NoMemory) reply is = tt
  gives_same answer reply is = is

  -- out of memory
  pub gives_no_memory : (fault : StepFault) (reply : Result X StepFault) → fault ≡ NoMemory → Gives (Err fault) reply
  gives_no_memory fault reply is = subst (λ f. Gives (Err f) reply) (sym is) tt

  -- the repository isn't there
  pub in_none : (l : LakeStateValue) (name : List ℕ) (f : Repository → Result X StepFault) → None ≡ get l.repositories name
      → Err NoRepo ≡ in_repository_of (state_of l) name f
  in_none l name f is = sym (ap (λ o. option_map_or f o (Err NoRepo)) (found_repository l name None is))

  -- it is
  pub in_some : (l : LakeStateValue) (name : List ℕ) (f : Repository → Result X StepFault) (r : RepositoryState)
      → Some (repository_value r) ≡ get l.repositories name
      → f (repository_at r) ≡ in_repository_of (state_of l) name f
  in_some l name f r is = sym (ap (λ o. option_map_or f o (Err NoRepo)) (found_repository l name (Some r) is))

-- ---- one step, and then the next

module _ {X Y : Type 0} (first : Result X StepFault) (next : X → Result Y StepFault) where
  pub then_ok : (x : X) → Ok x ≡ first → next x ≡ first then next
  then_ok x is = ap (λ a. a then next) is

  pub then_err : (fault : StepFault) → Err fault ≡ first → Err fault ≡ first then next
  then_err fault is = ap (λ a. a then next) is

-- ---- what an expression leads to

module _ {X : Type 0} (l : LakeStateValue) (name : List ℕ) (e : RefExprValue) (r : RepositoryState)
    (there : Some (repository_value r) ≡ get l.repositories name) where
  -- it leads nowhere
  pub target_err : (next : Repository → Digest → Result X StepFault) (fault : StepFault) → Err fault ≡ expression_target (repository_at r) e
      → Err fault ≡ in_repository_of (state_of l) name (λ q. expression_target q e then next q)
  target_err next fault is =
      then_err (expression_target (repository_at r) e) (next (repository_at r)) fault is
      ∙ in_some l name (λ q. expression_target q e then next q) r there

  -- it leads to a commit
  pub target_ok : (next : Repository → Digest → Result X StepFault) (id : Digest) → Ok id ≡ expression_target (repository_at r) e
      → next (repository_at r) id ≡ in_repository_of (state_of l) name (λ q. expression_target q e then next q)
  target_ok next id is =
      then_ok (expression_target (repository_at r) e) (next (repository_at r)) id is
      ∙ in_some l name (λ q. expression_target q e then next q) r there

  -- so no map is read
  pub map_err : (next : Repository → KeyMapValue → Result X StepFault) (fault : StepFault) → Err fault ≡ expression_target (repository_at r) e
      → Err fault ≡ in_repository_of (state_of l) name (λ q. expression_map q e then next q)
  map_err next fault is =
      then_err (expression_map (repository_at r) e) (next (repository_at r)) fault
      (then_err (expression_target (repository_at r) e) (λ id. Ok (map_at (repository_at r) e id)) fault is)
      ∙ in_some l name (λ q. expression_map q e then next q) r there

  -- so the map there is read
  pub map_ok : (next : Repository → KeyMapValue → Result X StepFault) (id : Digest) → Ok id ≡ expression_target (repository_at r) e
      → next (repository_at r) (map_at (repository_at r) e id) ≡ in_repository_of (state_of l) name (λ q. expression_map q e then next q)
  map_ok next id is =
      then_ok (expression_map (repository_at r) e) (next (repository_at r)) (map_at (repository_at r) e id)
      (then_ok (expression_target (repository_at r) e) (λ i. Ok (map_at (repository_at r) e i)) id is)
      ∙ in_some l name (λ q. expression_map q e then next q) r there
