-- A repository or a branch that is asked for is there.
use Rattle.std.proofs.Common.{◌≡◌, ℕ, Bool, false, not, List, refl, sym, ap, ◌∙◌}
use Rattle.std.specs.Prelude.{Option, Some, None, IsSome, is_some, option_map, option_and_then}
use Rattle.std.specs.Option.{option_map_or}
use Rattle.std.specs.FinMap.{get, contains_key}
use Rattle.lake_laws.proofs.LookupLemmas.{of_some, some_is}
use Rattle.lake_model.specs.declared.fault.StepFault.TheVariants.{NoRepo, NoRef, Protected}
use Rattle.lake_model.specs.declared.fault.Reference.TheVariants.{Named}
use Rattle.lake_model.specs.State.{Branch, Repository, State, HasRepository, HasBranch, branch_of}
use Rattle.lake_model.specs.Branches.{IsUnprotected, protected_by}
use Rattle.lake_model.specs.Refusals.{cause_if, protection_of}
use Rattle.lake_model.specs.Steps.{in_it, holds_in}
use Rattle.lake_laws.proofs.CauseLemmas.{test_holds, cause_not}

-- a repository that is there is one that has P
pub there : (state : State) (repo : List ℕ) (P : Repository → Type 0)
    → cause_if (not (contains_key state.repositories repo)) NoRepo ≡ None
    → ((r : Repository) → get state.repositories repo ≡ Some r → P r) → HasRepository state repo P
there state repo P none holds =
    let r = of_some (get state.repositories repo) (test_holds _ NoRepo none) in
    (r.0, r.1, holds r.0 r.1)

-- a branch of a repository that was looked for
record BranchIn (branch : List ℕ) (o : Option Repository) : Type 0 where
  r : Repository
  b : Branch
  in_lake : o ≡ Some r
  in_repository : get r.branches branch ≡ Some b

-- a branch that is there is in a repository that is there
branch_in : (branch : List ℕ) (o : Option Repository) → IsSome (option_and_then (λ r. get r.branches branch) o) → BranchIn branch o
branch_in branch None some = absurd cc
branch_in branch (Some r) some =
    let b = of_some (get r.branches branch) some in
    record { r = r; b = b.0; in_lake = refl; in_repository = b.1 }

-- a branch that is there is one that has P
pub branch_there : (state : State) (repo branch : List ℕ) (P : Repository → Branch → Type 0)
    → cause_if (not (is_some (branch_of state repo branch))) (NoRef Named) ≡ None
    → ((r : Repository) (b : Branch) → get state.repositories repo ≡ Some r → get r.branches branch ≡ Some b → P r b)
    → HasBranch state repo branch P
branch_there state repo branch P none holds =
    let at = branch_in branch (get state.repositories repo) (test_holds _ (NoRef Named) none) in
    (at.r, at.in_lake, (at.b, at.in_repository, holds at.r at.b at.in_lake at.in_repository))

unprotected_of : (o : Option ℕ) → option_map Protected o ≡ None → o ≡ None
unprotected_of None none = refl
unprotected_of (Some pattern) none = absurd cc

-- what is asked of a repository that is there
pub asked : {X : Type 0} (state : State) (repo : List ℕ) (f : Repository → Option X) (r : Repository) (o : Option X)
    → get state.repositories repo ≡ Some r → in_it state repo f ≡ o → f r ≡ o
asked state repo f r o is answer = ap (option_and_then f) (sym is) ∙ answer

-- and the other way round
pub answered : {X : Type 0} (state : State) (repo : List ℕ) (f : Repository → Option X) (r : Repository) (o : Option X)
    → get state.repositories repo ≡ Some r → f r ≡ o → in_it state repo f ≡ o
answered state repo f r o is answer = ap (option_and_then f) is ∙ answer

-- what is tested of a repository that is there
pub tested : (state : State) (repo : List ℕ) (test : Repository → Bool) (r : Repository) (b : Bool)
    → get state.repositories repo ≡ Some r → holds_in state repo test ≡ b → test r ≡ b
tested state repo test r b is answer = ap (λ o. option_map_or test o false) (sym is) ∙ answer

pub test_answered : (state : State) (repo : List ℕ) (test : Repository → Bool) (r : Repository) (b : Bool)
    → get state.repositories repo ≡ Some r → test r ≡ b → holds_in state repo test ≡ b
test_answered state repo test r b is answer = ap (λ o. option_map_or test o false) is ∙ answer

-- what is not there is nothing
pub none_there : {X : Type 0} (o : Option X) → is_some o ≡ false → o ≡ None
none_there None is = refl
none_there (Some x) is = absurd cc

-- a branch whose protection is no cause is unprotected
pub unprotected : (state : State) (repo branch : List ℕ) (r : Repository) → get state.repositories repo ≡ Some r
    → protection_of state repo branch ≡ None → IsUnprotected r branch
unprotected state repo branch r is none =
    unprotected_of (protected_by r.notes.protection branch)
    (asked state repo (λ x. option_map Protected (protected_by x.notes.protection branch)) r None is none)

-- and the other way round
pub unprotected_is : (state : State) (repo branch : List ℕ) (r : Repository) → get state.repositories repo ≡ Some r
    → IsUnprotected r branch → protection_of state repo branch ≡ None
unprotected_is state repo branch r is free =
    answered state repo (λ x. option_map Protected (protected_by x.notes.protection branch)) r None is (ap (option_map Protected) free)

-- a repository that is there is no cause
pub repository_none : (state : State) (repo : List ℕ) (r : Repository) → get state.repositories repo ≡ Some r
    → cause_if (not (contains_key state.repositories repo)) NoRepo ≡ None
repository_none state repo r is = cause_not _ NoRepo (some_is (get state.repositories repo) r is)

-- nor is a branch that is there
pub branch_none : (state : State) (repo branch : List ℕ) (r : Repository) (b : Branch) → get state.repositories repo ≡ Some r
    → get r.branches branch ≡ Some b → cause_if (not (is_some (branch_of state repo branch))) (NoRef Named) ≡ None
branch_none state repo branch r b is has =
    cause_not _ (NoRef Named) (some_is (branch_of state repo branch) b (answered state repo (λ x. get x.branches branch) r (Some b) is has))
