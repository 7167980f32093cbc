-- What stands under a name of a lake and of a repository in memory, and in the state that it stands for.
use Rattle.std.proofs.Common.{◌≡◌, ℕ, List, Some, None, Option, option_map, refl, sym, ap, ◌∙◌}
use Rattle.std.specs.FinMap.{get}
use Rattle.byte_map.proofs.ValuesLemmas.{get_map_values}
use Rattle.lake_model.specs.State.{Branch, Repository}
use Rattle.lake_model.specs.Soundness.{IsSound}
use Rattle.core_state.specs.declared.branch.BranchState.{BranchState}
use Rattle.core_state.specs.declared.repository.RepositoryState.{RepositoryState}
use Rattle.core_state.specs.BranchStates.{branch_of, branch_value}
use Rattle.core_state.specs.LakeStates.{LakeStateValue, state_of}
use Rattle.core_state.specs.RepositoryStates.{HasTargets, RepositoryStateValue, repository_of, repository_value}

twice : {X Y Z : Type 0} (f : X → Y) (g : Y → Z) (o : Option X) → option_map g (option_map f o) ≡ option_map (λ x. g (f x)) o
twice f g None = refl
twice f g (Some x) = refl

-- the branch that a branch in memory stands for
abbrev pub branch_at : BranchState → Branch
branch_at b = branch_of (branch_value b)

-- the repository that a repository in memory stands for
abbrev pub repository_at : RepositoryState → Repository
repository_at r = repository_of (repository_value r)

-- the branch that is found stands for the one that is there
pub found_branch : (r : RepositoryStateValue) (name : List ℕ) (o : Option BranchState) → option_map branch_value o ≡ get r.branches name
    → get (repository_of r).branches name ≡ option_map branch_at o
found_branch r name o is =
    get_map_values branch_of r.branches name ∙ ap (option_map branch_of) (sym is) ∙ twice branch_value branch_of o

-- the repository that is found stands for the one that is there
pub found_repository : (l : LakeStateValue) (name : List ℕ) (o : Option RepositoryState) → option_map repository_value o ≡ get l.repositories name
    → get (state_of l).repositories name ≡ option_map repository_at o
found_repository l name o is =
    get_map_values repository_of l.repositories name ∙ ap (option_map repository_of) (sym is) ∙ twice repository_value repository_of o

-- in a sound lake heads and tagged commits of a repository that is found are there
pub has_targets : (l : LakeStateValue) → IsSound (state_of l) → (name : List ℕ) (r : RepositoryState) → Some (repository_value r) ≡ get l.repositories name
    → HasTargets (repository_at r)
has_targets l sound name r is =
    let whole = sound.repositories name (repository_at r) (found_repository l name (Some r) is) in
    record { heads = λ branch b there. (whole.heads branch b there).0; tagged = λ tag id there. (whole.tagged tag id there).0 }
