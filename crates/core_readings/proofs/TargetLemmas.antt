-- What a name and an expression lead to.
use Rattle.std.proofs.Common.{◌≡◌, ℕ, ◌==◌, ◌&&◌, true, false, not, List, [], ◌∷◌, Some, None, Option, option_map, refl, sym, ap, subst, ◌∙◌, ◌⊎◌, inl, inr}
use Rattle.std.proofs.Common.{length, Bor, arith}
use Rattle.std.specs.Option.{is_some, option_copied, option_or}
use Rattle.std.specs.FinMap.{get}
use Rattle.std.specs.Str.{bytes_eq}
use Rattle.std.proofs.lemmas.Bool.{eqb-true}
use Rattle.lake_base.specs.Digest.{encode_lower}
use Rattle.lake_base.specs.declared.digest.Digest.{Digest}
use Rattle.lake_values.specs.Ancestry.{ids}
use Rattle.lake_values.proofs.AncestryOrderLemmas.{ids_from}
use Rattle.commit_graph.specs.Expressions.{RefExprValue}
use Rattle.lake_model.specs.State.{Branch, Repository, HasCommit}
use Rattle.lake_model.specs.Resolving.{commit_named, is_plain_branch, is_unmoved, name_target}
use Rattle.core_state.specs.declared.branch.BranchState.{BranchState}
use Rattle.core_state.specs.BranchStates.{branch_value}
use Rattle.core_state.specs.RepositoryStates.{HasTargets, RepositoryStateValue, repository_of}
use Rattle.lake_laws.proofs.TargetLemmas.{find_within}
use Rattle.core_readings.proofs.PlacesLemmas.{branch_at, found_branch}

-- ---- a name leads to the first of three that is there
module _ (r : Repository) (name : List ℕ) where
  first_of_three : (o : Option Branch) → get r.branches name ≡ o
      → option_or (option_map (λ (b : Branch). b.head) o) (option_or (get r.tags name) (commit_named r name)) ≡ name_target r name
  first_of_three o is = ap (λ q. option_or (option_map (λ (b : Branch). b.head) q) (option_or (get r.tags name) (commit_named r name))) (sym is)

  pub to_head : (b : Branch) → get r.branches name ≡ Some b → Some b.head ≡ name_target r name
  to_head b is = first_of_three (Some b) is

  pub to_tag : (id : Digest) → get r.branches name ≡ None → Some id ≡ get r.tags name → Some id ≡ name_target r name
  to_tag id none is = ap (λ t. option_or t (commit_named r name)) is ∙ first_of_three None none

  pub to_commit : get r.branches name ≡ None → None ≡ get r.tags name → commit_named r name ≡ name_target r name
  to_commit none untagged = ap (λ t. option_or t (commit_named r name)) untagged ∙ first_of_three None none

-- ---- plain branches

unmoved : {X : Type 0} (xs : List X) → (length xs == 0) ≡ true → is_unmoved xs ≡ true
unmoved [] e = refl
unmoved (x ∷ xs) e = absurd (omega (arith, eqb-true (length (x ∷ xs)) 0 e))

some_branch : (o : Option (Bor BranchState)) → is_some o ≡ is_some (option_map branch_at (option_copied o))
some_branch None = refl
some_branch (Some x) = refl

-- an expression without `@` and without moves is a plain branch where one is found
pub plain_if_found : (r : RepositoryStateValue) (e : RefExprValue) (o : Option (Bor BranchState))
    → option_map branch_value (option_copied o) ≡ get r.branches e.name
    → e.at ≡ false → (length e.moves == 0) ≡ true → is_some o ≡ is_plain_branch (repository_of r) e
plain_if_found r e o is at none =
    some_branch o ∙ ap is_some (sym (found_branch r e.name (option_copied o) is))
    ∙ (λ i. not (sym at i) && (sym (unmoved e.moves none) i && is_some (get (repository_of r).branches e.name)))

-- ---- what a name leads to is a commit

-- the first of two that is there
or_cases : {X : Type 0} (o p : Option X) (x : X) → option_or o p ≡ Some x → (o ≡ Some x) ⊎ (p ≡ Some x)
or_cases None p x is = inr is
or_cases (Some y) p x is = inl is

pub map_cases : {X Y : Type 0} (f : X → Y) (o : Option X) (y : Y) → option_map f o ≡ Some y → (x : X) × (o ≡ Some x) × (f x ≡ y)
map_cases f None y is = absurd cc
map_cases f (Some x) y is = (x, refl, cc)

-- what a name leads to is a commit, where heads and tagged commits are
pub name_there : (r : Repository) → HasTargets r → (name : List ℕ) (id : Digest) → name_target r name ≡ Some id → HasCommit r id
name_there r targets name id is =
    elim (or_cases (option_map (λ (b : Branch). b.head) (get r.branches name)) (option_or (get r.tags name) (commit_named r name)) id is) [
      | inl head ↦
          let b = map_cases (λ (b : Branch). b.head) (get r.branches name) id head in
          subst (HasCommit r) b.2 (targets.heads name b.0 b.1)
      | inr other ↦ elim (or_cases (get r.tags name) (commit_named r name) id other) [
        | inl tag ↦ targets.tagged name id tag
        | inr named ↦ ids_from r.commits id (find_within (λ q. bytes_eq (encode_lower q.0) name) (ids r.commits) id named)
      ]
    ]
