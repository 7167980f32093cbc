-- What stands at a path of a commit's map and of a branch, and which of the two an expression leads to.
use Rattle.std.proofs.Common.{◌≡◌, ℕ, Bool, true, false, cond, List, Some, None, Option, refl, sym, ap, ◌∙◌}
use Rattle.std.specs.Option.{unwrap_or, option_map, option_map_or}
use Rattle.std.specs.FinMap.{get, empty}
use Rattle.byte_map.proofs.ValuesLemmas.{get_map_values}
use Rattle.lake_base.specs.declared.digest.Digest.{Digest}
use Rattle.lake_values.specs.KeyMap.{KeyMapValue, value_after}
use Rattle.lake_values.proofs.KeyMapLemmas.{get_apply, apply_over}
use Rattle.branch_record.specs.Looking.{branch_change}
use Rattle.branch_record.specs.Overlay.{staged_changes, sealed_changes}
use Rattle.branch_record.proofs.LayersLemmas.{get_overlay}
use Rattle.commit_graph.specs.Expressions.{RefExprValue}
use Rattle.lake_model.specs.Readings.{map_at}
use Rattle.lake_model.specs.Resolving.{is_plain_branch}
use Rattle.lake_model.specs.State.{Branch, Repository, map_of, now_map}
use Rattle.meta_range.specs.Ranges.{TreeValue}
use Rattle.core_state.specs.declared.branch.BranchState.{BranchState}
use Rattle.core_state.specs.RepositoryStates.{RepositoryStateValue, repository_of}
use Rattle.core_readings.proofs.PlacesLemmas.{branch_at}

-- ---- the map of a commit: its tree's, and the empty one where it has no tree
module _ (r : RepositoryStateValue) (id : Digest) where
  of_tree : (o : Option TreeValue) → o ≡ get r.trees id.0 → unwrap_or (option_map (λ tree. tree.map) o) empty ≡ map_of (repository_of r) id
  of_tree o is =
      ap (λ (m : Option KeyMapValue). unwrap_or m empty)
      (ap (option_map (λ (tree : TreeValue). tree.map)) is ∙ sym (get_map_values (λ (tree : TreeValue). tree.map) r.trees id.0))

  pub map_there : (tree : TreeValue) → Some tree ≡ get r.trees id.0 → tree.map ≡ map_of (repository_of r) id
  map_there tree is = of_tree (Some tree) is

  pub map_missing : None ≡ get r.trees id.0 → empty ≡ map_of (repository_of r) id
  map_missing is = of_tree None is

-- what stands at a path of a branch: what its changes say of it, and else what its head's map has
pub get_now : (r : Repository) (b : BranchState) (path : List ℕ)
    → get (now_map r (branch_at b)) path ≡ value_after (branch_change b.record b.tokens.changes path) (get (map_of r b.record.head) path)
get_now r b path =
    let staged = staged_changes b.record b.tokens.changes in
    let sealed = sealed_changes b.record b.tokens.changes in
    let under = map_of r b.record.head in
    ap (λ m. get m path) (sym (apply_over staged sealed under)) ∙ get_apply _ under path
    ∙ ap (λ c. value_after c (get under path)) (get_overlay b.tokens.changes b.record path)

-- ---- the map at an expression
module _ (r : Repository) (e : RefExprValue) (id : Digest) where
  pub on_branch : is_plain_branch r e ≡ true → (b : Branch) → get r.branches e.name ≡ Some b → map_at r e id ≡ now_map r b
  on_branch plain b is =
      ap (λ p. cond p (option_map_or (now_map r) (get r.branches e.name) (map_of r id)) (map_of r id)) plain
      ∙ ap (λ o. option_map_or (now_map r) o (map_of r id)) is

  pub at_commit : is_plain_branch r e ≡ false → map_at r e id ≡ map_of r id
  at_commit other = ap (λ p. cond p (option_map_or (now_map r) (get r.branches e.name) (map_of r id)) (map_of r id)) other

  by_plain : (p : Bool) → cond p (map_of r id) (map_of r id) ≡ map_of r id
  by_plain true = refl
  by_plain false = refl

  pub on_none : get r.branches e.name ≡ None → map_at r e id ≡ map_of r id
  on_none none =
      ap (λ o. cond (is_plain_branch r e) (option_map_or (now_map r) o (map_of r id)) (map_of r id)) none
      ∙ by_plain (is_plain_branch r e)
