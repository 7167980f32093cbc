-- In a sound repository what an expression leads to is one of its commits.
use Rattle.std.proofs.Common.{◌≡◌, ◌+◌, ℕ, zero, suc, Bool, true, false, cond, List, [], ◌∷◌, refl, sym, ap, subst, ◌∙◌, ◌⊎◌, inl, inr}
use Rattle.std.specs.Prelude.{Option, Some, None, IsSome, option_map, option_and_then, slice_get, Result, Ok, Err}
use Rattle.std.specs.Option.{option_or, option_map_or}
use Rattle.std.specs.Result.{result_ok}
use Rattle.std.specs.Str.{bytes_eq}
use Rattle.std.specs.FinMap.{get}
use Rattle.std.specs.List.{Contains, find}
use Rattle.lake_base.specs.Digest.{encode_lower}
use Rattle.lake_base.specs.declared.digest.Digest.{Digest}
use Rattle.lake_values.specs.Ancestry.{Graph, IsGraph, back, commit_of, first_parent, ids, parents}
use Rattle.lake_values.proofs.AncestryOrderLemmas.{ids_from}
use Rattle.lake_values.proofs.OrderLemmas.{Contains-first, Contains-later}
use Rattle.commit_graph.specs.Expressions.{RefExprValue}
use Rattle.commit_graph.specs.Moves.{move_target, moves_target}
use Rattle.commit_graph.specs.declared.expression.Move.{Move}
use Rattle.commit_graph.specs.declared.expression.Move.TheVariants.{Back, Parent}
use Rattle.lake_format.specs.declared.cut.Cut.{Cut}
use Rattle.lake_model.specs.State.{Repository, HasCommit, is_expired}
use Rattle.lake_model.specs.Resolving.{commit_named, expression_target, moved_target, name_target, parent_fault}
use Rattle.lake_model.specs.Soundness.{IsSoundRepository}
use Rattle.lake_model.specs.Steps.{expired_fault, target_in}
use Rattle.lake_model.specs.declared.fault.StepFault.TheVariants.{Expired}
use Rattle.lake_laws.proofs.CauseLemmas.{test_fails}

-- the first of two that is there
or_cases : {X : Type 0} (o p : Option X) (x : X) → option_or o p ≡ Some x → (o ≡ Some x) ⊎ (p ≡ Some x)
or_cases None p x is = inr is
or_cases (Some y) p x is = inl is

pub map_cases : {X Y : Type 0} (f : X → Y) (o : Option X) (y : Y) → option_map f o ≡ Some y → (x : X) × (o ≡ Some x) × (f x ≡ y)
map_cases f None y is = absurd cc
map_cases f (Some x) y is = (x, refl, cc)

-- what is found in a list is in it
pub find_within : {X : Type 0} (test : X → Bool) (xs : List X) (x : X) → find test xs ≡ Some x → Contains xs x
find_within test [] x is = absurd cc
find_within test (y ∷ ys) x is =
    elim (test y) as (λ b. cond b (Some y) (find test ys) ≡ Some x → Contains (y ∷ ys) x) [
      | true ↦ λ at. let same : y ≡ x = cc in subst (Contains (y ∷ ys)) same (Contains-first y ys)
      | false ↦ λ later. Contains-later y x ys (find_within test ys x later)
    ] is

-- what stands at a place of a list is in it
pub at_within : {X : Type 0} (xs : List X) (place : ℕ) (x : X) → slice_get xs place ≡ Some x → Contains xs x
at_within [] place x is = absurd cc
at_within (y ∷ ys) zero x is = let same : y ≡ x = cc in subst (Contains (y ∷ ys)) same (Contains-first y ys)
at_within (y ∷ ys) (suc place) x is = Contains-later y x ys (at_within ys place x is)

-- ---- moves

module _ (graph : Graph) (sound : IsGraph graph) where
  parent_there : (id next : Digest) (place : ℕ) → IsSome (commit_of graph id) → slice_get (parents graph id) place ≡ Some next
      → IsSome (commit_of graph next)
  parent_there id next place there is = (sound id there).whole next (at_within (parents graph id) place next is)

  back_there : (steps : ℕ) (id next : Digest) → IsSome (commit_of graph id) → back graph steps id ≡ Some next → IsSome (commit_of graph next)
  unfolding back
  back_there zero id next there is =
      let was = map_cases (λ commit. id) (commit_of graph id) next is in
      subst (λ q. IsSome (commit_of graph q)) was.2 there
  back_there (suc steps) id next there is = by (back graph steps id) (λ between. back_there steps id between there) is
    where
      by : (o : Option Digest) → ((between : Digest) → o ≡ Some between → IsSome (commit_of graph between))
          → option_and_then (first_parent graph) o ≡ Some next → IsSome (commit_of graph next)
      by None before now = absurd cc
      by (Some between) before now = parent_there between next 0 (before between refl) now

  move_there : (one : Move) (id next : Digest) → IsSome (commit_of graph id) → move_target graph one id ≡ Some next
      → IsSome (commit_of graph next)
  move_there (Back steps) id next there is = back_there steps id next there is
  move_there (Parent zero) id next there is = let same : id ≡ next = cc in subst (λ q. IsSome (commit_of graph q)) same there
  move_there (Parent (suc place)) id next there is = parent_there id next place there is

  moves_there : (moves : List Move) (number : ℕ) (id to : Digest) → IsSome (commit_of graph id)
      → moves_target graph number id moves ≡ Ok to → IsSome (commit_of graph to)
  moves_there [] number id to there is = let same : id ≡ to = cc in subst (λ q. IsSome (commit_of graph q)) same there
  moves_there (one ∷ moves) number id to there is =
      by (move_target graph one id) refl (λ next. moves_there moves (number + 1) next to) is
    where
      by : (o : Option Digest) → move_target graph one id ≡ o
          → ((next : Digest) → IsSome (commit_of graph next) → moves_target graph (number + 1) next moves ≡ Ok to → IsSome (commit_of graph to))
          → option_map_or (λ next. moves_target graph (number + 1) next moves) o (Err number) ≡ Ok to → IsSome (commit_of graph to)
      by None was later now = absurd cc
      by (Some next) was later now = later next (move_there one id next there was) now

-- ---- names and expressions

-- an answer that is taken is the answer
pub taken : {X E : Type 0} (answer : Result X E) (x : X) → result_ok answer ≡ Some x → answer ≡ Ok x
taken (Ok y) x is = ap Ok cc
taken (Err fault) x is = absurd cc

moved_ok : (answer : Result Digest ℕ) (id : Digest) → parent_fault answer ≡ Ok id → answer ≡ Ok id
moved_ok (Ok other) id is = let same : other ≡ id = cc in ap Ok same
moved_ok (Err number) id is = absurd cc

module _ (cut : Cut) (r : Repository) (sound : IsSoundRepository cut r) where
  -- what a name leads to is a commit
  name_there : (name : List ℕ) (id : Digest) → name_target r name ≡ Some id → HasCommit r id
  name_there name id is =
      elim (or_cases (option_map (λ b. b.head) (get r.branches name)) (option_or (get r.tags name) (commit_named r name)) id is) [
        | inl head ↦
            let b = map_cases (λ b. b.head) (get r.branches name) id head in
            subst (HasCommit r) b.2 (sound.heads name b.0 b.1).0
        | inr other ↦ elim (or_cases (get r.tags name) (commit_named r name) id other) [
          | inl tag ↦ (sound.tagged name id tag).0
          | inr named ↦ ids_from r.commits id (find_within (λ q. bytes_eq (encode_lower q.0) name) (ids r.commits) id named)
        ]
      ]

  moved_there : (e : RefExprValue) (o : Option Digest) (id : Digest) → name_target r e.name ≡ o → moved_target r e o ≡ Ok id → HasCommit r id
  moved_there e None id from is = absurd cc
  moved_there e (Some at) id from is =
      moves_there r.commits sound.graph e.moves 0 at id (name_there e.name at from) (moved_ok (moves_target r.commits 0 at e.moves) id is)

  -- what an expression leads to is a commit
  pub target_there : (e : RefExprValue) (id : Digest) → target_in r e ≡ Some id → HasCommit r id
  target_there e id is = moved_there e (name_target r e.name) id refl (taken (expression_target r e) id is)

-- the commit of an expression, whose expiry is no cause, isn't expired
pub target_live : (r : Repository) (e : RefExprValue) (id : Digest) → target_in r e ≡ Some id
    → option_and_then (expired_fault r) (target_in r e) ≡ None → is_expired r id ≡ false
target_live r e id is none = test_fails (is_expired r id) (Expired id) (ap (option_and_then (expired_fault r)) (sym is) ∙ none)
