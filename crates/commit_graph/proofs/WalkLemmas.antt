-- The walk of first parents, and where moves lead.
use Rattle.std.proofs.Common.{◌≡◌, ℕ, zero, suc, ◌+◌, ◌<◌, ◌≤◌, List, [], ◌∷◌, ◌++◌, length, get_or, drop, Option, Some, None, Ok, Err, refl, sym, ap, subst}
use Rattle.std.proofs.Common.{◌∙◌, inl, inr, add-one, drop-cons, arith}
use Rattle.std.proofs.lemmas.Bool.{cases_lt}
use Rattle.std.proofs.lemmas.List.{append-nil, nil_from_length, length-drop}
use Rattle.std.specs.List.{Contains, slice_get}
use Rattle.std.specs.Option.{unwrap_or, option_map, option_map_or, option_to_list, IsSome, is_some}
use Rattle.lake_base.specs.declared.digest.Digest.{Digest}
use Rattle.lake_values.specs.Commit.{CommitRecordValue}
use Rattle.lake_values.specs.Ancestry.{Graph, commit_of, parents_in, parents, generation, first_parent, back, walk_within, walk, IsGraph}
use Rattle.lake_values.proofs.AncestryWalkLemmas.{starts, back_past, back_ends, back_there}
use Rattle.commit_graph.specs.Moves.{move_target, moves_target}
use Rattle.commit_graph.specs.declared.expression.Move.{Move}
use Rattle.commit_graph.specs.declared.expression.Move.TheVariants.{Back, Parent}

-- what has a generation is there
pub starts_counted : (g : Graph) (id : Digest) → 0 < generation g id → back g 0 id ≡ Some id
unfolding generation
starts_counted g id some = by (commit_of g id) refl some
  where
    by : (o : Option CommitRecordValue) → commit_of g id ≡ o → 0 < unwrap_or (option_map (λ (c : CommitRecordValue). c.generation) o) 0 → back g 0 id ≡ Some id
    by (Some commit) is some = starts g id (ap is_some is)
    by None is some = absurd (omega arith)

-- ---- the walk as a list

pub walk_more : (g : Graph) (n : ℕ) (head at : Digest) (ids : List Digest) → ids ≡ walk_within n g head → back g n head ≡ Some at
    → ids ++ at ∷ [] ≡ walk_within (n + 1) g head
walk_more g n head at ids so_far stands =
    ap (λ l. l ++ at ∷ []) so_far ∙ sym (ap (λ o. walk_within n g head ++ option_to_list o) stands) ∙ ap (λ k. walk_within k g head) (sym (add-one n))

ended : (g : Graph) (a n : ℕ) (head : Digest) → back g a head ≡ None → a ≤ n → walk_within a g head ≡ walk_within n g head
ended g a zero head none le = let same : a ≡ 0 = omega arith in ap (λ k. walk_within k g head) same
ended g a (suc n) head none le =
    elim (cases_lt n a) [
      | inl more ↦ let same : a ≡ suc n = omega arith in ap (λ k. walk_within k g head) same
      | inr less ↦ ended g a n head none less ∙ sym (append-nil (walk_within n g head))
          ∙ sym (ap (λ o. walk_within n g head ++ option_to_list o) (back_past g a n head none less))
    ]

-- it ends where there is no first parent
pub walk_ends : (g : Graph) (n : ℕ) (head at : Digest) (ids : List Digest) → ids ≡ walk_within n g head → back g n head ≡ Some at → None ≡ first_parent g at
    → n < generation g head → ids ++ at ∷ [] ≡ walk g head
unfolding walk
walk_ends g n head at ids so_far stands none lt =
    walk_more g n head at ids so_far stands ∙ ended g (n + 1) (generation g head) head (back_ends g n head at stands none (n + 1) (omega arith)) (omega arith)

pub walk_whole : (g : Graph) (n : ℕ) (head : Digest) (ids : List Digest) → ids ≡ walk_within n g head → n ≡ generation g head → ids ≡ walk g head
unfolding walk
walk_whole g n head ids so_far end = so_far ∙ ap (λ k. walk_within k g head) end

-- ---- moves

module _ (g : Graph) where
  pub resolve_next : (moves : List Move) (i : ℕ) (at : Digest) (one : Move) → i < length moves → one ≡ get_or moves i one
      → moves_target g i at (drop i moves) ≡ option_map_or (λ next. moves_target g (i + 1) next (drop (i + 1) moves)) (move_target g one at) (Err i)
  resolve_next moves i at one lt is =
      let front : drop i moves ≡ one ∷ drop (i + 1) moves = rw (add-one, drop-cons moves i one, ← is) refl in
      ap (moves_target g i at) front

  -- a parent of a commit is there
  parent_there : IsGraph g → (id : Digest) (place : ℕ) (to : Digest) → slice_get (parents g id) place ≡ Some to → IsSome (commit_of g to)
  unfolding parents
  parent_there graph id place to is = by (commit_of g id) refl
    where
      the_same : (a b : Digest) → Some a ≡ Some b → a ≡ b
      the_same a b e = cc

      at_place : (ids : List Digest) (place : ℕ) → slice_get ids place ≡ Some to → Contains ids to
      at_place [] place e = absurd cc
      at_place (x ∷ ids) zero e = (0, omega arith, the_same x to e)
      at_place (x ∷ ids) (suc place) e = let w = at_place ids place e in (suc w.0, omega (arith, w.1), w.2)

      by : (o : Option CommitRecordValue) → commit_of g id ≡ o → IsSome (commit_of g to)
      by None was = cc (sym (ap (λ o. slice_get (parents_in o) place) was) ∙ is)
      by (Some c) was = (graph id (ap is_some was)).whole to (at_place (parents_in (commit_of g id)) place is)

  moved_there : IsGraph g → (one : Move) (id to : Digest) → IsSome (commit_of g id) → move_target g one id ≡ Some to → IsSome (commit_of g to)
  moved_there graph (Back n) id to there is = back_there g n id to graph is
  moved_there graph (Parent zero) id to there is = let same : id ≡ to = cc in subst (λ (x : Digest). IsSome (commit_of g x)) same there
  moved_there graph (Parent (suc n)) id to there is = parent_there graph id n to is

  pub resolved_there : IsGraph g → (moves : List Move) (i : ℕ) (id to : Digest) → IsSome (commit_of g id) → moves_target g i id moves ≡ Ok to
      → IsSome (commit_of g to)
  resolved_there graph [] i id to there is = let same : id ≡ to = cc in subst (λ (x : Digest). IsSome (commit_of g x)) same there
  resolved_there graph (one ∷ moves) i id to there is = by (λ next. resolved_there graph moves (i + 1) next to) (move_target g one id) refl is
    where
      by : ((next : Digest) → IsSome (commit_of g next) → moves_target g (i + 1) next moves ≡ Ok to → IsSome (commit_of g to))
          → (o : Option Digest) → move_target g one id ≡ o → option_map_or (λ next. moves_target g (i + 1) next moves) o (Err i) ≡ Ok to
          → IsSome (commit_of g to)
      by more None was e = absurd cc
      by more (Some next) was e = more next (moved_there graph one id next there was) e

  pub resolved_end : (moves : List Move) (i : ℕ) (at : Digest) → length moves ≤ i → moves_target g i at (drop i moves) ≡ Ok at
  resolved_end moves i at le =
      let none : drop i moves ≡ [] = nil_from_length (drop i moves) (omega (arith, length-drop i moves)) in
      ap (moves_target g i at) none
