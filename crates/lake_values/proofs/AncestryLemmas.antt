-- What a graph has: what is said of its commits, generations along ways back, and ancestors as functions tell them.
use Rattle.std.proofs.Common.{◌≡◌, ℕ, zero, suc, ◌+◌, ◌-◌, ◌<◌, ◌≤◌, ◌↔◌, ◌&&◌, ◌||◌, Bool, true, false, List, [], ◌∷◌, Some, None, Option, refl, sym, ap}
use Rattle.std.proofs.Common.{subst, ◌∙◌, arith}
use Rattle.std.specs.Bool.{IsTrue}
use Rattle.std.specs.Option.{IsSome, is_some, unwrap_or, option_map}
use Rattle.std.specs.List.{Contains, list_any}
use Rattle.std.proofs.lemmas.Slice.Eq.{bytes_eq-Decides}
use Rattle.lake_base.specs.declared.digest.Digest.{Digest}
use Rattle.lake_values.specs.Commit.{CommitRecordValue}
use Rattle.lake_values.specs.Ancestry.{Graph, commit_of, same_id, parents_in, parents, generation, date, due_generation, IsGraph, Reaches, IsReachedWithin}
use Rattle.lake_values.specs.Ancestry.{IsAncestor, is_reached, is_ancestor}
use Rattle.lake_values.proofs.OrderLemmas.{Contains-nothing, any_from, any_to}

pub otherwise : (r : Bool) → (r ≡ true → ⊥) → r ≡ false
otherwise true never = absurd (never refl)
otherwise false never = refl

pub differ : true ≡ false → ⊥
differ e = cc

-- ids of the same bytes are one
pub one_id : (a b : Digest) → a.0 ≡ b.0 → a ≡ b
one_id a b e = λ i. record { 0 = e i }

-- ---- what is said of a commit that is there, and of one that is not
module _ (graph : Graph) (id : Digest) where
  pub parents_some : (c : CommitRecordValue) → Some c ≡ commit_of graph id → c.parents ≡ parents graph id
  unfolding parents
  parents_some c e = ap parents_in e

  pub parents_none : None ≡ commit_of graph id → [] ≡ parents graph id
  unfolding parents
  parents_none e = ap parents_in e

  pub generation_some : (c : CommitRecordValue) → Some c ≡ commit_of graph id → c.generation ≡ generation graph id
  unfolding generation
  generation_some c e = ap (λ o. unwrap_or (option_map (λ (x : CommitRecordValue). x.generation) o) 0) e

  pub generation_none : None ≡ commit_of graph id → 0 ≡ generation graph id
  unfolding generation
  generation_none e = ap (λ o. unwrap_or (option_map (λ (x : CommitRecordValue). x.generation) o) 0) e

  pub date_some : (c : CommitRecordValue) → Some c ≡ commit_of graph id → c.date ≡ date graph id
  unfolding date
  date_some c e = ap (λ o. unwrap_or (option_map (λ (x : CommitRecordValue). x.date) o) 0) e

  pub date_none : None ≡ commit_of graph id → 0 ≡ date graph id
  unfolding date
  date_none e = ap (λ o. unwrap_or (option_map (λ (x : CommitRecordValue). x.date) o) 0) e

-- the generation due is not 0
pub due_some : (graph : Graph) (ids : List Digest) → 1 ≤ due_generation graph ids
due_some graph [] = omega arith
due_some graph (id ∷ ids) = omega (arith, due_some graph ids)

-- ---- in so many steps

pub reached_here : (g : Graph) (steps : ℕ) (old id : Digest) → id.0 ≡ old.0 → IsReachedWithin g steps old id
unfolding Reaches
reached_here g steps old id e = (0, omega arith, one_id id old e)

pub reached_through : (g : Graph) (steps : ℕ) (old id parent : Digest) → 0 < steps → Contains (parents g id) parent → IsReachedWithin g (steps - 1) old parent
    → IsReachedWithin g steps old id
unfolding Reaches
reached_through g steps old id parent some has (n, le, r) = (suc n, omega arith, (parent, has, r))

-- no step leads there, and none is left
pub reached_not : (g : Graph) (old id : Digest) → (id.0 ≡ old.0 → ⊥) → IsReachedWithin g 0 old id → ⊥
unfolding Reaches
reached_not g old id other (zero, le, r) = other (ap (λ d. d.0) r)
reached_not g old id other (suc n, le, r) = absurd (omega arith)

-- no parent leads there
pub reached_never : (g : Graph) (steps : ℕ) (old id : Digest) → (id.0 ≡ old.0 → ⊥)
    → ((parent : Digest) → Contains (parents g id) parent → IsReachedWithin g (steps - 1) old parent → ⊥) → IsReachedWithin g steps old id → ⊥
unfolding Reaches
reached_never g steps old id other none (zero, le, r) = other (ap (λ d. d.0) r)
reached_never g steps old id other none (suc n, le, (parent, has, r)) = none parent has (n, omega arith, r)

-- ---- generations

-- what has a parent is there
pub with_parent : (g : Graph) (id parent : Digest) → Contains (parents g id) parent → IsSome (commit_of g id)
with_parent g id parent has = by (commit_of g id) refl
  where
    by : (o : Option CommitRecordValue) → o ≡ commit_of g id → is_some o ≡ true
    by (Some c) e = refl
    by None e = absurd (Contains-nothing parent (subst (λ l. Contains l parent) (sym (parents_none g id e)) has))

due_over : (g : Graph) (ids : List Digest) (id : Digest) → Contains ids id → generation g id + 1 ≤ due_generation g ids
due_over g [] id (k, lt, e) = absurd (omega arith)
due_over g (x ∷ ids) id (zero, lt, e) = let same = ap (generation g) e in omega (arith, same)
due_over g (x ∷ ids) id (suc k, lt, e) = let rest = due_over g ids id (k, omega arith, e) in omega (arith, rest)

module _ (g : Graph) (graph : IsGraph g) where
  -- a parent is of a lesser generation
  pub parent_lesser : (id parent : Digest) → Contains (parents g id) parent → generation g parent < generation g id
  parent_lesser id parent has =
      let counted = (graph id (with_parent g id parent has)).counted in
      omega (arith, due_over g (parents g id) parent has, counted)

  -- each step back lowers the generation
  pub steps_above : (n : ℕ) (id old : Digest) → Reaches g n id old → n + generation g old ≤ generation g id
  unfolding Reaches
  steps_above zero id old r = let same = ap (generation g) r in omega (arith, same)
  steps_above (suc n) id old (parent, has, r) =
      let lesser = parent_lesser id parent has in
      let rest = steps_above n parent old r in
      omega (arith, lesser, rest)

  -- at least one step back is a lesser generation
  pub reached_lesser : (n : ℕ) (id old : Digest) → 1 ≤ n → Reaches g n id old → generation g old < generation g id
  reached_lesser n id old some r = let above = steps_above n id old r in omega (arith, above)

  pub ancestor_tested : (old id : Digest) (steps : ℕ) (r : Bool) → IsSome (commit_of g old) → steps ≡ generation g id
      → IsTrue r ↔ IsReachedWithin g steps old id → IsTrue r ↔ IsAncestor g old id
  ancestor_tested old id steps r there e is = (
    λ t. let w = is.0 t in (there, (w.0, w.2)),
    λ a. let above = steps_above a.1.0 id old a.1.1 in is.1 (a.1.0, omega (arith, e, above), a.1.1),
  )

-- ---- the search

same_from : (a b : Digest) → same_id a b ≡ true → a.0 ≡ b.0
same_from a b t = (bytes_eq-Decides a.0 b.0).0 t

not_same : (a b : Digest) → same_id a b ≡ false → a.0 ≡ b.0 → ⊥
not_same a b f e = differ (sym ((bytes_eq-Decides a.0 b.0).1 e) ∙ f)

module _ (g : Graph) where
  pub reached_from : (n : ℕ) (id old : Digest) → is_reached g n id old ≡ true → IsReachedWithin g n old id
  unfolding is_reached
  reached_from zero id old t = reached_here g 0 old id (same_from id old t)
  reached_from (suc n) id old t = by (same_id id old) refl t (λ parent p. reached_from n parent old p)
    where
      by : (b : Bool) → same_id id old ≡ b → (b || list_any (λ parent. is_reached g n parent old) (parents g id)) ≡ true
          → ((parent : Digest) → is_reached g n parent old ≡ true → IsReachedWithin g n old parent) → IsReachedWithin g (suc n) old id
      by true s p rest = reached_here g (suc n) old id (same_from id old s)
      by false s p rest =
          let some = any_from (λ parent. is_reached g n parent old) (parents g id) p in
          let within = rest some.0 some.2 in
          reached_through g (suc n) old id some.0 (omega arith) some.1 (within.0, omega (arith, within.1), within.2)

  pub reached_to : (n : ℕ) (id old : Digest) → IsReachedWithin g n old id → is_reached g n id old ≡ true
  unfolding is_reached
  reached_to zero id old w = by (same_id id old) refl
    where
      by : (b : Bool) → same_id id old ≡ b → b ≡ true
      by true s = refl
      by false s = absurd (reached_not g old id (not_same id old s) w)
  reached_to (suc n) id old w = by (same_id id old) refl (λ parent v. reached_to n parent old v)
    where
      by : (b : Bool) → same_id id old ≡ b → ((parent : Digest) → IsReachedWithin g n old parent → is_reached g n parent old ≡ true)
          → (b || list_any (λ parent. is_reached g n parent old) (parents g id)) ≡ true
      by true s rest = refl
      by false s rest = holds_else (list_any (λ parent. is_reached g n parent old) (parents g id)) (λ none.
          reached_never g (suc n) old id (not_same id old s)
          (λ parent has v. differ (sym (any_to (λ p. is_reached g n p old) (parents g id) parent has (rest parent (v.0, omega (arith, v.1), v.2))) ∙ none)) w)
        where
          holds_else : (r : Bool) → (r ≡ false → ⊥) → r ≡ true
          holds_else true refute = refl
          holds_else false refute = absurd (refute refl)

pub and_both : (a b : Bool) → (a && b) ≡ true → (a ≡ true) × (b ≡ true)
and_both true b e = (refl, e)
and_both false b e = cc

pub and_of : (a b : Bool) → a ≡ true → b ≡ true → (a && b) ≡ true
and_of true b p q = q
and_of false b p q = cc

module _ (g : Graph) (graph : IsGraph g) where
  pub ancestor_from : (old id : Digest) → is_ancestor g old id ≡ true → IsAncestor g old id
  unfolding is_ancestor
  ancestor_from old id t =
      let two = and_both (is_some (commit_of g old)) (is_reached g (generation g id) id old) t in
      let way = reached_from g (generation g id) id old two.1 in
      (two.0, (way.0, way.2))

  pub ancestor_to : (old id : Digest) → IsAncestor g old id → is_ancestor g old id ≡ true
  unfolding is_ancestor
  ancestor_to old id a =
      let above = steps_above g graph a.1.0 id old a.1.1 in
      and_of (is_some (commit_of g old))
      (is_reached g (generation g id) id old) a.0 (reached_to g (generation g id) id old (a.1.0, omega (arith, above), a.1.1))
