-- The front of a walk: its first commit comes next in the log, and its parents stand for its other ancestors.
use Rattle.std.proofs.Common.{◌≡◌, ℕ, zero, suc, ◌<◌, ◌⊎◌, inl, inr, true, false, cond, List, [], ◌∷◌, length, Some, refl, sym, ap, subst, ◌∙◌, arith}
use Rattle.std.proofs.Math.Bool.{or-false}
use Rattle.std.proofs.lemmas.Bool.{lt-ltb}
use Rattle.std.proofs.lemmas.List.Elements.{All-contains, filter_agree}
use Rattle.std.proofs.lemmas.List.Kept.{IsStrictlySortedBy-filter}
use Rattle.std.specs.Cmp.{IsTotalOrder}
use Rattle.std.specs.FinMap.{IsAntisymmetric}
use Rattle.std.specs.List.{Contains, All, AllByRecursion, filter, slice_get}
use Rattle.std.specs.List.Sorted.{IsStrictlySortedBy}
use Rattle.std.specs.Option.{IsSome}
use Rattle.std.specs.Ordering.{is_lt, is_gt, nat_cmp, ordering_then, ordering_reverse}
use Rattle.std.specs.Prelude.{◌==◌}
use Rattle.std.specs.declared.cmp.Ordering.{Ordering}
use Rattle.std.specs.declared.cmp.Ordering.TheVariants.{Less, Equal, Greater}
use Rattle.lake_base.specs.declared.digest.Digest.{Digest}
use Rattle.lake_values.specs.Ancestry.{Graph, IsGraph, IsAncestor, Reaches, commit_of, id_order, parents, generation, is_ancestor, log, log_order, comes_first}
use Rattle.lake_values.specs.Ancestry.{ancestors_in_order}
use Rattle.lake_values.proofs.AncestryLemmas.{reached_lesser, parent_lesser, ancestor_from, ancestor_to}
use Rattle.lake_values.proofs.AncestryOrderLemmas.{log_total, log_same, log_to, log_ascends, not_before_itself}
use Rattle.lake_values.proofs.OrderLemmas.{Contains-first, Contains-later, Contains-nothing, first_or_later, Contains-filter, Contains-from_filter, any_from}
use Rattle.lake_values.proofs.OrderLemmas.{any_to, not_before_first, same_place, same_ascending}
use Rattle.commit_graph.specs.Fronts.{Place, place_of, is_left, ancestors_left, IsPlace, IsFront, PutsIn}

-- places in the order of the log
abbrev pub by_place : Place → Place → Ordering
by_place place other = ordering_then (nat_cmp other.0.0 place.0.0) (id_order place.1 other.1)

-- ---- lists

-- the first of a list that ascends is the one before which none comes
head_is : {K : Type 0} {R : K → K → Ordering} (o : IsTotalOrder R) (same : IsAntisymmetric R) (xs : List K) (x : K) → IsStrictlySortedBy R xs → Contains xs x
    → ((z : K) → Contains xs z → is_lt (R z x) ≡ false) → slice_get xs 0 ≡ Some x
head_is o same [] x ascend within least = absurd (Contains-nothing x within)
head_is o same (y ∷ ys) x ascend within least = ap Some (same_place o same y x (least y (Contains-first y ys)) (not_before_first o y x ys ascend within))

pub at_first : {X : Type 0} (xs : List X) (x : X) → slice_get xs 0 ≡ Some x → Contains xs x
at_first [] x e = absurd cc
at_first (y ∷ xs) x e = let same : y ≡ x = cc in subst (Contains (y ∷ xs)) same (Contains-first y xs)

-- a list that has no first item is empty
pub nothing_first : {X : Type 0} (xs : List X) → (0 < length xs → false ≡ true) → xs ≡ []
nothing_first [] h = refl
nothing_first (x ∷ xs) h = let never : false ≡ true = h (omega arith) in absurd cc

pub each_of : {X : Type 0} (P : X → Type 0) (xs : List X) → ((x : X) → Contains xs x → P x) → AllByRecursion P xs
each_of P [] h = tt
each_of P (x ∷ xs) h = (h x (Contains-first x xs), each_of P xs (λ y within. h y (Contains-later x y xs within)))

ascends_more : {K : Type 0} (R : K → K → Ordering) (x : K) (xs : List K) → ((y : K) → Contains xs y → R x y ≡ Less) → IsStrictlySortedBy R xs
    → IsStrictlySortedBy R (x ∷ xs)
unfolding IsStrictlySortedBy
ascends_more R x xs below ascend = (each_of (λ y. R x y ≡ Less) xs below, ascend)

none_pass : {X : Type 0} (xs : List X) → filter (λ x. false) xs ≡ []
none_pass [] = refl
none_pass (x ∷ xs) = none_pass xs

-- ---- ancestors in the order of the log

through_parent : (g : Graph) (old id parent : Digest) → Contains (parents g id) parent → IsAncestor g old parent → IsAncestor g old id
unfolding Reaches
through_parent g old id parent has a = (a.0, (suc a.1.0, (parent, has, a.1.1)))

itself : (g : Graph) (id : Digest) → IsSome (commit_of g id) → IsAncestor g id id
unfolding Reaches
itself g id there = (there, (zero, refl))

-- an ancestor is the commit itself, or one of a parent
by_parent : (g : Graph) (old id : Digest) → IsAncestor g old id → (id ≡ old) ⊎ ((parent : Digest) × Contains (parents g id) parent × IsAncestor g old parent)
unfolding Reaches
by_parent g old id (there, (zero, r)) = inl r
by_parent g old id (there, (suc n, (parent, has, r))) = inr (parent, has, (there, (n, r)))

nat_less : (a b : ℕ) → a < b → nat_cmp a b ≡ Less
nat_less a b lt = ap (λ r. cond r Less (cond (a == b) Equal Greater)) (lt-ltb a b lt)

lesser_after : (g : Graph) (x y : Digest) → generation g y < generation g x → log_order g x y ≡ Less
lesser_after g x y lt = ap (λ o. ordering_then o (id_order x y)) (nat_less (generation g y) (generation g x) lt)

not_before : (g : Graph) (x z : Digest) → log_order g x z ≡ Less → comes_first g z x ≡ false
not_before g x z e = ap is_lt ((log_total g).antisymm z x ∙ ap ordering_reverse e)

module _ (g : Graph) (graph : IsGraph g) where
  -- what a commit comes before, it comes before the ancestors of
  before_ancestors : (x y z : Digest) → log_order g x y ≡ Less → IsAncestor g z y → log_order g x z ≡ Less
  unfolding Reaches
  before_ancestors x y z e (there, (zero, r)) = subst (λ d. log_order g x d ≡ Less) r e
  before_ancestors x y z e (there, (suc n, r)) = (log_total g).trans x y z e (lesser_after g y z (reached_lesser g graph (suc n) y z (omega arith) r))

  -- no ancestor comes before the commit
  none_before : (x z : Digest) → IsAncestor g z x → comes_first g z x ≡ false
  unfolding Reaches
  none_before x z (there, (zero, r)) = subst (λ d. comes_first g d x ≡ false) r (not_before_itself g x)
  none_before x z (there, (suc n, r)) = not_before g x z (lesser_after g x z (reached_lesser g graph (suc n) x z (omega arith) r))

-- ---- what is left

left_from : (g : Graph) → IsGraph g → (front : List Place) (z : Digest) → Contains (ancestors_left g front) z
    → (place : Place) × Contains front place × IsAncestor g z place.1
unfolding ancestors_left
left_from g graph front z within =
    let passes = (Contains-from_filter (is_left g front) (log g) z within).1 in
    let some = any_from (λ (place : Place). is_ancestor g z place.1) front passes in
    (some.0, some.1, ancestor_from g graph z some.0.1 some.2)

left_to : (g : Graph) → IsGraph g → (front : List Place) (place : Place) (z : Digest) → Contains front place → IsAncestor g z place.1
    → Contains (ancestors_left g front) z
unfolding ancestors_left
left_to g graph front place z within a =
    Contains-filter (is_left g front) (log g) z (log_to g z a.0)
    (any_to (λ (place : Place). is_ancestor g z place.1) front place within (ancestor_to g graph z place.1 a))

left_ascends : (g : Graph) (front : List Place) → IsStrictlySortedBy (log_order g) (ancestors_left g front)
unfolding ancestors_left
left_ascends g front = IsStrictlySortedBy-filter (log_order g) (is_left g front) (log g) (log_ascends g)

-- at the start all ancestors are left
pub left_all : (g : Graph) (id : Digest) (front : List Place) → front ≡ place_of g id ∷ [] → ancestors_left g front ≡ ancestors_in_order g id
unfolding ancestors_left ancestors_in_order
left_all g id front is =
    ap (λ f. filter (is_left g f) (log g)) is
    ∙ filter_agree (is_left g (place_of g id ∷ [])) (λ old. is_ancestor g old id) (λ old. or-false (is_ancestor g old id)) (log g)

-- of nothing nothing is left
pub left_none : (g : Graph) (front : List Place) → front ≡ [] → ancestors_left g front ≡ []
unfolding ancestors_left
left_none g front is = ap (λ f. filter (is_left g f) (log g)) is ∙ none_pass (log g)

in_log : (g : Graph) (place other : Place) → IsPlace g place → IsPlace g other → by_place place other ≡ log_order g place.1 other.1
in_log g place other p q =
    ap (λ n. ordering_then (nat_cmp n place.0.0) (id_order place.1 other.1)) q.generation
    ∙ ap (λ n. ordering_then (nat_cmp (generation g other.1) n) (id_order place.1 other.1)) p.generation

-- the first of the front comes next
pub first_left : (g : Graph) (front : List Place) (place : Place) → IsFront g front → Contains front place
    → All (λ other. is_gt (by_place place other) ≡ false) front → slice_get (ancestors_left g front) 0 ≡ Some place.1
first_left g front place h within least =
    head_is (log_total g) (log_same g) (ancestors_left g front) place.1 (left_ascends g front)
    (left_to g h.due front place place.1 within (itself g place.1 (h.places place within).there)) after
  where
    by : (other : Digest) (z : Digest) → IsAncestor g z other → (o : Ordering) → log_order g place.1 other ≡ o → is_gt o ≡ false
        → comes_first g z place.1 ≡ false
    by other z a Less e low = not_before g place.1 z (before_ancestors g h.due place.1 other z e a)
    by other z a Equal e low = none_before g h.due place.1 z (subst (IsAncestor g z) (sym (log_same g place.1 other e)) a)
    by other z a Greater e low = absurd cc

    after : (z : Digest) → Contains (ancestors_left g front) z → comes_first g z place.1 ≡ false
    after z has =
        let some = left_from g h.due front z has in
        let low = All-contains (λ other. is_gt (by_place place other) ≡ false) front some.0 least some.1 in
        by some.0.1 z some.2 (log_order g place.1 some.0.1) refl (sym (ap is_gt (in_log g place some.0 (h.places place within) (h.places some.0 some.1))) ∙ low)

-- once the first is passed and its parents are put in, the others are left
pub passed : (g : Graph) (place : Place) (rest new : List Place) → IsFront g (place ∷ rest) → All (λ other. by_place place other ≡ Less) rest
    → PutsIn g (parents g place.1) rest new → ancestors_left g (place ∷ rest) ≡ place.1 ∷ ancestors_left g new
passed g place rest new h above puts =
    same_ascending (log_total g) (ancestors_left g (place ∷ rest)) (place.1 ∷ ancestors_left g new) (left_ascends g (place ∷ rest))
    (ascends_more (log_order g) place.1 (ancestors_left g new) below (left_ascends g new)) to from
  where
    here : Contains (place ∷ rest) place
    here = Contains-first place rest

    before : (other : Place) → Contains rest other → log_order g place.1 other.1 ≡ Less
    before other within =
        sym (in_log g place other (h.places place here) (h.places other (Contains-later place other rest within)))
        ∙ All-contains (λ other. by_place place other ≡ Less) rest other above within

    below : (z : Digest) → Contains (ancestors_left g new) z → log_order g place.1 z ≡ Less
    below z has =
        let some = left_from g h.due new z has in
        elim (puts.only some.0 some.1) [
          | inl old ↦ before_ancestors g h.due place.1 some.0.1 z (before some.0 old) some.2
          | inr put ↦ before_ancestors g h.due place.1 some.0.1 z (lesser_after g place.1 some.0.1
              (subst (λ (p : Place). generation g p.1 < generation g place.1) (sym put.2) (parent_lesser g h.due place.1 put.0 put.1))) some.2
        ]

    of_parent : (z : Digest) → (parent : Digest) × Contains (parents g place.1) parent × IsAncestor g z parent → Contains (ancestors_left g new) z
    of_parent z w =
        let at = puts.put w.0 w.1 in
        left_to g h.due new at.0 z at.1 (subst (IsAncestor g z) (sym at.2) w.2)

    to : (z : Digest) → Contains (ancestors_left g (place ∷ rest)) z → Contains (place.1 ∷ ancestors_left g new) z
    to z has =
        let some = left_from g h.due (place ∷ rest) z has in
        elim (first_or_later place some.0 rest some.1) [
          | inl this ↦ elim (by_parent g z place.1 (subst (λ (p : Place). IsAncestor g z p.1) (sym this) some.2)) [
            | inl same ↦ subst (Contains (place.1 ∷ ancestors_left g new)) same (Contains-first place.1 (ancestors_left g new))
            | inr parent ↦ Contains-later place.1 z (ancestors_left g new) (of_parent z parent)
          ]
          | inr later ↦ Contains-later place.1 z (ancestors_left g new) (left_to g h.due new some.0 z (puts.kept some.0 later) some.2)
        ]

    from : (z : Digest) → Contains (place.1 ∷ ancestors_left g new) z → Contains (ancestors_left g (place ∷ rest)) z
    from z has = elim (first_or_later place.1 z (ancestors_left g new) has) [
      | inl same ↦ left_to g h.due (place ∷ rest) place z here (subst (λ d. IsAncestor g d place.1) same (itself g place.1 (h.places place here).there))
      | inr later ↦
          let some = left_from g h.due new z later in
          elim (puts.only some.0 some.1) [
            | inl old ↦ left_to g h.due (place ∷ rest) some.0 z (Contains-later place some.0 rest old) some.2
            | inr put ↦
                left_to g h.due (place ∷ rest) place z here (through_parent g z place.1 put.0 put.1 (subst (λ (p : Place). IsAncestor g z p.1) put.2 some.2))
          ]
    ]
