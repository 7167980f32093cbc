-- An item put in its place in a list that is in an order, and the commits so far that a fact holds of, in an order.
use Rattle.std.proofs.Common.{◌≡◌, ℕ, suc, ◌+◌, ◌<◌, ◌≤◌, ◌⊎◌, inl, inr, List, [], ◌∷◌, ◌++◌, length, get_or, take, drop, refl, sym, ap, subst, ◌∙◌, add-one}
use Rattle.std.proofs.Common.{drop-cons, append_assoc, arith}
use Rattle.std.proofs.Math.Seq.{drop-length}
use Rattle.std.proofs.lemmas.List.{take_more, take-append-drop}
use Rattle.std.proofs.lemmas.List.Elements.{AllWithin-more, at_read}
use Rattle.std.specs.Cmp.{IsTotalOrder}
use Rattle.std.specs.Ordering.{ordering_reverse}
use Rattle.std.specs.declared.cmp.Ordering.{Ordering}
use Rattle.std.specs.declared.cmp.Ordering.TheVariants.{Less, Equal, Greater}
use Rattle.std.specs.FinMap.{IsAntisymmetric}
use Rattle.std.specs.FinMap.Entries.{by_order}
use Rattle.std.specs.List.{Contains, AllByRecursion, AllWithin, insert}
use Rattle.std.specs.List.Sorted.{IsStrictlySortedBy}
use Rattle.lake_values.specs.Ancestry.{graph_of, commit_of}
use Rattle.lake_values.specs.Commit.{CommitRecordValue}
use Rattle.lake_base.specs.declared.digest.Digest.{Digest}
use Rattle.std.specs.Option.{IsSome}
use Rattle.plain_reference.specs.OrderSteps.{with_item}
use Rattle.plain_reference.proofs.AncestryReachLemmas.{listed, within_contains}
use Rattle.lake_values.proofs.OrderLemmas.{Contains-first, Contains-later, Contains-nothing, first_or_later, same_ascending}

-- ---- the place of an item

module _ {K : Type 0} (R : K → K → Ordering) (item : K) (items : List K) (i : ℕ)
    (so_far : with_item R item items ≡ take i items ++ with_item R item (drop i items)) where
  rest_is : (other : K) → i < length items → other ≡ get_or items i other → drop i items ≡ other ∷ drop (suc i) items
  rest_is other lt is = drop-cons items i other lt ∙ ap (λ y. y ∷ drop (suc i) items) (sym is)

  at_other : (other : K) (o : Ordering) → i < length items → other ≡ get_or items i other → R item other ≡ o
      → with_item R item items
      ≡ take i items ++ by_order o (item ∷ other ∷ drop (suc i) items) (other ∷ drop (suc i) items) (other ∷ with_item R item (drop (suc i) items))
  at_other other o lt is e =
      so_far
      ∙ ap (λ l. take i items ++ with_item R item l) (rest_is other lt is)
      ∙ ap (λ r. take i items ++ by_order r (item ∷ other ∷ drop (suc i) items) (other ∷ drop (suc i) items) (other ∷ with_item R item (drop (suc i) items))) e

  pub place_here : (other : K) → i < length items → other ≡ get_or items i other → R item other ≡ Less → with_item R item items ≡ insert items i item
  place_here other lt is e = at_other other Less lt is e ∙ ap (λ l. take i items ++ item ∷ l) (sym (rest_is other lt is))

  pub place_none : (other : K) → i < length items → other ≡ get_or items i other → R item other ≡ Equal → with_item R item items ≡ items
  place_none other lt is e = at_other other Equal lt is e ∙ ap (λ l. take i items ++ l) (sym (rest_is other lt is)) ∙ take-append-drop i items

  pub place_later : (other : K) → i < length items → other ≡ get_or items i other → R item other ≡ Greater
      → with_item R item items ≡ take (i + 1) items ++ with_item R item (drop (i + 1) items)
  place_later other lt is e =
      at_other other Greater lt is e
      ∙ sym (append_assoc (take i items) (other ∷ []) (with_item R item (drop (suc i) items)))
      ∙ ap (λ l. l ++ with_item R item (drop (suc i) items)) (ap (λ y. take i items ++ y ∷ []) is ∙ sym (take_more items i other lt))
      ∙ ap (λ n. take (i + 1) items ++ with_item R item (drop n items)) (sym (add-one i))

  pub place_last : i ≡ length items → with_item R item items ≡ insert items i item
  place_last e = let none : drop i items ≡ [] = ap (λ n. drop n items) e ∙ drop-length items in
      so_far ∙ ap (λ l. take i items ++ with_item R item l) none ∙ ap (λ l. take i items ++ item ∷ l) (sym none)

-- ---- what the list has then

module _ {K : Type 0} {R : K → K → Ordering} (o : IsTotalOrder R) (same : IsAntisymmetric R) (item : K) where
  above_with : (x : K) (items : List K) → R x item ≡ Less → AllByRecursion (λ y. R x y ≡ Less) items
      → AllByRecursion (λ y. R x y ≡ Less) (with_item R item items)
  above_with x [] e all = (e, tt)
  above_with x (y ∷ items) e all = by (R item y) (above_with x items e all.1)
    where
      by : (o : Ordering) → AllByRecursion (λ z. R x z ≡ Less) (with_item R item items)
          → AllByRecursion (λ z. R x z ≡ Less) (by_order o (item ∷ y ∷ items) (y ∷ items) (y ∷ with_item R item items))
      by Less rest = (e, all)
      by Equal rest = all
      by Greater rest = (all.0, rest)

  through : (x y : K) (items : List K) → R x y ≡ Less → AllByRecursion (λ z. R y z ≡ Less) items → AllByRecursion (λ z. R x z ≡ Less) items
  through x y [] e all = tt
  through x y (z ∷ items) e all = (o.trans x y z e all.0, through x y items e all.1)

  pub with_ascends : (items : List K) → IsStrictlySortedBy R items → IsStrictlySortedBy R (with_item R item items)
  unfolding IsStrictlySortedBy
  with_ascends [] ascend = (tt, tt)
  with_ascends (y ∷ items) ascend = by (R item y) refl (with_ascends items ascend.1)
    where
      by : (o : Ordering) → R item y ≡ o → IsStrictlySortedBy R (with_item R item items)
          → IsStrictlySortedBy R (by_order o (item ∷ y ∷ items) (y ∷ items) (y ∷ with_item R item items))
      by Less e rest = ((e, through item y items e ascend.0), ascend)
      by Equal e rest = ascend
      by Greater e rest = (above_with y items (o.antisymm y item ∙ ap ordering_reverse e) ascend.0, rest)

  pub with_has : (items : List K) → Contains (with_item R item items) item
  with_has [] = Contains-first item []
  with_has (y ∷ items) = by (R item y) refl (with_has items)
    where
      by : (o : Ordering) → R item y ≡ o → Contains (with_item R item items) item
          → Contains (by_order o (item ∷ y ∷ items) (y ∷ items) (y ∷ with_item R item items)) item
      by Less e rest = Contains-first item (y ∷ items)
      by Equal e rest = subst (Contains (y ∷ items)) (sym (same item y e)) (Contains-first y items)
      by Greater e rest = Contains-later y item (with_item R item items) rest

  pub with_keeps : (items : List K) (x : K) → Contains items x → Contains (with_item R item items) x
  with_keeps [] x within = absurd (Contains-nothing x within)
  with_keeps (y ∷ items) x within = by (R item y) (λ later. with_keeps items x later)
    where
      by : (o : Ordering) → (Contains items x → Contains (with_item R item items) x)
          → Contains (by_order o (item ∷ y ∷ items) (y ∷ items) (y ∷ with_item R item items)) x
      by Less rest = Contains-later item x (y ∷ items) within
      by Equal rest = within
      by Greater rest = elim (first_or_later y x items within) [
        | inl same ↦ subst (Contains (y ∷ with_item R item items)) same (Contains-first y (with_item R item items))
        | inr later ↦ Contains-later y x (with_item R item items) (rest later)
      ]

  pub with_only : (items : List K) (x : K) → Contains (with_item R item items) x → (item ≡ x) ⊎ Contains items x
  with_only [] x within = first_or_later item x [] within
  with_only (y ∷ items) x within = by (R item y) within (λ later. with_only items x later)
    where
      by : (o : Ordering) → Contains (by_order o (item ∷ y ∷ items) (y ∷ items) (y ∷ with_item R item items)) x
          → (Contains (with_item R item items) x → (item ≡ x) ⊎ Contains items x) → (item ≡ x) ⊎ Contains (y ∷ items) x
      by Less w rest = first_or_later item x (y ∷ items) w
      by Equal w rest = inr w
      by Greater w rest = elim (first_or_later y x (with_item R item items) w) [
        | inl same ↦ inr (subst (Contains (y ∷ items)) same (Contains-first y items))
        | inr later ↦ elim (rest later) [ inl is ↦ inl is | inr more ↦ inr (Contains-later y x items more) ]
      ]

-- ---- the commits so far

-- a list in an order: commits that the fact holds of, and of the first commits of a list all those
pub record HasThose (R : Digest → Digest → Ordering) (P : Digest → Type 0) (cs : List (Digest × CommitRecordValue)) (i : ℕ) (list : List Digest) : Type 0 where
  pub ascend : IsStrictlySortedBy R list
  pub only : (id : Digest) → Contains list id → P id
  pub all : AllWithin (λ c. P c.0 → Contains list c.0) cs 0 i

module _ {R : Digest → Digest → Ordering} (o : IsTotalOrder R) (same : IsAntisymmetric R) (P : Digest → Type 0) (cs : List (Digest × CommitRecordValue)) where
  pub those_start : (list : List Digest) → list ≡ [] → HasThose R P cs 0 list
  unfolding IsStrictlySortedBy
  those_start list e = record {
    ascend = subst (IsStrictlySortedBy R) (sym e) tt;
    only = λ id within. absurd (Contains-nothing id (subst (λ l. Contains l id) e within));
    all = λ k d low high. absurd (omega arith);
  }

  module _ (i : ℕ) (list : List Digest) (h : HasThose R P cs i list) (c : Digest × CommitRecordValue) (lt : i < length cs) (is : c ≡ get_or cs i c) where
    -- one more commit, of which it holds
    pub those_more : P c.0 → (new : List Digest) → new ≡ with_item R c.0 list → HasThose R P cs (i + 1) new
    those_more p new e = subst (HasThose R P cs (i + 1)) (sym e) (record {
      ascend = with_ascends o same c.0 list h.ascend;
      only = λ id within. elim (with_only o same c.0 list id within) [ inl this ↦ subst P this p | inr before ↦ h.only id before ];
      all = AllWithin-more (λ x. P x.0 → Contains (with_item R c.0 list) x.0) cs 0 i
          (λ j d low high pj. with_keeps o same c.0 list (get_or cs j d).0 (h.all j d low high pj))
          (at_read cs (λ x. P x.0 → Contains (with_item R c.0 list) x.0) i c lt is (λ _. with_has o same c.0 list));
    })

    -- one more, of which it doesn't
    pub those_same : (P c.0 → ⊥) → HasThose R P cs (i + 1) list
    those_same never = record {
      ascend = h.ascend;
      only = h.only;
      all = AllWithin-more (λ x. P x.0 → Contains list x.0) cs 0 i h.all (at_read cs (λ x. P x.0 → Contains list x.0) i c lt is (λ p. absurd (never p)));
    }

  -- where all commits are passed, the list is the one that has just the commits that the fact holds of, in that order
  pub those_all : ((id : Digest) → P id → IsSome (commit_of (graph_of cs) id)) → (i : ℕ) (list : List Digest) → length cs ≤ i → HasThose R P cs i list
      → (due : List Digest) → IsStrictlySortedBy R due → ((id : Digest) → Contains due id → P id) → ((id : Digest) → P id → Contains due id) → list ≡ due
  those_all there i list past h due ascends from to =
      same_ascending o list due h.ascend ascends (λ id within. to id (h.only id within))
      (λ id within.
      let p = from id within in
      let w = listed cs id (there id p) in
      subst (Contains list) w.2 (within_contains (λ x. P x.0 → Contains list x.0) cs i w.0 past h.all w.1 (subst P (sym w.2) p)))
