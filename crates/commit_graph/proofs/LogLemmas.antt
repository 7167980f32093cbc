-- Two walks that look for the first commit of both, and the page of a log.
use Rattle.std.proofs.Common.{◌≡◌, ℕ, ◌<◌, ◌≤◌, Bool, true, false, List, [], ◌∷◌, ◌++◌, length, take, drop, Some, None, Option, inl, inr, refl, sym, ap, subst}
use Rattle.std.proofs.Common.{◌∙◌, append-nil, length-append, arith}
use Rattle.std.proofs.Math.Seq.{take-append_seam}
use Rattle.std.proofs.lemmas.Bool.{lt-ltb, le-ltb}
use Rattle.std.proofs.lemmas.List.{take_all, length-drop}
use Rattle.std.proofs.lemmas.Map.Keys.{sorted_tail}
use Rattle.std.specs.List.{Contains, filter, slice_get}
use Rattle.std.specs.List.Sorted.{IsStrictlySortedBy}
use Rattle.std.specs.Ordering.{is_lt, ordering_reverse}
use Rattle.std.specs.Prelude.{nat_lt}
use Rattle.std.specs.declared.cmp.Ordering.TheVariants.{Less, Equal, Greater}
use Rattle.lake_base.specs.declared.digest.Digest.{Digest}
use Rattle.lake_values.specs.Ancestry.{Graph, IsGraph, IsCommon, IsBase, log_order, ancestors_in_order}
use Rattle.lake_values.specs.Log.{is_in_log, log_after, log_page, LogPageValue}
use Rattle.lake_values.proofs.AncestryLemmas.{differ}
use Rattle.lake_values.proofs.AncestryOrderLemmas.{log_total, log_same, ancestors_from, ancestors_to, ancestors_ascend}
use Rattle.lake_values.proofs.OrderLemmas.{Contains-first, Contains-later, Contains-nothing, first_or_later, not_before_first}

-- ---- two walks

-- Two lists that ascend in the order of the log and have just the common ancestors in common.
pub record AreBoth (g : Graph) (a b : Digest) (left right : List Digest) : Type 0 where
  pub left_ascends : IsStrictlySortedBy (log_order g) left
  pub right_ascends : IsStrictlySortedBy (log_order g) right
  pub common : (id : Digest) → Contains left id → Contains right id → IsCommon g a b id
  pub in_left : (id : Digest) → IsCommon g a b id → Contains left id
  pub in_right : (id : Digest) → IsCommon g a b id → Contains right id

pub both_start : (g : Graph) → IsGraph g → (a b : Digest) (left right : List Digest) → left ≡ ancestors_in_order g a → right ≡ ancestors_in_order g b
    → AreBoth g a b left right
both_start g graph a b left right p q = subst (λ l. AreBoth g a b l right) (sym p) (subst (AreBoth g a b (ancestors_in_order g a)) (sym q) (record {
  left_ascends = ancestors_ascend g a;
  right_ascends = ancestors_ascend g b;
  common = λ id x y. (ancestors_from g graph a id x, ancestors_from g graph b id y);
  in_left = λ id c. ancestors_to g graph a id c.0;
  in_right = λ id c. ancestors_to g graph b id c.1;
}))

-- nothing of an empty list passes
pub none_pass : (p : Digest → Bool) (l : List Digest) → None ≡ slice_get l 0 → filter p l ≡ []
none_pass p [] e = refl
none_pass p (x ∷ l) e = absurd cc

pub shorter : {X : Type 0} (l new : List X) (x : X) → Some x ≡ slice_get l 0 → new ≡ drop 1 l → length new < length l
shorter [] new x first e = absurd cc
shorter (y ∷ l) new x first e = omega (arith, ap length e, length-drop 1 (y ∷ l))

-- what comes before the first of a list that ascends doesn't stand in it
apart : (g : Graph) (x y : Digest) (ys : List Digest) → IsStrictlySortedBy (log_order g) (y ∷ ys) → log_order g x y ≡ Less → Contains (y ∷ ys) x → ⊥
apart g x y ys ascend less within = differ (sym (ap is_lt less) ∙ not_before_first (log_total g) y x ys ascend within)

the_same : (x y : Digest) → Some x ≡ Some y → x ≡ y
the_same x y e = cc

module _ (g : Graph) (a b : Digest) where
  pub left_passed : (left right : List Digest) (x y : Digest) (new : List Digest) → AreBoth g a b left right → Some x ≡ slice_get left 0
      → Some y ≡ slice_get right 0
      → log_order g x y ≡ Less → new ≡ drop 1 left → AreBoth g a b new right
  left_passed [] right x y new h p q less e = absurd cc
  left_passed (v ∷ left) [] x y new h p q less e = absurd cc
  left_passed (v ∷ left) (w ∷ right) x y new h p q less e =
      let first : log_order g v w ≡ Less = ap (λ d. log_order g d w) (sym (the_same x v p)) ∙ ap (log_order g x) (sym (the_same y w q)) ∙ less in
      subst (λ l. AreBoth g a b l (w ∷ right)) (sym e) (record {
        left_ascends = sorted_tail (log_order g) v left h.left_ascends;
        right_ascends = h.right_ascends;
        common = λ id within there. h.common id (Contains-later v id left within) there;
        in_left = λ id c. elim (first_or_later v id left (h.in_left id c)) [
          | inl same ↦ absurd (apart g v w right h.right_ascends first (subst (Contains (w ∷ right)) (sym same) (h.in_right id c)))
          | inr behind ↦ behind
        ];
        in_right = h.in_right;
      })

  pub right_passed : (left right : List Digest) (x y : Digest) (new : List Digest) → AreBoth g a b left right → Some x ≡ slice_get left 0
      → Some y ≡ slice_get right 0
      → log_order g x y ≡ Greater → new ≡ drop 1 right → AreBoth g a b left new
  right_passed [] right x y new h p q greater e = absurd cc
  right_passed (v ∷ left) [] x y new h p q greater e = absurd cc
  right_passed (v ∷ left) (w ∷ right) x y new h p q greater e =
      let first : log_order g w v ≡ Less = (log_total g).antisymm w v
      ∙ ap ordering_reverse (ap (λ d. log_order g d w) (sym (the_same x v p)) ∙ ap (log_order g x) (sym (the_same y w q)) ∙ greater) in
      subst (AreBoth g a b (v ∷ left)) (sym e) (record {
        left_ascends = h.left_ascends;
        right_ascends = sorted_tail (log_order g) w right h.right_ascends;
        common = λ id within there. h.common id within (Contains-later w id right there);
        in_left = h.in_left;
        in_right = λ id c. elim (first_or_later w id right (h.in_right id c)) [
          | inl same ↦ absurd (apart g w v left h.left_ascends first (subst (Contains (v ∷ left)) (sym same) (h.in_left id c)))
          | inr behind ↦ behind
        ];
      })

  -- the first of both is the base
  pub both_found : (left right : List Digest) (x y : Digest) → AreBoth g a b left right → Some x ≡ slice_get left 0 → Some y ≡ slice_get right 0
      → log_order g x y ≡ Equal → IsBase g a b x
  both_found [] right x y h p q equal = absurd cc
  both_found (v ∷ left) [] x y h p q equal = absurd cc
  both_found (v ∷ left) (w ∷ right) x y h p q equal =
      let same : v ≡ w = sym (the_same x v p) ∙ log_same g x y equal ∙ the_same y w q in
      subst (IsBase g a b) (sym (the_same x v p)) (record {
        common = h.common v (Contains-first v left) (subst (Contains (w ∷ right)) (sym same) (Contains-first w right));
        first = λ other c. not_before_first (log_total g) v other left h.left_ascends (h.in_left other c);
      })

  -- where one has ended, there is no common ancestor
  pub left_ended : (left right : List Digest) → AreBoth g a b left right → None ≡ slice_get left 0 → (id : Digest) → IsCommon g a b id → ⊥
  left_ended [] right h none id c = Contains-nothing id (h.in_left id c)
  left_ended (v ∷ left) right h none id c = absurd cc

  pub right_ended : (left right : List Digest) → AreBoth g a b left right → None ≡ slice_get right 0 → (id : Digest) → IsCommon g a b id → ⊥
  right_ended left [] h none id c = Contains-nothing id (h.in_right id c)
  right_ended left (w ∷ right) h none id c = absurd cc

-- ---- a page

module _ (ids left all : List Digest) (amount : ℕ) (whole : ids ++ left ≡ all) (room : length ids ≤ amount) where
  -- where one is left behind so many
  pub page_full : (id : Digest) (rest : List Digest) → left ≡ id ∷ rest → amount ≤ length ids → (ids ≡ take amount all) × (true ≡ nat_lt amount (length all))
  page_full id rest is full =
      let exact : length ids ≡ amount = omega arith in (
        sym (ap (take amount) (sym whole) ∙ ap (λ n. take n (ids ++ left)) (sym exact) ∙ take-append_seam ids left),
        sym (lt-ltb amount (length all) (omega (arith, ap length whole, length-append ids left, ap length is))),
      )

  -- where none is left
  pub page_ends : left ≡ [] → (ids ≡ take amount all) × (false ≡ nat_lt amount (length all))
  page_ends none =
      let is : ids ≡ all = sym (append-nil ids) ∙ ap (λ l. ids ++ l) (sym none) ∙ whole in (
        is ∙ sym (take_all amount all (omega (arith, ap length is))),
        sym (le-ltb amount (length all) (omega (arith, ap length is))),
      )

-- at the start all is still to come
pub log_starts : (g : Graph) (from : Digest) (after : Option Digest) (since : Option ℕ) (left : List Digest) → left ≡ ancestors_in_order g from
    → filter (is_in_log g after since) left ≡ log_after g from after since
unfolding log_after
log_starts g from after since left is = ap (filter (is_in_log g after since)) is

pub page_is : (g : Graph) (from : Digest) (after : Option Digest) (since : Option ℕ) (amount : ℕ) (ids : List Digest) (more : Bool)
    → (ids ≡ take amount (log_after g from after since)) × (more ≡ nat_lt amount (length (log_after g from after since)))
    → let page : LogPageValue = record { ids = ids; has_more = more } in page ≡ log_page g from after since amount
unfolding log_page
page_is g from after since amount ids more both = λ i. record { ids = both.0 i; has_more = both.1 i }
