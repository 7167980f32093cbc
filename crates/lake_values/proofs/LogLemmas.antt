-- What is in a log, and its pages taken one after the other.
use Rattle.std.proofs.Common.{◌≡◌, ℕ, zero, suc, ◌<◌, ◌≤◌, ◌&&◌, Bool, true, false, cond, List, [], ◌∷◌, ◌++◌, length, take, drop, Some, None, Option, refl}
use Rattle.std.proofs.Common.{sym, ap, subst, ◌∙◌, append_assoc, arith}
use Rattle.std.proofs.Math.Bool.{and-true}
use Rattle.std.proofs.lemmas.Bool.{leb-true, le-leb, ltb-true, ltb-false}
use Rattle.std.proofs.lemmas.Cmp.{tied_itself}
use Rattle.std.proofs.lemmas.List.{append-nil, take-append-drop, take_all, length-take, length-drop}
use Rattle.std.proofs.lemmas.List.Elements.{Contains-append_right, filter_agree}
use Rattle.std.proofs.lemmas.List.Kept.{IsStrictlySortedBy-filter}
use Rattle.std.proofs.lemmas.Map.Keys.{sorted_head, sorted_tail}
use Rattle.std.specs.Cmp.{IsTotalOrder}
use Rattle.std.specs.List.{Contains, AllByRecursion, filter}
use Rattle.std.specs.List.Sorted.{IsStrictlySortedBy}
use Rattle.std.specs.Option.{IfSome}
use Rattle.std.specs.Ordering.{is_lt, ordering_reverse}
use Rattle.std.specs.declared.cmp.Ordering.{Ordering}
use Rattle.std.specs.declared.cmp.Ordering.TheVariants.{Less}
use Rattle.lake_base.specs.declared.digest.Digest.{Digest}
use Rattle.lake_values.specs.Ancestry.{Graph, IsGraph, date, log_order, comes_first, ancestors_in_order}
use Rattle.lake_values.specs.Log.{is_after, is_since, is_in_log, log_after, log_page, IsInLog, last_id, log_pages}
use Rattle.lake_values.proofs.AncestryLemmas.{and_both, and_of}
use Rattle.lake_values.proofs.AncestryOrderLemmas.{log_total, comes_through, ancestors_from, ancestors_to, ancestors_ascend}
use Rattle.lake_values.proofs.OrderLemmas.{Contains-first, Contains-filter, Contains-from_filter, below_later}

-- ---- lists

-- a filter of a filter is one by both tests
filter_both : {X : Type 0} (p q : X → Bool) (xs : List X) → filter p (filter q xs) ≡ filter (λ x. q x && p x) xs
filter_both p q [] = refl
filter_both p q (x ∷ xs) = by (q x) (filter_both p q xs)
  where
    by : (b : Bool) → filter p (filter q xs) ≡ filter (λ x. q x && p x) xs
        → filter p (cond b (x ∷ filter q xs) (filter q xs)) ≡ cond (b && p x) (x ∷ filter (λ x. q x && p x) xs) (filter (λ x. q x && p x) xs)
    by true rest = ap (λ l. cond (p x) (x ∷ l) l) rest
    by false rest = rest

module _ {K : Type 0} {R : K → K → Ordering} (o : IsTotalOrder R) where
  all_above : (y : K) (zs : List K) → AllByRecursion (λ z. R y z ≡ Less) zs → filter (λ z. is_lt (R y z)) zs ≡ zs
  all_above y [] all = refl
  all_above y (z ∷ zs) all =
      ap (λ b. cond b (z ∷ filter (λ z. is_lt (R y z)) zs) (filter (λ z. is_lt (R y z)) zs)) (ap is_lt all.0) ∙ ap (λ l. z ∷ l) (all_above y zs all.1)

  -- of a list that ascends, those above one of them are those behind it
  above_it : (y : K) (xs zs : List K) → IsStrictlySortedBy R (xs ++ y ∷ zs) → filter (λ z. is_lt (R y z)) (xs ++ y ∷ zs) ≡ zs
  above_it y [] zs ascend =
      ap (λ b. cond b (y ∷ filter (λ z. is_lt (R y z)) zs) (filter (λ z. is_lt (R y z)) zs)) (ap is_lt (tied_itself o y))
      ∙ all_above y zs (sorted_head R y zs ascend)
  above_it y (x ∷ xs) zs ascend =
      let within : Contains (xs ++ y ∷ zs) y = Contains-append_right xs (y ∷ zs) y (Contains-first y zs) in
      let before : is_lt (R y x) ≡ false = ap is_lt (o.antisymm y x ∙ ap ordering_reverse (below_later o x y (xs ++ y ∷ zs) ascend within)) in
      ap (λ b. cond b (x ∷ filter (λ z. is_lt (R y z)) (xs ++ y ∷ zs)) (filter (λ z. is_lt (R y z)) (xs ++ y ∷ zs))) before
      ∙ above_it y xs zs (sorted_tail R x (xs ++ y ∷ zs) ascend)

-- a list that isn't empty has a last item
split_last : {X : Type 0} (x : X) (xs : List X) → (front : List X) × ((last : X) × (x ∷ xs ≡ front ++ last ∷ []))
split_last x [] = ([], (x, refl))
split_last x (y ∷ xs) = let rest = split_last y xs in (x ∷ rest.0, (rest.1.0, ap (λ l. x ∷ l) rest.1.1))

has_last : {X : Type 0} (xs : List X) → 0 < length xs → (front : List X) × ((last : X) × (xs ≡ front ++ last ∷ []))
has_last [] some = absurd (omega arith)
has_last (x ∷ xs) some = split_last x xs

last_id_is : (before : Option Digest) (front : List Digest) (x : Digest) → last_id before (front ++ x ∷ []) ≡ Some x
last_id_is before [] x = refl
last_id_is before (y ∷ front) x = last_id_is (Some y) front x

nothing_left : (l : List Digest) → length l ≤ 0 → [] ≡ l
nothing_left [] le = refl
nothing_left (x ∷ l) le = absurd (omega arith)

-- ---- pages

and_false : (b : Bool) → (b && false) ≡ false
and_false true = refl
and_false false = refl

module _ (g : Graph) (from : Digest) (since : Option ℕ) where
  after_both : (after : Option Digest) (y x : Digest) → is_after g after y ≡ true → comes_first g y x ≡ true → is_after g after x ≡ true
  after_both None y x p q = refl
  after_both (Some other) y x p q = comes_through g other y x p q

  in_both : (after : Option Digest) (y : Digest) → is_after g after y ≡ true → (x : Digest)
      → (is_in_log g after since x && comes_first g y x) ≡ is_in_log g (Some y) since x
  in_both after y p x = by (comes_first g y x) refl
    where
      by : (b : Bool) → comes_first g y x ≡ b → (is_in_log g after since x && b) ≡ (b && is_since g since x)
      by true e = and-true (is_in_log g after since x) ∙ ap (λ b. b && is_since g since x) (after_both after y x p e)
      by false e = and_false (is_in_log g after since x)

  log_ascend : (after : Option Digest) → IsStrictlySortedBy (log_order g) (log_after g from after since)
  unfolding log_after
  log_ascend after = IsStrictlySortedBy-filter (log_order g) (is_in_log g after since) (ancestors_in_order g from) (ancestors_ascend g from)

  -- the log after one of its commits is what comes behind that
  behind_it : (after : Option Digest) (xs : List Digest) (y : Digest) (zs : List Digest) → log_after g from after since ≡ xs ++ y ∷ zs
      → log_after g from (Some y) since ≡ zs
  unfolding log_after
  behind_it after xs y zs is =
      let all : List Digest = ancestors_in_order g from in
      let within : Contains (filter (is_in_log g after since) all) y =
      subst (λ l. Contains l y) (sym is) (Contains-append_right xs (y ∷ zs) y (Contains-first y zs)) in
      let passes = (Contains-from_filter (is_in_log g after since) all y within).1 in
      let later : is_after g after y ≡ true = (and_both (is_after g after y) (is_since g since y) passes).0 in
      sym (filter_agree (λ x. is_in_log g after since x && comes_first g y x) (is_in_log g (Some y) since) (in_both after y later) all)
      ∙ sym (filter_both (comes_first g y) (is_in_log g after since) all)
      ∙ ap (filter (comes_first g y)) is
      ∙ above_it (log_total g) y xs zs (subst (IsStrictlySortedBy (log_order g)) is (log_ascend after))

  -- the log after a page is what the page leaves
  behind_page : (after : Option Digest) (a : ℕ) → 0 < a → a < length (log_after g from after since)
      → log_after g from (last_id after (take a (log_after g from after since))) since ≡ drop a (log_after g from after since)
  behind_page after a some lt =
      let all : List Digest = log_after g from after since in
      let last = has_last (take a all) (omega (arith, length-take a all)) in
      ap (λ other. log_after g from other since) (ap (last_id after) last.1.1 ∙ last_id_is after last.0 last.1.0)
      ∙ behind_it after last.0 last.1.0 (drop a all)
      (sym (take-append-drop a all) ∙ ap (λ l. l ++ drop a all) last.1.1 ∙ append_assoc last.0 (last.1.0 ∷ []) (drop a all))

  module _ (a : ℕ) (some : 0 < a) where
    pages_step : (n : ℕ) (after : Option Digest) → length (log_after g from after since) ≤ suc n
        → ((other : Option Digest) → length (log_after g from other since) ≤ n → log_pages n g from other since a ≡ log_after g from other since)
        → (b : Bool) → (log_page g from after since a).has_more ≡ b → log_pages (suc n) g from after since a ≡ log_after g from after since
    unfolding log_page
    pages_step n after le rest true more =
        let all : List Digest = log_after g from after since in
        let next : Option Digest = last_id after (take a all) in
        let lt : a < length all = ltb-true _ _ more in
        let is = behind_page after a some lt in
        let fewer : length (log_after g from next since) ≤ n = omega (arith, ap length is, length-drop a all) in
        ap (λ b. take a all ++ cond b (log_pages n g from next since a) []) more
        ∙ ap (λ l. take a all ++ l) (rest next fewer ∙ is)
        ∙ take-append-drop a all
    pages_step n after le rest false more =
        let all : List Digest = log_after g from after since in
        ap (λ b. take a all ++ cond b (log_pages n g from (last_id after (take a all)) since a) []) more
        ∙ append-nil (take a all) ∙ take_all a all (ltb-false _ _ more)

    -- pages one after the other are the whole log
    pub all_log_pages : (n : ℕ) (after : Option Digest) → length (log_after g from after since) ≤ n
        → log_pages n g from after since a ≡ log_after g from after since
    all_log_pages zero after le = nothing_left (log_after g from after since) le
    all_log_pages (suc n) after le = pages_step n after le (λ other fewer. all_log_pages n other fewer) (log_page g from after since a).has_more refl

  -- a page that has more isn't empty
  pub more_of_some : (after : Option Digest) (a : ℕ) → 0 < a → (log_page g from after since a).has_more ≡ true → (log_page g from after since a).ids ≡ [] → ⊥
  unfolding log_page
  more_of_some after a some more none =
      let lt : a < length (log_after g from after since) = ltb-true _ _ more in
      absurd (omega (arith, lt, ap length none, length-take a (log_after g from after since)))

pub log_after_ascends : (g : Graph) (from : Digest) (after : Option Digest) (since : Option ℕ) → IsStrictlySortedBy (log_order g) (log_after g from after since)
log_after_ascends g from after since = log_ascend g from since after

-- ---- what is in a log

later_from : (g : Graph) (after : Option Digest) (id : Digest) → is_after g after id ≡ true → IfSome after (λ other. comes_first g other id ≡ true)
later_from g None id e = tt
later_from g (Some other) id e = e

later_to : (g : Graph) (after : Option Digest) (id : Digest) → IfSome after (λ other. comes_first g other id ≡ true) → is_after g after id ≡ true
later_to g None id e = refl
later_to g (Some other) id e = e

dated_from : (g : Graph) (since : Option ℕ) (id : Digest) → is_since g since id ≡ true → IfSome since (λ moment. moment ≤ date g id)
dated_from g None id e = tt
dated_from g (Some moment) id e = leb-true moment (date g id) e

dated_to : (g : Graph) (since : Option ℕ) (id : Digest) → IfSome since (λ moment. moment ≤ date g id) → is_since g since id ≡ true
dated_to g None id e = refl
dated_to g (Some moment) id le = le-leb moment (date g id) le

module _ (g : Graph) (graph : IsGraph g) (from : Digest) (after : Option Digest) (since : Option ℕ) where
  pub in_log_from : (id : Digest) → Contains (log_after g from after since) id → IsInLog g from after since id
  unfolding log_after
  in_log_from id within =
      let both = Contains-from_filter (is_in_log g after since) (ancestors_in_order g from) id within in
      let tests = and_both (is_after g after id) (is_since g since id) both.1 in
      record { ancestor = ancestors_from g graph from id both.0; later = later_from g after id tests.0; dated = dated_from g since id tests.1 }

  pub in_log_to : (id : Digest) → IsInLog g from after since id → Contains (log_after g from after since) id
  unfolding log_after
  in_log_to id h =
      Contains-filter (is_in_log g after since) (ancestors_in_order g from) id (ancestors_to g graph from id h.ancestor)
      (and_of (is_after g after id) (is_since g since id) (later_to g after id h.later) (dated_to g since id h.dated))
