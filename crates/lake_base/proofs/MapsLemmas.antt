-- What a search finds in a list whose keys ascend, and what an edit at that place does.
use Rattle.std.proofs.Common.{◌≡◌, ℕ, zero, suc, ◌-◌, ◌<◌, ◌≤◌, ◌&&◌, Bool, true, false, cond, T, List, [], ◌∷◌, length, map, get_or, set, length-drop}
use Rattle.std.proofs.Common.{drop-cons, add-one, ◌+◌, Some, None, Ok, Err, Result, MatchResult, sym, ap, subst, refl, ◌∙◌, arith, drop}
use Rattle.std.specs.Bool.{OnTrue, ◌==◌}
use Rattle.std.specs.List.{insert, slice_get, AllWithin, AllByRecursion}
use Rattle.std.specs.List.Sorted.{IsSearchInRange, IsBinarySearchResult, IsNonDecreasingBy, IsStrictlySortedBy}
use Rattle.std.specs.Cmp.{IsTotalOrder}
use Rattle.std.specs.Ordering.{ordering_index, ordering_reverse, is_lt, is_eq}
use Rattle.std.specs.declared.cmp.Ordering.{Ordering}
use Rattle.std.specs.declared.cmp.Ordering.TheVariants.{Less, Equal, Greater}
use Rattle.std.proofs.lemmas.Cmp.{nat_list_cmp_total}
use Rattle.std.specs.FinMap.{find, put, entries-from_sorted, entries_sorted, from_sorted, entries, entries-insert, same_entries_map, slice_cmp-IsAntisymmetric}
use Rattle.std.specs.FinMap.{nat_cmp-IsAntisymmetric, insert as map_insert, empty, len, len-entries, len-empty}
use Rattle.std.specs.FinMap.Entries.{below_all, by_order, is_sorted, is_sorted-put, where_key}
use Rattle.std.proofs.lemmas.List.{get_or_default}
use Rattle.std.proofs.lemmas.Option.{get_or_from_slice_get, slice_get_within}
use Rattle.lake_base.specs.Maps.{byte_order, ByteMap, HasAscendingKeys, IsAt, IsGap}

pub first : (a b : Bool) → T (a && b) → T a
first true b h = tt
first false b h = h

pub second : (a b : Bool) → T (a && b) → T b
second true b h = h
second false b h = absurd h

pub both : (a b : Bool) → T a → T b → T (a && b)
both true b h k = k
both false b h k = h

pub less : (o : Ordering) → T (is_lt o) → o ≡ Less
less Less h = refl
less Equal h = absurd h
less Greater h = absurd h

-- keys that tie are one
pub same_key : (a b : List ℕ) → byte_order a b ≡ Equal → a ≡ b
same_key = slice_cmp-IsAntisymmetric nat_cmp-IsAntisymmetric

pub turned : (a b : List ℕ) (r : Ordering) → byte_order a b ≡ r → byte_order b a ≡ ordering_reverse r
turned a b r e = nat_list_cmp_total.antisymm b a ∙ ap ordering_reverse e

-- of two keys the greater compares with a third no lower
step : (a b k : List ℕ) → byte_order a b ≡ Less → (r s : Ordering) → byte_order a k ≡ r → byte_order b k ≡ s → ordering_index r ≤ ordering_index s
step a b k lt Less s p q = omega arith
step a b k lt Equal s p q =
    let last : byte_order b k ≡ Greater = subst (λ c. byte_order b c ≡ Greater) (same_key a k p) (turned a b Less lt) in
    let e : ordering_index s ≡ 2 = ap ordering_index (sym q ∙ last) in
    omega (arith, e)
step a b k lt Greater s p q =
    let e : ordering_index s ≡ 2 = ap ordering_index (sym q ∙ turned k b Less (nat_list_cmp_total.trans k a b (turned a k Greater p) lt)) in
    omega (arith, e)

zero_is_less : (o : Ordering) → ordering_index o ≤ 0 → o ≡ Less
zero_is_less Less h = refl
zero_is_less Equal h = absurd (omega (arith, h))
zero_is_less Greater h = absurd (omega (arith, h))

two_is_greater : (o : Ordering) → 2 ≤ ordering_index o → o ≡ Greater
two_is_greater Less h = absurd (omega (arith, h))
two_is_greater Equal h = absurd (omega (arith, h))
two_is_greater Greater h = refl

module _ {X : Type 0} where
  pub head_below : (e : List ℕ × X) (es : List (List ℕ × X)) → HasAscendingKeys (e ∷ es) → T (below_all byte_order e.0 es)
  head_below e es h = first _ _ h

  pub tail_ascends : (e : List ℕ × X) (es : List (List ℕ × X)) → HasAscendingKeys (e ∷ es) → HasAscendingKeys es
  tail_ascends e es h = second _ _ h

  -- a key below all keys is below the one at a place
  pub below_at : (k : List ℕ) (es : List (List ℕ × X)) (i : ℕ) (d : List ℕ × X) → T (below_all byte_order k es) → i < length es
      → byte_order k (get_or es i d).0 ≡ Less
  below_at k [] i d h lt = absurd (omega arith)
  below_at k (e ∷ es) zero d h lt = less _ (first _ _ h)
  below_at k (e ∷ es) (suc i) d h lt = below_at k es i d (second _ _ h) (omega arith)

  rising : (es : List (List ℕ × X)) (k : List ℕ) → HasAscendingKeys es → IsNonDecreasingBy (λ item. ordering_index (byte_order item.0 k)) es
  rising [] k h i j d le lt = absurd (omega arith)
  rising (e ∷ es) k h zero zero d le lt = omega arith
  rising (e ∷ es) k h zero (suc j) d le lt = step e.0 _ k (below_at e.0 es j d (head_below e es h) (omega arith)) _ _ refl refl
  rising (e ∷ es) k h (suc i) zero d le lt = absurd (omega arith)
  rising (e ∷ es) k h (suc i) (suc j) d le lt = rising es k (tail_ascends e es h) i j d (omega arith) (omega arith)

  -- a search ends at the key, or at the gap for it
  pub searched : (es : List (List ℕ × X)) (k : List ℕ) → HasAscendingKeys es → (r : Result ℕ ℕ) → IsSearchInRange r (length es)
      → IsBinarySearchResult (λ item. byte_order item.0 k) es r → MatchResult r (IsAt es k) (IsGap es k)
  searched es k h (Ok at) within found = record { within = within; same = found }
  searched es k h (Err at) within parted = record { within = within; before = (parted (rising es k h)).0; from = (parted (rising es k h)).1 }

  -- a key above the last has its gap at the end
  pub last_gap : (es : List (List ℕ × X)) (k : List ℕ) (x : List ℕ × X) → HasAscendingKeys es → slice_get es (length es - 1) ≡ Some x → byte_order x.0 k ≡ Less
      → IsGap es k (length es)
  last_gap es k x h last lt = record {
    within = omega arith;
    before = λ j d low high.
        let i = length es - 1 in
        let within : i < length es = slice_get_within es i x last in
        let same : get_or es i d ≡ x = get_or_from_slice_get es i x d last in
        let end : ordering_index (byte_order (get_or es i d).0 k) ≡ 0 = ap (λ y. ordering_index (byte_order y.0 k)) same ∙ ap ordering_index lt in
        zero_is_less _ (omega (arith, rising es k h j i d (omega arith) within, end));
    from = λ j d low high. absurd (omega arith);
  }

  pub tested_gap : (es : List (List ℕ × X)) (k : List ℕ) (x : List ℕ × X) → HasAscendingKeys es → slice_get es (length es - 1) ≡ Some x → (o : Ordering)
      → o ≡ byte_order x.0 k → (b : Bool) → b ≡ (ordering_index o == 0) → OnTrue b (IsGap es k (length es))
  tested_gap es k x h last Less e true is = last_gap es k x h last (sym e)
  tested_gap es k x h last Equal e true is = cc
  tested_gap es k x h last Greater e true is = cc
  tested_gap es k x h last o e false is = tt

  -- where all before are below and the key there is above
  pub greater_gap : (es : List (List ℕ × X)) (k : List ℕ) (at : ℕ) (x : List ℕ × X) → HasAscendingKeys es → at < length es
      → AllWithin (λ item. byte_order item.0 k ≡ Less) es 0 at → x ≡ get_or es at x → byte_order x.0 k ≡ Greater → IsGap es k at
  greater_gap es k at x h lt below is gt = record {
    within = omega (arith, lt);
    before = below;
    from = λ i d low high.
        let here : get_or es at d ≡ x = get_or_default es at d x lt ∙ sym is in
        let two : ordering_index (byte_order (get_or es at d).0 k) ≡ 2 = ap (λ y. ordering_index (byte_order y.0 k)) here ∙ ap ordering_index gt in
        two_is_greater _ (omega (arith, rising es k h at i d low high, two));
  }

  pub no_gap : (es : List (List ℕ × X)) (k : List ℕ) → length es ≡ 0 → IsGap es k (length es)
  no_gap es k e = record { within = omega arith; before = λ j d low high. absurd (omega arith); from = λ j d low high. absurd (omega arith) }

  -- a put at a place where the key stands
  pub put_at : (es : List (List ℕ × X)) (k : List ℕ) (v : X) (at : ℕ) → HasAscendingKeys es → IsAt es k at → put byte_order k v es ≡ set es at (k, v)
  put_at [] k v at h is = absurd (omega (arith, is.within))
  put_at (e ∷ es) k v zero h is =
      let back : byte_order k e.0 ≡ Equal = turned e.0 k Equal (is.same e) in
      ap (λ r. by_order r ((k, v) ∷ e ∷ es) ((e.0, v) ∷ es) (e ∷ put byte_order k v es)) back ∙ ap (λ q. (q, v) ∷ es) (same_key e.0 k (is.same e))
  put_at (e ∷ es) k v (suc at) h is =
      let same = same_key _ k (is.same e) in
      let lt : byte_order e.0 k ≡ Less = subst (λ q. byte_order e.0 q ≡ Less) same (below_at e.0 es at e (head_below e es h) (omega (arith, is.within))) in
      ap (λ r. by_order r ((k, v) ∷ e ∷ es) ((e.0, v) ∷ es) (e ∷ put byte_order k v es)) (turned e.0 k Less lt)
      ∙ ap (λ q. e ∷ q) (put_at es k v at (tail_ascends e es h) (record { within = omega (arith, is.within); same = λ d. is.same d }))

  gap_tail : (e : List ℕ × X) (es : List (List ℕ × X)) (k : List ℕ) (at : ℕ) → IsGap (e ∷ es) k (suc at) → IsGap es k at
  gap_tail e es k at gap = record {
    within = omega (arith, gap.within);
    before = λ i d low high. gap.before (suc i) d (omega arith) (omega arith);
    from = λ i d low high. gap.from (suc i) d (omega arith) (omega arith);
  }

  -- a put in a gap
  pub put_gap : (es : List (List ℕ × X)) (k : List ℕ) (v : X) (at : ℕ) → IsGap es k at → put byte_order k v es ≡ insert es at (k, v)
  put_gap [] k v zero gap = refl
  put_gap [] k v (suc at) gap = absurd (omega (arith, gap.within))
  put_gap (e ∷ es) k v zero gap =
      ap (λ r. by_order r ((k, v) ∷ e ∷ es) ((e.0, v) ∷ es) (e ∷ put byte_order k v es)) (turned e.0 k Greater (gap.from 0 e (omega arith) (omega arith)))
  put_gap (e ∷ es) k v (suc at) gap =
      ap (λ r. by_order r ((k, v) ∷ e ∷ es) ((e.0, v) ∷ es) (e ∷ put byte_order k v es)) (turned e.0 k Less (gap.before 0 e (omega arith) (omega arith)))
      ∙ ap (λ q. e ∷ q) (put_gap es k v at (gap_tail e es k at gap))

  -- what is found at a place
  pub find_at : (es : List (List ℕ × X)) (k : List ℕ) (at : ℕ) (d : List ℕ × X) → HasAscendingKeys es → IsAt es k at
      → find byte_order k es ≡ Some (get_or es at d).1
  find_at [] k at d h is = absurd (omega (arith, is.within))
  find_at (e ∷ es) k zero d h is = ap (λ r. cond (is_eq r) (Some e.1) (find byte_order k es)) (turned e.0 k Equal (is.same e))
  find_at (e ∷ es) k (suc at) d h is =
      let same = same_key _ k (is.same e) in
      let lt : byte_order e.0 k ≡ Less = subst (λ q. byte_order e.0 q ≡ Less) same (below_at e.0 es at e (head_below e es h) (omega (arith, is.within))) in
      ap (λ r. cond (is_eq r) (Some e.1) (find byte_order k es)) (turned e.0 k Less lt)
      ∙ find_at es k at d (tail_ascends e es h) (record { within = omega (arith, is.within); same = λ d. is.same d })

  -- nothing is found where there is a gap
  pub find_gap : (es : List (List ℕ × X)) (k : List ℕ) (at : ℕ) → IsGap es k at → find byte_order k es ≡ None
  find_gap [] k at gap = refl
  find_gap (e ∷ es) k zero gap =
      ap (λ r. cond (is_eq r) (Some e.1) (find byte_order k es)) (turned e.0 k Greater (gap.from 0 e (omega arith) (omega arith)))
      ∙ find_gap es k zero
      (record { within = omega arith; before = λ i d low high. absurd (omega arith); from = λ i d low high. gap.from (suc i) d (omega arith) (omega arith) })
  find_gap (e ∷ es) k (suc at) gap =
      ap (λ r. cond (is_eq r) (Some e.1) (find byte_order k es)) (turned e.0 k Less (gap.before 0 e (omega arith) (omega arith)))
      ∙ find_gap es k at (gap_tail e es k at gap)

  pub ascends_put : (es : List (List ℕ × X)) (k : List ℕ) (v : X) → HasAscendingKeys es → HasAscendingKeys (put byte_order k v es)
  ascends_put es k v h = is_sorted-put byte_order nat_list_cmp_total k v es h

  -- a put in the list is an insert in the map
  pub map_put : (es : List (List ℕ × X)) (k : List ℕ) (v : X) → HasAscendingKeys es
      → from_sorted {R = byte_order} (put byte_order k v es) ≡ map_insert (from_sorted es) k v
  map_put es k v h =
      same_entries_map _ _ (
      entries-from_sorted byte_order _ (ascends_put es k v h)
      ∙ sym (entries-insert nat_list_cmp_total (from_sorted es) k v ∙ ap (put byte_order k v) (entries-from_sorted byte_order es h)))

  pub map_len : (es : List (List ℕ × X)) → HasAscendingKeys es → length es ≡ len (from_sorted {R = byte_order} es)
  map_len es h = sym (len-entries (from_sorted es) ∙ ap length (entries-from_sorted byte_order es h))

  nothing : (es : List (List ℕ × X)) → length es ≡ 0 → es ≡ []
  nothing [] e = refl
  nothing (x ∷ es) e = absurd (omega arith)

  pub map_none : from_sorted {K = List ℕ} {X = X} {R = byte_order} [] ≡ empty
  map_none = same_entries_map _ _ (entries-from_sorted byte_order [] tt ∙ sym (nothing _ (sym (len-entries empty) ∙ len-empty byte_order X)))

  pub ascends_drop : (i : ℕ) (es : List (List ℕ × X)) → HasAscendingKeys es → HasAscendingKeys (drop i es)
  ascends_drop zero es h = h
  ascends_drop (suc i) [] h = h
  ascends_drop (suc i) (e ∷ es) h = ascends_drop i es (tail_ascends e es h)

  -- a map is that of its own list
  pub same_again : (m : ByteMap X) → from_sorted {R = byte_order} (entries m) ≡ m
  same_again m = same_entries_map _ _ (entries-from_sorted byte_order (entries m) (entries_sorted m))

-- a key below another is below all that this one is below
pub less_more : {X : Type 0} (a p : List ℕ) (es : List (List ℕ × X)) → byte_order a p ≡ Less → T (below_all byte_order p es) → T (below_all byte_order a es)
less_more a p [] lt h = tt
less_more a p (e ∷ es) lt h =
    both _ _ (subst (λ r. T (is_lt r)) (sym (nat_list_cmp_total.trans a p e.0 lt (less _ (first _ _ h)))) tt) (less_more a p es lt (second _ _ h))

pub find_none : {X : Type 0} (q : List ℕ) (es : List (List ℕ × X)) → T (below_all byte_order q es) → find byte_order q es ≡ None
find_none q [] h = refl
find_none q (e ∷ es) h = ap (λ r. cond (is_eq r) (Some e.1) (find byte_order q es)) (less _ (first _ _ h)) ∙ find_none q es (second _ _ h)

pub tied : (o : Ordering) → is_eq o ≡ true → o ≡ Equal
tied Less e = cc
tied Equal e = refl
tied Greater e = cc

-- ---- the two ways to say that keys ascend
module _ {X : Type 0} where
  abbrev keys : List (List ℕ × X) → List (List ℕ)
  keys es = map (λ e. e.0) es

  below_from : (k : List ℕ) (es : List (List ℕ × X)) → AllByRecursion (λ y. byte_order k y ≡ Less) (keys es) → T (below_all byte_order k es)
  below_from k [] h = tt
  below_from k (e ∷ es) h = both _ _ (subst (λ r. T (is_lt r)) (sym h.0) tt) (below_from k es h.1)

  below_to : (k : List ℕ) (es : List (List ℕ × X)) → T (below_all byte_order k es) → AllByRecursion (λ y. byte_order k y ≡ Less) (keys es)
  below_to k [] h = tt
  below_to k (e ∷ es) h = (less _ (first _ _ h), below_to k es (second _ _ h))

  pub ascend_from : (es : List (List ℕ × X)) → IsStrictlySortedBy byte_order (keys es) → HasAscendingKeys es
  unfolding IsStrictlySortedBy
  ascend_from [] h = tt
  ascend_from (e ∷ es) h = both _ _ (below_from e.0 es h.0) (ascend_from es h.1)

  pub ascend_to : (es : List (List ℕ × X)) → HasAscendingKeys es → IsStrictlySortedBy byte_order (keys es)
  unfolding IsStrictlySortedBy
  ascend_to [] h = tt
  ascend_to (e ∷ es) h = (below_to e.0 es (first _ _ h), ascend_to es (second _ _ h))

-- ---- a walk over neighbours
module _ {K X : Type 0} {R : K → K → Ordering} (o : IsTotalOrder R) where
  lower_still : (a b : K) (es : List (K × X)) → R a b ≡ Less → T (below_all R b es) → T (below_all R a es)
  lower_still a b [] lt h = tt
  lower_still a b (e ∷ es) lt h =
      both _ _ (subst (λ r. T (is_lt r)) (sym (o.trans a b e.0 lt (less _ (first _ _ h)))) tt) (lower_still a b es lt (second _ _ h))

  -- keys ascend where the first is below the second and the rest ascend
  neighbours : (x y : K × X) (es : List (K × X)) → (T (is_lt (R x.0 y.0)) → T (is_sorted R (y ∷ es)) → T (is_sorted R (x ∷ y ∷ es)))
      × (T (is_sorted R (x ∷ y ∷ es)) → T (is_lt (R x.0 y.0)) × T (is_sorted R (y ∷ es)))
  neighbours x y es = (
    λ lt h. both _ _ (both _ _ lt (lower_still x.0 y.0 es (less _ lt) (first _ _ h))) h,
    λ h. (first _ _ (first _ _ h), second _ _ h),
  )

  two_at : (items : List (K × X)) (at : ℕ) (x y : K × X) → 1 ≤ at → at < length items → x ≡ get_or items (at - 1) x → y ≡ get_or items at y
      → (drop (at - 1) items ≡ x ∷ y ∷ drop (at + 1) items) × (drop at items ≡ y ∷ drop (at + 1) items)
  two_at items at x y some lt is other =
      let next : drop at items ≡ y ∷ drop (at + 1) items = rw add-one (drop-cons items at y lt ∙ ap (λ z. z ∷ drop (suc at) items) (sym other)) in
      let here : drop (at - 1) items ≡ x ∷ drop (suc (at - 1)) items =
      drop-cons items (at - 1) x (omega arith) ∙ ap (λ z. z ∷ drop (suc (at - 1)) items) (sym is) in
      let same : suc (at - 1) ≡ at = omega arith in
      (here ∙ ap (λ n. x ∷ drop n items) same ∙ ap (λ l. x ∷ l) next, next)

  -- from here on the keys ascend just where all do
  pub record TellsAll (items rest : List (K × X)) : Type 0 where
    pub all : T (is_sorted R rest) → T (is_sorted R items)
    pub rest_too : T (is_sorted R items) → T (is_sorted R rest)

  -- how the keys at two places compare
  pub compared : (items : List (K × X)) (at : ℕ) (x y : K × X) (r : Ordering) → x ≡ get_or items (at - 1) x → y ≡ get_or items at y
      → r ≡ R (get_or items (at - 1) x).0 (get_or items at y).0 → r ≡ R x.0 y.0
  compared items at x y r is other e = e ∙ (λ i. R (sym is i).0 (sym other i).0)

  pub next_tells : (items : List (K × X)) (at : ℕ) (x y : K × X) → 1 ≤ at → at < length items → x ≡ get_or items (at - 1) x → y ≡ get_or items at y
      → T (is_lt (R x.0 y.0)) → TellsAll items (drop (at - 1) items) → TellsAll items (drop at items)
  next_tells items at x y some lt is other below tells =
      let two = two_at items at x y some lt is other in
      let tests = neighbours x y (drop (at + 1) items) in
      record {
        all = λ h. tells.all (subst (λ l. T (is_sorted R l)) (sym two.0) (tests.0 below (subst (λ l. T (is_sorted R l)) two.1 h)));
        rest_too = λ h. subst (λ l. T (is_sorted R l)) (sym two.1) (tests.1 (subst (λ l. T (is_sorted R l)) two.0 (tells.rest_too h))).1;
      }

  pub stray_tells : (items : List (K × X)) (at : ℕ) (x y : K × X) → 1 ≤ at → at < length items → x ≡ get_or items (at - 1) x → y ≡ get_or items at y
      → (T (is_lt (R x.0 y.0)) → ⊥) → TellsAll items (drop (at - 1) items) → T (is_sorted R items) → ⊥
  stray_tells items at x y some lt is other above tells h =
      let two = two_at items at x y some lt is other in
      above ((neighbours x y (drop (at + 1) items)).1 (subst (λ l. T (is_sorted R l)) two.0 (tells.rest_too h))).0

  last_sorted : (rest : List (K × X)) → length rest ≤ 1 → T (is_sorted R rest)
  last_sorted [] h = tt
  last_sorted (x ∷ []) h = tt
  last_sorted (x ∷ y ∷ rest) h = absurd (omega arith)

  pub end_tells : (items : List (K × X)) (at : ℕ) → length items ≤ at + 1 → TellsAll items (drop at items) → T (is_sorted R items)
  end_tells items at h tells = tells.all (last_sorted (drop at items) (omega (arith, length-drop at items)))

-- a test of each key holds of a list with another value at a key of which it holds
pub all_put : {X : Type 0} (P : List ℕ → Type 0) (k : List ℕ) (v : X) (es : List (List ℕ × X)) → P k → AllByRecursion (λ row. P row.0) es
    → AllByRecursion (λ row. P row.0) (put byte_order k v es)
all_put P k v [] one all = (one, tt)
all_put P k v (e ∷ es) one all =
    elim (byte_order k e.0) as (λ r. AllByRecursion (λ row. P row.0) (by_order r ((k, v) ∷ e ∷ es) ((e.0, v) ∷ es) (e ∷ put byte_order k v es))) [
      | Less ↦ (one, all)
      | Equal ↦ all
      | Greater ↦ (all.0, all_put P k v es one all.1)
    ]

-- and of what a filter leaves
pub all_where : {X : Type 0} (P : List ℕ → Type 0) (p : List ℕ → Bool) (es : List (List ℕ × X)) → AllByRecursion (λ row. P row.0) es
    → AllByRecursion (λ row. P row.0) (where_key byte_order p es)
all_where P p [] all = tt
all_where P p (e ∷ es) all =
    elim (p e.0) as (λ b. AllByRecursion (λ row. P row.0) (cond b (e ∷ where_key byte_order p es) (where_key byte_order p es))) [
      | true ↦ (all.0, all_where P p es all.1)
      | false ↦ all_where P p es all.1
    ]
