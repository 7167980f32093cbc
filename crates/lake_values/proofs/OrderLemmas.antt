-- Lists that strictly ascend, the keys of finite maps, and what stands in lists that are filtered or searched.
use Rattle.std.proofs.Common.{◌≡◌, zero, suc, ◌⊎◌, inl, inr, T, Bool, true, false, cond, List, [], ◌∷◌, map, Some, None, refl, sym, ap, subst, ◌∙◌, arith}
use Rattle.std.specs.Cmp.{IsTotalOrder}
use Rattle.std.specs.Ordering.{is_eq, is_lt, ordering_reverse}
use Rattle.std.specs.declared.cmp.Ordering.{Ordering}
use Rattle.std.specs.declared.cmp.Ordering.TheVariants.{Less, Equal, Greater}
use Rattle.std.specs.List.{Contains, AllByRecursion, filter, find, list_any}
use Rattle.std.specs.List.Sorted.{IsStrictlySortedBy}
use Rattle.std.specs.Option.{IsSome}
use Rattle.std.specs.FinMap.{FinMap, IsAntisymmetric, get, keys, entries, entries_sorted, contains_key-keys, is_sorted}
use Rattle.std.specs.FinMap.Entries.{below_all}
use Rattle.std.proofs.lemmas.Cmp.{tied_itself, eq_by_cmp_equiv}
use Rattle.std.proofs.lemmas.List.Elements.{All-contains, All-filter, All-contains_itself, filter_passes}
use Rattle.std.proofs.lemmas.List.Folds.{Any-from_list_any, list_any-from_Any}
use Rattle.std.proofs.lemmas.Map.Keys.{sorted_head, sorted_tail}
use Rattle.std.proofs.lemmas.Map.Views.{Contains-from_any, list_any-from_Contains}
use Rattle.lake_base.proofs.MapsLemmas.{first, second, less}

-- ---- what stands in a list

pub Contains-first : {X : Type 0} (x : X) (xs : List X) → Contains (x ∷ xs) x
Contains-first x xs = (0, omega arith, refl)

pub Contains-later : {X : Type 0} (y x : X) (xs : List X) → Contains xs x → Contains (y ∷ xs) x
Contains-later y x xs (k, lt, e) = (suc k, omega arith, e)

pub Contains-nothing : {X : Type 0} (x : X) → Contains [] x → ⊥
Contains-nothing x (k, lt, e) = absurd (omega arith)

-- it is the first, or stands in the rest
pub first_or_later : {X : Type 0} (y x : X) (xs : List X) → Contains (y ∷ xs) x → (y ≡ x) ⊎ Contains xs x
first_or_later y x xs (zero, lt, e) = inl e
first_or_later y x xs (suc k, lt, e) = inr (k, omega arith, e)

-- what holds of each holds of one that stands there
pub each_holds : {X : Type 0} (P : X → Type 0) (xs : List X) (x : X) → AllByRecursion P xs → Contains xs x → P x
each_holds P [] x all (k, lt, e) = absurd (omega arith)
each_holds P (y ∷ ys) x all (zero, lt, e) = subst P e all.0
each_holds P (y ∷ ys) x all (suc k, lt, e) = each_holds P ys x all.1 (k, omega arith, e)

pub Contains-map : {X Y : Type 0} (f : X → Y) (xs : List X) (x : X) → Contains xs x → Contains (map f xs) (f x)
Contains-map f [] x (k, lt, e) = absurd (omega arith)
Contains-map f (y ∷ ys) x (zero, lt, e) = subst (λ z. Contains (map f (y ∷ ys)) z) (ap f e) (Contains-first (f y) (map f ys))
Contains-map f (y ∷ ys) x (suc k, lt, e) = Contains-later (f y) (f x) (map f ys) (Contains-map f ys x (k, omega arith, e))

-- what stands in the image of a list is the image of one
pub Contains-from_map : {X Y : Type 0} (f : X → Y) (xs : List X) (y : Y) → Contains (map f xs) y → (x : X) × Contains xs x × (f x ≡ y)
Contains-from_map f [] y (k, lt, e) = absurd (omega arith)
Contains-from_map f (x ∷ xs) y (zero, lt, e) = (x, Contains-first x xs, e)
Contains-from_map f (x ∷ xs) y (suc k, lt, e) =
    let rest = Contains-from_map f xs y (k, omega arith, e) in (rest.0, Contains-later x rest.0 xs rest.1, rest.2)

-- ---- filters

passes_first : {X : Type 0} (b : Bool) (y : X) (zs : List X) → b ≡ true → Contains (cond b (y ∷ zs) zs) y
passes_first true y zs t = Contains-first y zs
passes_first false y zs t = cc

passes_later : {X : Type 0} (b : Bool) (y x : X) (zs : List X) → Contains zs x → Contains (cond b (y ∷ zs) zs) x
passes_later true y x zs within = Contains-later y x zs within
passes_later false y x zs within = within

pub Contains-filter : {X : Type 0} (p : X → Bool) (xs : List X) (x : X) → Contains xs x → p x ≡ true → Contains (filter p xs) x
Contains-filter p [] x (k, lt, e) t = absurd (omega arith)
Contains-filter p (y ∷ ys) x (zero, lt, e) t =
    subst (λ z. Contains (filter p (y ∷ ys)) z) e (passes_first (p y) y (filter p ys) (subst (λ z. p z ≡ true) (sym e) t))
Contains-filter p (y ∷ ys) x (suc k, lt, e) t = passes_later (p y) y x (filter p ys) (Contains-filter p ys x (k, omega arith, e) t)

pub Contains-from_filter : {X : Type 0} (p : X → Bool) (xs : List X) (x : X) → Contains (filter p xs) x → Contains xs x × (p x ≡ true)
Contains-from_filter p xs x within = (
  All-contains (Contains xs) (filter p xs) x (All-filter p (Contains xs) xs (All-contains_itself xs)) within,
  All-contains (λ y. p y ≡ true) (filter p xs) x (filter_passes p xs) within,
)

-- one that passes, where a test says that some does, and the other way round
pub any_from : {X : Type 0} (p : X → Bool) (xs : List X) → list_any p xs ≡ true → (x : X) × Contains xs x × (p x ≡ true)
any_from p xs t = let some = Any-from_list_any p xs t in (some.1, (some.0, some.2, some.3), some.4)

pub any_to : {X : Type 0} (p : X → Bool) (xs : List X) (x : X) → Contains xs x → p x ≡ true → list_any p xs ≡ true
any_to p xs x within t = list_any-from_Any p xs (within.0, x, within.1, within.2, t)

-- nothing that stands in the list passes
pub find_none : {X : Type 0} (p : X → Bool) (xs : List X) → find p xs ≡ None → (x : X) → Contains xs x → p x ≡ true → ⊥
find_none p [] e x within t = Contains-nothing x within
find_none p (y ∷ ys) e x within t = by (p y) refl e (λ none later. find_none p ys none x later t)
  where
    by : (b : Bool) → p y ≡ b → cond b (Some y) (find p ys) ≡ None → (find p ys ≡ None → Contains ys x → ⊥) → ⊥
    by true py is rest = cc
    by false py is rest = elim (first_or_later y x ys within) [
      | inl same ↦ let fails : p x ≡ false = subst (λ z. p z ≡ false) same py in cc
      | inr later ↦ rest is later
    ]

-- ---- orders

pub equal_of : (o : Ordering) → is_eq o ≡ true → o ≡ Equal
equal_of Less e = cc
equal_of Equal e = refl
equal_of Greater e = cc

below_keys : {K X : Type 0} (R : K → K → Ordering) (k : K) (es : List (K × X)) → T (below_all R k es) → AllByRecursion (λ y. R k y ≡ Less) (map (λ e. e.0) es)
below_keys R k [] h = tt
below_keys R k (e ∷ es) h = (less _ (first _ _ h), below_keys R k es (second _ _ h))

sorted_keys : {K X : Type 0} (R : K → K → Ordering) (es : List (K × X)) → T (is_sorted R es) → IsStrictlySortedBy R (map (λ e. e.0) es)
unfolding IsStrictlySortedBy
sorted_keys R [] h = tt
sorted_keys R (e ∷ es) h = (below_keys R e.0 es (first _ _ h), sorted_keys R es (second _ _ h))

-- the keys of a map strictly ascend
pub keys_ascend : {K X : Type 0} (R : K → K → Ordering) (m : FinMap R X) → IsStrictlySortedBy R (keys m)
keys_ascend R m = sorted_keys R (entries m) (entries_sorted m)

module _ {K : Type 0} {R : K → K → Ordering} (o : IsTotalOrder R) where
  not_below_itself : (x : K) → R x x ≡ Less → ⊥
  not_below_itself x e = let tie = tied_itself o x in cc

  pub below_later : (x q : K) (xs : List K) → IsStrictlySortedBy R (x ∷ xs) → Contains xs q → R x q ≡ Less
  below_later x q xs ascend within = each_holds (λ y. R x y ≡ Less) xs q (sorted_head R x xs ascend) within

  -- nothing of a list that ascends comes before its first
  pub not_before_first : (x q : K) (xs : List K) → IsStrictlySortedBy R (x ∷ xs) → Contains (x ∷ xs) q → is_lt (R q x) ≡ false
  not_before_first x q xs ascend within = elim (first_or_later x q xs within) [
    | inl same ↦ subst (λ k. is_lt (R k x) ≡ false) same (ap is_lt (tied_itself o x))
    | inr later ↦ ap is_lt (o.antisymm q x ∙ ap ordering_reverse (below_later x q xs ascend later))
  ]

  first_same : (x y : K) (xs ys : List K) → IsStrictlySortedBy R (x ∷ xs) → IsStrictlySortedBy R (y ∷ ys) → Contains (y ∷ ys) x → Contains (x ∷ xs) y → x ≡ y
  first_same x y xs ys s t x_within y_within = elim (first_or_later y x ys x_within) [
    | inl same ↦ sym same
    | inr x_later ↦ elim (first_or_later x y xs y_within) [
      | inl same ↦ same
      | inr y_later ↦ absurd (not_below_itself x (o.trans x y x (below_later x y xs s y_later) (below_later y x ys t x_later)))
    ]
  ]

  rest_has : (x : K) (xs ys : List K) → IsStrictlySortedBy R (x ∷ xs) → ((q : K) → Contains (x ∷ xs) q → Contains (x ∷ ys) q) → (q : K) → Contains xs q
      → Contains ys q
  rest_has x xs ys ascend has q within = elim (first_or_later x q ys (has q (Contains-later x q xs within))) [
    | inl same ↦ absurd (not_below_itself x (subst (λ k. R x k ≡ Less) (sym same) (below_later x q xs ascend within)))
    | inr later ↦ later
  ]

  -- lists that ascend and have the same items are one
  pub same_ascending : (xs ys : List K) → IsStrictlySortedBy R xs → IsStrictlySortedBy R ys → ((q : K) → Contains xs q → Contains ys q)
      → ((q : K) → Contains ys q → Contains xs q) → xs ≡ ys
  same_ascending [] [] s t to from = refl
  same_ascending [] (y ∷ ys) s t to from = absurd (Contains-nothing y (from y (Contains-first y ys)))
  same_ascending (x ∷ xs) [] s t to from = absurd (Contains-nothing x (to x (Contains-first x xs)))
  same_ascending (x ∷ xs) (y ∷ ys) s t to from =
      let same : x ≡ y = first_same x y xs ys s t (to x (Contains-first x xs)) (from y (Contains-first y ys)) in
      ap (λ k. k ∷ xs) same
      ∙ ap (λ l. y ∷ l) (same_ascending xs ys (sorted_tail R x xs s) (sorted_tail R y ys t)
      (rest_has x xs ys s (λ q within. subst (λ k. Contains (k ∷ ys) q) (sym same) (to q within)))
      (rest_has y ys xs t (λ q within. subst (λ k. Contains (k ∷ xs) q) same (from q within))))

  -- what a search of a list that ascends finds: the first that passes
  abbrev pub IsFirstThat : (K → Bool) → List K → K → Type 0
  IsFirstThat p xs c = Contains xs c × (p c ≡ true) × ((other : K) → Contains xs other → p other ≡ true → is_lt (R other c) ≡ false)

  pub find_first : (p : K → Bool) (xs : List K) → IsStrictlySortedBy R xs → (c : K) → find p xs ≡ Some c → IsFirstThat p xs c
  find_first p [] ascend c e = cc
  find_first p (x ∷ xs) ascend c e = by (p x) refl e (λ is. find_first p xs (sorted_tail R x xs ascend) c is)
    where
      by : (b : Bool) → p x ≡ b → cond b (Some x) (find p xs) ≡ Some c → (find p xs ≡ Some c → IsFirstThat p xs c) → IsFirstThat p (x ∷ xs) c
      by true px is rest =
          let same : x ≡ c = cc in
          subst (IsFirstThat p (x ∷ xs)) same (Contains-first x xs, px, λ other within t. not_before_first x other xs ascend within)
      by false px is rest =
          let later = rest is in (
            Contains-later x c xs later.0,
            later.1,
            λ other within t. elim (first_or_later x other xs within) [
              | inl same ↦ let fails : p other ≡ false = subst (λ z. p z ≡ false) same px in cc
              | inr behind ↦ later.2 other behind t
            ],
          )

  module _ (same : IsAntisymmetric R) where
    -- the keys of a map are those that it has something at
    pub there_from_key : {X : Type 0} (m : FinMap R X) (q : K) → Contains (keys m) q → IsSome (get m q)
    there_from_key m q within = contains_key-keys m q ∙ list_any-from_Contains (eq_by_cmp_equiv o) q (keys m) within

    pub key_from_there : {X : Type 0} (m : FinMap R X) (q : K) → IsSome (get m q) → Contains (keys m) q
    key_from_there m q there = Contains-from_any (λ x y t. same x y (equal_of (R x y) t)) q (keys m) (sym (contains_key-keys m q) ∙ there)

    -- of two that don't come before each other, each is the other
    pub same_place : (x y : K) → is_lt (R x y) ≡ false → is_lt (R y x) ≡ false → x ≡ y
    same_place x y p q = by (R x y) refl
      where
        by : (r : Ordering) → R x y ≡ r → x ≡ y
        by Less e = absurd (not_less (sym (ap is_lt e) ∙ p))
          where
            not_less : true ≡ false → ⊥
            not_less t = cc
        by Equal e = same x y e
        by Greater e = absurd (not_less (sym (ap is_lt (o.antisymm y x ∙ ap ordering_reverse e)) ∙ q))
          where
            not_less : true ≡ false → ⊥
            not_less t = cc
