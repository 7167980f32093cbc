-- What is listed: the item of each key under the prefix, in ascending order of name.
use Rattle.std.proofs.Common.{◌≡◌, ℕ, zero, suc, ◌↔◌, ◌⊎◌, inl, inr, T, Bool, true, false, cond, List, [], ◌∷◌, map, Option, Some, None, nat_eq, refl, sym, ap}
use Rattle.std.proofs.Common.{subst, ◌∙◌, arith}
use Rattle.std.proofs.lemmas.List.{append-nil}
use Rattle.std.specs.List.{starts_with, AllByRecursion, Contains}
use Rattle.std.specs.List.Sorted.{IsStrictlySortedBy}
use Rattle.std.specs.Ordering.{is_eq, is_lt, eq_by_cmp}
use Rattle.std.specs.declared.cmp.Ordering.{Ordering}
use Rattle.std.specs.declared.cmp.Ordering.TheVariants.{Less, Equal, Greater}
use Rattle.std.proofs.lemmas.Cmp.{nat_list_cmp_total, tied_itself}
use Rattle.std.specs.FinMap.{find, entries, entries_sorted, get-entries}
use Rattle.std.specs.FinMap.Entries.{below_all, find-put}
use Rattle.lake_values.specs.Entry.{EntryValue}
use Rattle.lake_values.specs.KeyMap.{KeyMapValue}
use Rattle.lake_base.specs.Maps.{byte_order, HasAscendingKeys, IsAscending}
use Rattle.lake_pages.specs.Listing.{common_prefix, item_from, item_of, item_name, item_map, items_after, items_of, items_above, IsItem}
use Rattle.lake_pages.specs.declared.listing.Item.{Item}
use Rattle.lake_pages.specs.declared.listing.Item.TheVariants as item
use Rattle.lake_pages.specs.declared.listing.PageQuery.{PageQuery}
use Rattle.lake_base.proofs.MapsLemmas.{first, second, less, same_key, head_below, tail_ascends}
use Rattle.lake_pages.proofs.ListingPrefixLemmas.{common_is}
use Rattle.lake_pages.proofs.ListingStepLemmas.{none_listed, items, items_under, items_not}
use Rattle.lake_values.proofs.CursorLemmas.{lt_is}
use Rattle.lake_pages.proofs.ListingPageLemmas.{Items, Named, named}

-- ---- what is found in lists whose keys ascend

pub tied : (o : Ordering) → is_eq o ≡ true → o ≡ Equal
tied Less e = cc
tied Equal e = refl
tied Greater e = cc

module _ {X : Type 0} where
  none_below : (q : List ℕ) (es : List (List ℕ × X)) → T (below_all byte_order q es) → find byte_order q es ≡ None
  none_below q [] h = refl
  none_below q (e ∷ es) h = ap (λ r. cond (is_eq r) (Some e.1) (find byte_order q es)) (less _ (first _ _ h)) ∙ none_below q es (second _ _ h)

  found_first : (q : List ℕ) (e : List ℕ × X) (es : List (List ℕ × X)) → q ≡ e.0 → find byte_order q (e ∷ es) ≡ Some e.1
  found_first q e es is = ap (λ o. cond (is_eq o) (Some e.1) (find byte_order q es)) (ap (byte_order q) (sym is) ∙ tied_itself nat_list_cmp_total q)

  found_later : (q : List ℕ) (e : List ℕ × X) (es : List (List ℕ × X)) (v : X) → HasAscendingKeys (e ∷ es) → find byte_order q es ≡ Some v
      → find byte_order q (e ∷ es) ≡ Some v
  found_later q e es v h is = by (eq_by_cmp byte_order q e.0) refl
    where
      by : (b : Bool) → eq_by_cmp byte_order q e.0 ≡ b → cond b (Some e.1) (find byte_order q es) ≡ Some v
      by false t = is
      by true t =
          let none : find byte_order q es ≡ None =
          none_below q es (subst (λ k. T (below_all byte_order k es)) (sym (same_key q e.0 (tied _ t))) (head_below e es h)) in
          absurd (cc (sym none ∙ is))

-- an item of a list is found at its name
found_item : (s : Items) (i : Item) → HasAscendingKeys s → Named s → Contains (map (λ x. x.1) s) i → find byte_order (item_name i) s ≡ Some i
found_item [] i h n (k, lt, is) = absurd (omega arith)
found_item (x ∷ s) i h n (zero, lt, is) =
    let same : x.1 ≡ i = is in
    found_first (item_name i) x s (ap item_name (sym same) ∙ sym n.0) ∙ ap Some same
found_item (x ∷ s) i h n (suc k, lt, is) = found_later (item_name i) x s i h (found_item s i (tail_ascends x s h) n.1 (k, omega arith, is))

item_found : (q : List ℕ) (s : Items) (i : Item) → find byte_order q s ≡ Some i → Contains (map (λ x. x.1) s) i
item_found q [] i is = absurd cc
item_found q (x ∷ s) i is = by (eq_by_cmp byte_order q x.0) is (item_found q s i)
  where
    some_is : (x y : Item) → Some x ≡ Some y → x ≡ y
    some_is x y e = cc

    by : (b : Bool) → cond b (Some x.1) (find byte_order q s) ≡ Some i → (find byte_order q s ≡ Some i → Contains (map (λ x. x.1) s) i)
        → Contains (map (λ x. x.1) (x ∷ s)) i
    by true e rest = (0, omega arith, some_is x.1 i e)
    by false e rest = let r = rest e in (suc r.0, omega arith, r.2)

-- ---- items and keys

-- a key under the prefix whose item this is
record ReadsAs (prefix delimiter : List ℕ) (es : List (List ℕ × EntryValue)) (i : Item) : Type 0 where
  pub key : List ℕ
  pub entry : EntryValue
  pub stands : find byte_order key es ≡ Some entry
  pub begins : starts_with nat_eq key prefix ≡ true
  pub is : i ≡ item_of prefix delimiter key entry

module _ (prefix delimiter : List ℕ) where
  given_later : (e : List ℕ × EntryValue) (es : List (List ℕ × EntryValue)) (i : Item) → HasAscendingKeys (e ∷ es) → ReadsAs prefix delimiter es i
      → ReadsAs prefix delimiter (e ∷ es) i
  given_later e es i h g = record { key = g.key; entry = g.entry; stands = found_later g.key e es g.entry h g.stands; begins = g.begins; is = g.is }

  -- what is found was given by a key
  given : (es : List (List ℕ × EntryValue)) (q : List ℕ) (i : Item) → HasAscendingKeys es → find byte_order q (items prefix delimiter es) ≡ Some i
      → ReadsAs prefix delimiter es i
  given [] q i h is = absurd (cc (sym (ap (find byte_order q) none_listed) ∙ is))
  given (e ∷ es) q i h is = by (starts_with nat_eq e.0 prefix) refl (given es q i (tail_ascends e es h))
    where
      some_is : (x y : Item) → Some x ≡ Some y → x ≡ y
      some_is x y e = cc

      one : starts_with nat_eq e.0 prefix ≡ true → (find byte_order q (items prefix delimiter es) ≡ Some i → ReadsAs prefix delimiter es i) → (b : Bool)
          → cond b (Some (item_of prefix delimiter e.0 e.1)) (find byte_order q (items prefix delimiter es)) ≡ Some i → ReadsAs prefix delimiter (e ∷ es) i
      one u rest true f = record { key = e.0; entry = e.1; stands = found_first e.0 e es refl; begins = u; is = sym (some_is _ i f) }
      one u rest false f = given_later e es i h (rest f)

      by : (b : Bool) → starts_with nat_eq e.0 prefix ≡ b → (find byte_order q (items prefix delimiter es) ≡ Some i → ReadsAs prefix delimiter es i)
          → ReadsAs prefix delimiter (e ∷ es) i
      by true u rest =
          one u rest (eq_by_cmp byte_order q (item_name (item_of prefix delimiter e.0 e.1)))
          (sym (ap (find byte_order q) (items_under prefix delimiter e es u) ∙ find-put byte_order nat_list_cmp_total q
          (item_name (item_of prefix delimiter e.0 e.1)) (item_of prefix delimiter e.0 e.1) (items prefix delimiter es)) ∙ is)
      by false u rest = given_later e es i h (rest (sym (ap (find byte_order q) (items_not prefix delimiter e es u)) ∙ is))

  -- a key that is the common prefix of another has it too
  has_it : (key text other : List ℕ) → starts_with nat_eq other prefix ≡ true → common_prefix prefix delimiter other ≡ Some text → key ≡ text
      → common_prefix prefix delimiter key ≡ Some text
  has_it key text other u e same = ap (common_prefix prefix delimiter) (same ∙ sym (append-nil text)) ∙ (common_is prefix delimiter other text u e).again []

  -- keys with items of one name have one item
  one_item : (a b : List ℕ) (x y : EntryValue) → starts_with nat_eq a prefix ≡ true → starts_with nat_eq b prefix ≡ true → (a ≡ b → ⊥)
      → item_name (item_of prefix delimiter a x) ≡ item_name (item_of prefix delimiter b y) → item_of prefix delimiter a x ≡ item_of prefix delimiter b y
  one_item a b x y ua ub apart = by (common_prefix prefix delimiter a) (common_prefix prefix delimiter b) refl refl
    where
      by : (o r : Option (List ℕ)) → common_prefix prefix delimiter a ≡ o → common_prefix prefix delimiter b ≡ r
          → item_name (item_from o a x) ≡ item_name (item_from r b y) → item_from o a x ≡ item_from r b y
      by None None p q same = absurd (apart same)
      by None (Some text) p q same = absurd (cc (sym p ∙ has_it a text b ub q same))
      by (Some text) None p q same = absurd (cc (sym q ∙ has_it b text a ua p (sym same)))
      by (Some text) (Some other) p q same = ap item.Prefix same

  -- the item of a key is found
  gives : (es : List (List ℕ × EntryValue)) (key : List ℕ) (entry : EntryValue) → HasAscendingKeys es → find byte_order key es ≡ Some entry
      → starts_with nat_eq key prefix ≡ true
      → find byte_order (item_name (item_of prefix delimiter key entry)) (items prefix delimiter es) ≡ Some (item_of prefix delimiter key entry)
  gives [] key entry h is u = absurd cc
  gives (e ∷ es) key entry h is u = by (eq_by_cmp byte_order key e.0) refl is (λ f. gives es key entry (tail_ascends e es h) f u)
    where
      some_is : (x y : EntryValue) → Some x ≡ Some y → x ≡ y
      some_is x y e = cc

      put_is : starts_with nat_eq e.0 prefix ≡ true → find byte_order (item_name (item_of prefix delimiter key entry)) (items prefix delimiter (e ∷ es))
          ≡ cond (eq_by_cmp byte_order (item_name (item_of prefix delimiter key entry)) (item_name (item_of prefix delimiter e.0 e.1)))
          (Some (item_of prefix delimiter e.0 e.1)) (find byte_order (item_name (item_of prefix delimiter key entry)) (items prefix delimiter es))
      put_is v = ap (find byte_order (item_name (item_of prefix delimiter key entry))) (items_under prefix delimiter e es v)
          ∙ find-put byte_order nat_list_cmp_total (item_name (item_of prefix delimiter key entry)) (item_name (item_of prefix delimiter e.0 e.1))
          (item_of prefix delimiter e.0 e.1) (items prefix delimiter es)

      late : find byte_order key es ≡ Some entry → key ≡ e.0 → ⊥
      late f same =
          let none : find byte_order key es ≡ None = none_below key es (subst (λ k. T (below_all byte_order k es)) (sym same) (head_below e es h)) in
          cc (sym none ∙ f)

      also : find byte_order key es ≡ Some entry → starts_with nat_eq e.0 prefix ≡ true
          → find byte_order (item_name (item_of prefix delimiter key entry)) (items prefix delimiter es) ≡ Some (item_of prefix delimiter key entry)
          → (b : Bool) → eq_by_cmp byte_order (item_name (item_of prefix delimiter key entry)) (item_name (item_of prefix delimiter e.0 e.1)) ≡ b
          → cond b (Some (item_of prefix delimiter e.0 e.1)) (find byte_order (item_name (item_of prefix delimiter key entry)) (items prefix delimiter es))
          ≡ Some (item_of prefix delimiter key entry)
      also f v rest true t = ap Some (sym (one_item key e.0 entry e.1 u v (late f) (same_key _ _ (tied _ t))))
      also f v rest false t = rest

      later : find byte_order key es ≡ Some entry → find byte_order (item_name (item_of prefix delimiter key entry)) (items prefix delimiter es)
          ≡ Some (item_of prefix delimiter key entry) → (b : Bool) → starts_with nat_eq e.0 prefix ≡ b
          → find byte_order (item_name (item_of prefix delimiter key entry)) (items prefix delimiter (e ∷ es)) ≡ Some (item_of prefix delimiter key entry)
      later f rest true v = put_is v ∙ also f v rest _ refl
      later f rest false v = ap (find byte_order (item_name (item_of prefix delimiter key entry))) (items_not prefix delimiter e es v) ∙ rest

      here : key ≡ e.0 → entry ≡ e.1
          → find byte_order (item_name (item_of prefix delimiter key entry)) (items prefix delimiter (e ∷ es)) ≡ Some (item_of prefix delimiter key entry)
      here same is =
          let v : starts_with nat_eq e.0 prefix ≡ true = ap (λ k. starts_with nat_eq k prefix) (sym same) ∙ u in
          let items_same : item_of prefix delimiter key entry ≡ item_of prefix delimiter e.0 e.1 =
          ap (λ k. item_of prefix delimiter k entry) same ∙ ap (item_of prefix delimiter e.0) is in
          let tie : eq_by_cmp byte_order (item_name (item_of prefix delimiter key entry)) (item_name (item_of prefix delimiter e.0 e.1)) ≡ true =
          ap (λ n. is_eq (byte_order (item_name (item_of prefix delimiter key entry)) n)) (ap item_name (sym items_same))
          ∙ ap is_eq (tied_itself nat_list_cmp_total (item_name (item_of prefix delimiter key entry))) in
          put_is v
          ∙ ap (λ b.
          cond b (Some (item_of prefix delimiter e.0 e.1)) (find byte_order (item_name (item_of prefix delimiter key entry)) (items prefix delimiter es))) tie
          ∙ ap Some (sym items_same)

      by : (b : Bool) → eq_by_cmp byte_order key e.0 ≡ b → cond b (Some e.1) (find byte_order key es) ≡ Some entry
          → (find byte_order key es ≡ Some entry
          → find byte_order (item_name (item_of prefix delimiter key entry)) (items prefix delimiter es) ≡ Some (item_of prefix delimiter key entry))
          → find byte_order (item_name (item_of prefix delimiter key entry)) (items prefix delimiter (e ∷ es)) ≡ Some (item_of prefix delimiter key entry)
      by true t f rest = here (same_key key e.0 (tied _ t)) (sym (some_is e.1 entry f))
      by false t f rest = later f (rest f) _ refl

pub listed_is : (query : PageQuery) (objects : KeyMapValue) (i : Item) → Contains (map (λ i. i.1) (items_of query (entries objects))) i ↔ IsItem query objects i
listed_is query objects i = (
  λ has.
      let s : Items = items query.prefix query.delimiter (entries objects) in
      let g = given query.prefix query.delimiter (entries objects) (item_name i) i (entries_sorted objects)
      (found_item s i (entries_sorted (item_map query.prefix query.delimiter (entries objects))) (named query.prefix query.delimiter (entries objects)) has) in
      record { key = g.key; entry = g.entry; stands = get-entries objects g.key ∙ g.stands; begins = g.begins; is = g.is },
  λ is.
      subst (λ x. Contains (map (λ i. i.1) (items_of query (entries objects))) x) (sym is.is)
      (item_found _ _ _ (gives query.prefix query.delimiter (entries objects) is.key is.entry (entries_sorted objects)
      (sym (get-entries objects is.key) ∙ is.stands) is.begins)),
)

-- ---- the order of the names

names_below : (k after : List ℕ) (s : Items) → T (below_all byte_order k s) → Named s
    → AllByRecursion (λ y. byte_order k y ≡ Less) (map item_name (map (λ i. i.1) (items_after after s)))
names_below k after [] h n = tt
names_below k after (x ∷ s) h n = by (is_lt (byte_order after x.0)) (names_below k after s (second _ _ h) n.1)
  where
    by : (b : Bool) → AllByRecursion (λ y. byte_order k y ≡ Less) (map item_name (map (λ i. i.1) (items_after after s)))
        → AllByRecursion (λ y. byte_order k y ≡ Less) (map item_name (map (λ i. i.1) (cond b (x ∷ items_after after s) (items_after after s))))
    by true rest = (ap (byte_order k) (sym n.0) ∙ less _ (first _ _ h), rest)
    by false rest = rest

names_ascend : (after : List ℕ) (s : Items) → HasAscendingKeys s → Named s → IsAscending (map item_name (map (λ i. i.1) (items_after after s)))
unfolding IsStrictlySortedBy
names_ascend after [] h n = tt
names_ascend after (x ∷ s) h n = by (is_lt (byte_order after x.0)) (names_ascend after s (tail_ascends x s h) n.1)
  where
    by : (b : Bool) → IsAscending (map item_name (map (λ i. i.1) (items_after after s)))
        → IsAscending (map item_name (map (λ i. i.1) (cond b (x ∷ items_after after s) (items_after after s))))
    by true rest = (
      subst (λ k. AllByRecursion (λ y. byte_order k y ≡ Less) (map item_name (map (λ i. i.1) (items_after after s)))) n.0
          (names_below x.0 after s (head_below x s h) n.1),
      rest,
    )
    by false rest = rest

pub has_first : (x : List ℕ × Item) (s : Items) (i : Item) → x.1 ≡ i → Contains (map (λ y. y.1) (x ∷ s)) i
has_first x s i is = (0, omega arith, is)

pub has_later : (x : List ℕ × Item) (s : Items) (i : Item) → Contains (map (λ y. y.1) s) i → Contains (map (λ y. y.1) (x ∷ s)) i
has_later x s i (k, lt, is) = (suc k, omega arith, is)

has_cases : (x : List ℕ × Item) (s : Items) (i : Item) → Contains (map (λ y. y.1) (x ∷ s)) i → (x.1 ≡ i) ⊎ Contains (map (λ y. y.1) s) i
has_cases x s i (zero, lt, is) = inl is
has_cases x s i (suc k, lt, is) = inr (k, omega arith, is)

-- what is above a name is what was there and has a name above it
above_from : (after : List ℕ) (s : Items) (i : Item) → Named s → Contains (map (λ y. y.1) (items_after after s)) i
    → Contains (map (λ y. y.1) s) i × (byte_order after (item_name i) ≡ Less)
above_from after [] i n (k, lt, is) = absurd (omega arith)
above_from after (x ∷ s) i n has = by (is_lt (byte_order after x.0)) refl has (above_from after s i n.1)
  where
    later : Contains (map (λ y. y.1) s) i × (byte_order after (item_name i) ≡ Less)
        → Contains (map (λ y. y.1) (x ∷ s)) i × (byte_order after (item_name i) ≡ Less)
    later r = (has_later x s i r.0, r.1)

    by : (b : Bool) → is_lt (byte_order after x.0) ≡ b → Contains (map (λ y. y.1) (cond b (x ∷ items_after after s) (items_after after s))) i
        → (Contains (map (λ y. y.1) (items_after after s)) i → Contains (map (λ y. y.1) s) i × (byte_order after (item_name i) ≡ Less))
        → Contains (map (λ y. y.1) (x ∷ s)) i × (byte_order after (item_name i) ≡ Less)
    by true f h rest = elim (has_cases x (items_after after s) i h) as (λ _. Contains (map (λ y. y.1) (x ∷ s)) i × (byte_order after (item_name i) ≡ Less)) [
      | inl is ↦ (has_first x s i is, ap (byte_order after) (sym (n.0 ∙ ap item_name is)) ∙ lt_is _ f)
      | inr l ↦ later (rest l)
    ]
    by false f h rest = later (rest h)

above_to : (after : List ℕ) (s : Items) (i : Item) → Named s → byte_order after (item_name i) ≡ Less → Contains (map (λ y. y.1) s) i
    → Contains (map (λ y. y.1) (items_after after s)) i
above_to after [] i n lt has = has
above_to after (x ∷ s) i n lt has = elim (has_cases x s i has) as (λ _. Contains (map (λ y. y.1) (items_after after (x ∷ s))) i) [
  | inl is ↦ first_of_them is
  | inr l ↦ by (is_lt (byte_order after x.0)) (above_to after s i n.1 lt l)
]
  where
    first_of_them : x.1 ≡ i → Contains (map (λ y. y.1) (items_after after (x ∷ s))) i
    first_of_them is =
        let f : is_lt (byte_order after x.0) ≡ true = ap (λ k. is_lt (byte_order after k)) (n.0 ∙ ap item_name is) ∙ ap is_lt lt in
        subst (λ b. Contains (map (λ y. y.1) (cond b (x ∷ items_after after s) (items_after after s))) i) (sym f) (has_first x (items_after after s) i is)

    by : (b : Bool) → Contains (map (λ y. y.1) (items_after after s)) i → Contains (map (λ y. y.1) (cond b (x ∷ items_after after s) (items_after after s))) i
    by true h = has_later x (items_after after s) i h
    by false h = h

pub items_ascend : (query : PageQuery) (objects : KeyMapValue) → IsAscending (map item_name (items_above query objects))
items_ascend query objects =
    names_ascend query.after _ (entries_sorted (item_map query.prefix query.delimiter (entries objects))) (named query.prefix query.delimiter (entries objects))

pub above_is : (query : PageQuery) (objects : KeyMapValue) (i : Item)
    → Contains (items_above query objects) i ↔ (IsItem query objects i × (byte_order query.after (item_name i) ≡ Less))
above_is query objects i = (
  λ has. let r = above_from query.after (items_of query (entries objects)) i (named query.prefix query.delimiter (entries objects)) has in
      ((listed_is query objects i).0 r.0, r.1),
  λ is. above_to query.after (items_of query (entries objects)) i (named query.prefix query.delimiter (entries objects)) is.1
      ((listed_is query objects i).1 is.0),
)
