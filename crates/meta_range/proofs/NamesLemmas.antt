-- Tables that tell where names stand first, and ranges that match those of their names.
use Rattle.std.proofs.Common.{◌≡◌, ℕ, suc, ◌+◌, ◌<◌, ◌≤◌, Bool, true, false, cond, eqb, ltb, ◌&&◌, List, [], ◌∷◌, ◌++◌, length, get_or, take, drop, Option}
use Rattle.std.proofs.Common.{Some, None, refl, sym, ap, subst, ◌∙◌, inl, inr, add-one, drop-cons, arith, Bor}
use Rattle.std.specs.Bool.{OnTrue, Decides}
use Rattle.std.specs.List.{slice_get, find, position, position_from, position_or_len, list_all}
use Rattle.std.specs.Option.{option_and_then, option_copied, option_map_or, option_or, is_some}
use Rattle.std.specs.Ordering.{eq_by_cmp, is_eq}
use Rattle.std.specs.Slice.{IsGetResult}
use Rattle.std.specs.Str.{bytes_eq}
use Rattle.std.proofs.lemmas.Bool.{cases_Bool, eqb-true, ltb-false}
use Rattle.std.proofs.lemmas.Iterator.Adapters.{position_from-zero}
use Rattle.std.proofs.lemmas.List.{drop_all, length-take, take_more}
use Rattle.std.proofs.lemmas.List.Folds.{find_at}
use Rattle.std.proofs.lemmas.Map.Text.{is_eq-slice_cmp}
use Rattle.std.proofs.lemmas.Option.{slice_get-get_or, slice_get_past}
use Rattle.std.proofs.lemmas.Slice.Eq.{bytes_eq-Decides, slice_eq-Decides}
use Rattle.lake_base.specs.declared.digest.Digest.{Digest}
use Rattle.lake_values.specs.Ancestry.{id_order, same_id}
use Rattle.lake_values.specs.Sameness.{same_row, same_entry}
use Rattle.lake_values.proofs.SamenessLemmas.{same_entry_decides}
use Rattle.range_file.specs.Rows.{RowValue}
use Rattle.meta_range.specs.RangeNames.{place_in, first_named, TellsFirst, PutsFirst, range_name, same_rows, is_matched}

-- ---- places

-- the first place in a list with one item more
from_more : {X : Type 0} (p : X → Bool) (i : ℕ) (xs : List X) (x : X) (n : ℕ) → i + length xs ≡ n
    → position_from p i (xs ++ x ∷ []) ≡ option_or (position_from p i xs) (cond (p x) (Some n) None)
from_more p i [] x n e =
    let same : i ≡ n = omega arith in
    ap (λ k. cond (p x) (Some k) None) same
from_more p i (y ∷ xs) x n e = by (p y) (from_more p (i + 1) xs x n (omega arith))
  where
    by : (b : Bool) → position_from p (i + 1) (xs ++ x ∷ []) ≡ option_or (position_from p (i + 1) xs) (cond (p x) (Some n) None)
        → cond b (Some i) (position_from p (i + 1) (xs ++ x ∷ [])) ≡ option_or (cond b (Some i) (position_from p (i + 1) xs)) (cond (p x) (Some n) None)
    by true so = refl
    by false so = so

place_more : {X : Type 0} (p : X → Bool) (xs : List X) (x : X) (n : ℕ) → length xs ≡ n
    → position p (xs ++ x ∷ []) ≡ option_or (position p xs) (cond (p x) (Some n) None)
place_more p xs x n long =
    position_from-zero p (xs ++ x ∷ []) ∙ from_more p 0 xs x n (omega arith) ∙ ap (λ o. option_or o (cond (p x) (Some n) None)) (sym (position_from-zero p xs))

-- what is found stands at the first place
pub found_at : {X : Type 0} (p : X → Bool) (xs : List X) → find p xs ≡ option_and_then (slice_get xs) (position p xs)
found_at p xs = by (ltb (position_or_len p xs) (length xs)) refl
  where
    by : (b : Bool) → ltb (position_or_len p xs) (length xs) ≡ b → find p xs ≡ option_and_then (slice_get xs) (cond b (Some (position_or_len p xs)) None)
    by true is = find_at p xs
    by false is = find_at p xs ∙ slice_get_past xs (position_or_len p xs) (ltb-false (position_or_len p xs) (length xs) is)

-- what a look-up by place lends stands there
pub lent_at : {X : Type 0} (xs : List X) (at : ℕ) (r : Option (Bor X)) → IsGetResult xs at at r → option_copied r ≡ slice_get xs at
lent_at xs at None got = sym (slice_get_past xs at got.3)
lent_at xs at (Some x) got = ap (λ y. Some y) got.1 ∙ sym (slice_get-get_or xs at x.now got.3.0)

-- ---- tables

or_none : {X : Type 0} (o : Option X) → o ≡ option_or o None
or_none None = refl
or_none (Some x) = refl

or_some : {X : Type 0} (o p : Option X) → is_some o ≡ true → o ≡ option_or o p
or_some None p some = absurd cc
or_some (Some x) p some = refl

pub tie_id : (id other : Digest) → is_eq (id_order id other) ≡ same_id id other
tie_id id other = is_eq-slice_cmp id.0 other.0

pub id_same : (id other : Digest) → same_id id other ≡ true → id ≡ other
id_same id other same = let bytes = (bytes_eq-Decides id.0 other.0).0 same in λ i. record { 0 = bytes i }

module _ (table : List (Digest × ℕ)) (name : Digest) (at : ℕ) where
  -- a name of which the table tells stays
  pub puts_nothing : is_some (place_in table name) ≡ true → PutsFirst table table name at
  puts_nothing there other =
      elim (cases_Bool (same_id name other)) [
        | inl same ↦ or_some (place_in table other) _ (subst (λ n. is_some (place_in table n) ≡ true) (id_same name other same) there)
        | inr apart ↦ or_none (place_in table other) ∙ sym (ap (λ b. option_or (place_in table other) (cond b (Some at) None)) apart)
      ]

  -- another is put
  pub puts_new : (new : List (Digest × ℕ)) → is_some (place_in table name) ≡ false
      → ((other : Digest) → place_in new other ≡ cond (eq_by_cmp id_order name other) (Some at) (place_in table other)) → PutsFirst table new name at
  puts_new new absent put other =
      let tie : eq_by_cmp id_order name other ≡ same_id name other = is_eq-slice_cmp name.0 other.0 in
      put other ∙ ap (λ b. cond b (Some at) (place_in table other)) tie ∙ by (same_id name other) refl
    where
      none : (o : Option ℕ) → is_some o ≡ false → o ≡ None
      none None e = refl
      none (Some x) e = absurd cc

      by : (b : Bool) → same_id name other ≡ b → cond b (Some at) (place_in table other) ≡ option_or (place_in table other) (cond b (Some at) None)
      by true same =
          sym (ap (λ o. option_or o (Some at)) (none (place_in table other) (subst (λ n. is_some (place_in table n) ≡ false) (id_same name other same) absent)))
      by false apart = or_none (place_in table other)

-- one item more
pub tells_more : {X : Type 0} (name_of : X → Digest) (old new : List (Digest × ℕ)) (items : List X) (i : ℕ) (item : X) → i < length items
    → item ≡ get_or items i item → TellsFirst name_of old (take i items) → PutsFirst old new (name_of item) i
    → TellsFirst name_of new (take (i + 1) items)
tells_more name_of old new items i item lt is tells put name =
    let long : length (take i items) ≡ i = omega (arith, length-take i items) in
    let whole : take (i + 1) items ≡ take i items ++ item ∷ [] = take_more items i item lt ∙ ap (λ x. take i items ++ x ∷ []) (sym is) in
    put name
    ∙ ap (λ o. option_or o (cond (same_id (name_of item) name) (Some i) None)) (tells name)
    ∙ sym (place_more (λ x. same_id (name_of x) name) (take i items) item i long)
    ∙ sym (ap (position (λ x. same_id (name_of x) name)) whole)

-- what is found by name stands where the table tells
pub named_at : {X : Type 0} (name_of : X → Digest) (table : List (Digest × ℕ)) (items : List X) (name : Digest) (o : Option ℕ) → TellsFirst name_of table items
    → o ≡ place_in table name → option_and_then (slice_get items) o ≡ first_named name_of name items
named_at name_of table items name o tells is = ap (option_and_then (slice_get items)) (is ∙ tells name) ∙ sym (found_at (λ x. same_id (name_of x) name) items)

-- one at the place that the table tells is found by its name
pub is_first_named : {X : Type 0} (name_of : X → Digest) (table : List (Digest × ℕ)) (items : List X) (item : X) (first at : ℕ) → TellsFirst name_of table items
    → Some first ≡ place_in table (name_of item) → slice_get items at ≡ Some item
    → OnTrue (eqb first at) (first_named name_of (name_of item) items ≡ Some item)
is_first_named name_of table items item first at tells told here = by (eqb first at) refl
  where
    by : (b : Bool) → eqb first at ≡ b → OnTrue b (first_named name_of (name_of item) items ≡ Some item)
    by true same = sym (named_at name_of table items (name_of item) (Some first) tells told) ∙ ap (slice_get items) (eqb-true first at same) ∙ here
    by false other = tt

-- ---- a test of all, from left to right

module _ {X : Type 0} (p : X → Bool) (xs : List X) (i : ℕ) (so_far : list_all p xs ≡ list_all p (drop i xs)) where
  module _ (x : X) (lt : i < length xs) (is : x ≡ get_or xs i x) where
    rest : drop i xs ≡ x ∷ drop (i + 1) xs
    rest = rw add-one (drop-cons xs i x lt ∙ ap (λ y. y ∷ drop (suc i) xs) (sym is))

    pub all_fails : p x ≡ false → false ≡ list_all p xs
    all_fails fails = sym (so_far ∙ ap (list_all p) rest ∙ ap (λ b. b && list_all p (drop (i + 1) xs)) fails)

    pub all_goes_on : p x ≡ true → list_all p xs ≡ list_all p (drop (i + 1) xs)
    all_goes_on passes = so_far ∙ ap (list_all p) rest ∙ ap (λ b. b && list_all p (drop (i + 1) xs)) passes

  pub all_pass : length xs ≤ i → true ≡ list_all p xs
  all_pass le = sym (so_far ∙ ap (list_all p) (drop_all i xs le))

-- ---- rows that are the same

and_parts : (a b : Bool) → (a && b) ≡ true → (a ≡ true) × (b ≡ true)
and_parts true b e = (refl, e)
and_parts false b e = absurd cc

same_row_is : (row other : RowValue) → Decides (same_row row other) (row ≡ other)
same_row_is row other = (
  λ e.
      let parts = and_parts (bytes_eq row.0 other.0) (same_entry row.1 other.1) e in
      let paths = (bytes_eq-Decides row.0 other.0).0 parts.0 in
      let entries = (same_entry_decides row.1 other.1).0 parts.1 in
      λ i. (paths i, entries i),
  λ e. subst (λ r. same_row row r ≡ true) e
      (ap (λ b. b && same_entry row.1 row.1) ((bytes_eq-Decides row.0 row.0).1 refl) ∙ (same_entry_decides row.1 row.1).1 refl),
)

pub same_rows_are : (rows others : List RowValue) → Decides (same_rows rows others) (rows ≡ others)
same_rows_are rows others = slice_eq-Decides same_row_is rows others (same_rows rows others) refl

-- a range that is the first of its name matches
pub first_matches : (others : List (List RowValue)) (range : List RowValue) → first_named range_name (range_name range) others ≡ Some range
    → is_matched others range ≡ true
first_matches others range first = ap (λ o. option_map_or (same_rows range) o true) first ∙ (same_rows_are range range).1 refl
