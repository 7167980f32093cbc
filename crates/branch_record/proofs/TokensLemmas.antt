-- What stands under the tokens of a map, after changes of it.
use Rattle.std.proofs.Common.{◌≡◌, ℕ, zero, suc, ◌<◌, Bool, true, false, cond, ◌||◌, List, [], ◌∷◌, ◌++◌, length, take, get_or, Some, None, Option, refl, sym}
use Rattle.std.proofs.Common.{ap, subst, ◌∙◌, arith}
use Rattle.std.specs.Bool.{nat_eq, ◌==◌}
use Rattle.std.specs.List.{AllByRecursion, IsDistinct}
use Rattle.std.specs.Option.{unwrap_or, is_some}
use Rattle.std.specs.BTreeSet.{BTreeSet, btree_set_len, IsFromIterResult}
use Rattle.std.specs.Cmp.{nat_cmp_total, nat_eq_equiv, unsigned_tied, eq_by_cmp_equiv}
use Rattle.std.specs.FinMap.{get, len, insert, remove, empty, contains_key, get-insert, get-remove, get-empty, empty_of_len, len-empty, same_map}
use Rattle.std.specs.FinMap.{nat_cmp-IsAntisymmetric}
use Rattle.std.specs.Ordering.{nat_cmp}
use Rattle.std.proofs.lemmas.Bool.{eqb-true, or_parts}
use Rattle.std.proofs.lemmas.Map.Made.{IsDistinct-from_count, distinct_count-from_IsDistinct}
use Rattle.std.proofs.lemmas.Map.Views.{btree_set_len-from_list}
use Rattle.std.proofs.lemmas.List.Folds.{list_any-append}
use Rattle.lake_base.specs.Maps.{byte_order}
use Rattle.lake_values.specs.KeyMap.{ChangesValue}
use Rattle.lake_values.specs.declared.entry.Change.{Change}
use Rattle.branch_record.specs.Tokens.{TokenMap, changes_under, with_changes, with_each}
use Rattle.branch_record.specs.Record.{is_among, AreDistinct}

-- what is kept of changes: none aren't kept
abbrev pub kept : ChangesValue → Option ChangesValue
kept c = cond (len c == 0) None (Some c)

-- the changes that were kept
abbrev pub value : Option ChangesValue → ChangesValue
value o = unwrap_or o empty

pub value_kept : (c : ChangesValue) → value (kept c) ≡ c
value_kept c = by (len c == 0) refl
  where
    by : (b : Bool) → (len c == 0) ≡ b → value (cond b None (Some c)) ≡ c
    by true e = sym (empty_of_len c (eqb-true _ _ e))
    by false e = refl

pub kept_empty : kept empty ≡ None
kept_empty = ap (λ n. cond (n == 0) None (Some empty)) (len-empty byte_order Change)

pub same_tokens : (m n : TokenMap) → ((q : ℕ) → get m q ≡ get n q) → m ≡ n
same_tokens m n = same_map nat_cmp_total nat_cmp-IsAntisymmetric m n

pub turned : (a b : ℕ) → nat_eq a b ≡ nat_eq b a
turned = nat_eq_equiv.symm

-- what is found after changes were put under a token
pub get_with : (m : TokenMap) (k : ℕ) (c : ChangesValue) (q : ℕ) → get (with_changes m k c) q ≡ cond (nat_eq q k) (kept c) (get m q)
unfolding with_changes
get_with m k c q =
    elim (len c == 0) as (λ b. get (cond b (remove m k) (insert m k c)) q ≡ cond (nat_eq q k) (cond b None (Some c)) (get m q)) [
      | true ↦ get-remove nat_cmp_total m k q ∙ ap (λ b. cond b None (get m q)) (unsigned_tied q k)
      | false ↦ get-insert nat_cmp_total m k c q ∙ ap (λ b. cond b (Some c) (get m q)) (unsigned_tied q k)
    ]

value_either : (b : Bool) (c : ChangesValue) (o : Option ChangesValue) → value (cond b (kept c) o) ≡ cond b c (value o)
value_either true c o = value_kept c
value_either false c o = refl

-- the changes under a token after changes were put under one
pub under_with : (m : TokenMap) (k : ℕ) (c : ChangesValue) (q : ℕ) → changes_under (with_changes m k c) q ≡ cond (nat_eq q k) c (changes_under m q)
unfolding changes_under
under_with m k c q = ap value (get_with m k c q) ∙ value_either (nat_eq q k) c (get m q)

pub under_here : (m : TokenMap) (k : ℕ) (c : ChangesValue) → changes_under (with_changes m k c) k ≡ c
under_here m k c = under_with m k c k ∙ ap (λ b. cond b c (changes_under m k)) (nat_eq_equiv.refl k)

pub under_other : (m : TokenMap) (k : ℕ) (c : ChangesValue) (q : ℕ) → nat_eq q k ≡ false → changes_under (with_changes m k c) q ≡ changes_under m q
under_other m k c q e = under_with m k c q ∙ ap (λ b. cond b c (changes_under m q)) e

pub under_empty : (q : ℕ) → changes_under empty q ≡ empty
unfolding changes_under
under_empty q = ap value (get-empty nat_cmp q)

-- a token that isn't there has no changes
pub under_none : (m : TokenMap) (k : ℕ) → contains_key m k ≡ false → changes_under m k ≡ empty
unfolding changes_under
under_none m k e = by (get m k) e
  where
    by : (o : Option ChangesValue) → is_some o ≡ false → value o ≡ empty
    by None e = refl
    by (Some c) e = cc

again : (b : Bool) (x y z : Option ChangesValue) → cond b y (cond b x z) ≡ cond b y z
again true x y z = refl
again false x y z = refl

-- of two changes put under one token the later stands
pub with_with : (m : TokenMap) (k : ℕ) (a b : ChangesValue) → with_changes (with_changes m k a) k b ≡ with_changes m k b
with_with m k a b = same_tokens _ _ (λ q.
    get_with (with_changes m k a) k b q ∙ ap (cond (nat_eq q k) (kept b)) (get_with m k a q)
    ∙ again (nat_eq q k) (kept a) (kept b) (get m q) ∙ sym (get_with m k b q))

apart : (q k j : ℕ) → nat_eq k j ≡ false → (b : Bool) → nat_eq q k ≡ b → (x y z : Option ChangesValue)
    → cond (nat_eq q j) y (cond b x z) ≡ cond b x (cond (nat_eq q j) y z)
apart q k j ne true e x y z = ap (λ t. cond t y x) (ap (λ n. nat_eq n j) (eqb-true q k e) ∙ ne)
apart q k j ne false e x y z = refl

-- changes under different tokens are put in either order
pub with_other : (m : TokenMap) (k j : ℕ) (a b : ChangesValue) → nat_eq k j ≡ false
    → with_changes (with_changes m k a) j b ≡ with_changes (with_changes m j b) k a
with_other m k j a b ne = same_tokens _ _ (λ q.
    get_with (with_changes m k a) j b q ∙ ap (cond (nat_eq q j) (kept b)) (get_with m k a q)
    ∙ apart q k j ne _ refl (kept a) (kept b) (get m q)
    ∙ sym (get_with (with_changes m j b) k a q ∙ ap (cond (nat_eq q k) (kept a)) (get_with m j b q)))

-- ---- what f makes of the changes under each of some tokens
module _ (f : ChangesValue → ChangesValue) (m : TokenMap) where
  either_token : {X : Type 0} (g : ℕ → X) (k q : ℕ) (rest : Bool) (z : X) → (b : Bool) → nat_eq k q ≡ b
      → cond b (g k) (cond rest (g q) z) ≡ cond (b || rest) (g q) z
  either_token g k q rest z true e = ap g (eqb-true k q e)
  either_token g k q rest z false e = refl

  pub get_changed : (these : List ℕ) (q : ℕ) → get (with_each these f m) q ≡ cond (is_among these q) (kept (f (changes_under m q))) (get m q)
  unfolding with_each
  get_changed [] q = refl
  get_changed (k ∷ these) q =
      get_with (with_each these f m) k (f (changes_under m k)) q
      ∙ ap (λ b. cond b (kept (f (changes_under m k))) (get (with_each these f m) q)) (turned q k)
      ∙ ap (cond (nat_eq k q) (kept (f (changes_under m k)))) (get_changed these q)
      ∙ either_token (λ n. kept (f (changes_under m n))) k q (is_among these q) (get m q) _ refl

  pub changed_none : with_each [] f m ≡ m
  unfolding with_each
  changed_none = refl

  -- the changes under a token then
  pub under_changed : (these : List ℕ) (q : ℕ) → changes_under (with_each these f m) q ≡ cond (is_among these q) (f (changes_under m q)) (changes_under m q)
  unfolding changes_under
  under_changed these q = ap value (get_changed these q) ∙ value_either (is_among these q) (f (value (get m q))) (get m q)

  under_left : (these : List ℕ) (k : ℕ) → is_among these k ≡ false → changes_under (with_each these f m) k ≡ changes_under m k
  under_left these k out = under_changed these k ∙ ap (λ b. cond b (f (changes_under m k)) (changes_under m k)) out

  -- one token more, before the others
  pub changed_first : (these : List ℕ) (k : ℕ) → is_among these k ≡ false
      → with_changes (with_each these f m) k (f (changes_under (with_each these f m) k)) ≡ with_each (k ∷ these) f m
  unfolding with_each
  changed_first these k out = ap (λ c. with_changes (with_each these f m) k (f c)) (under_left these k out)

  last_token : (these : List ℕ) (k q : ℕ) → is_among (these ++ k ∷ []) q ≡ (nat_eq k q || is_among these q)
  last_token these k q = list_any-append (λ n. nat_eq n q) these (k ∷ []) ∙ swapped (is_among these q) (nat_eq k q)
    where
      swapped : (a b : Bool) → (a || (b || false)) ≡ (b || a)
      swapped true true = refl
      swapped true false = refl
      swapped false true = refl
      swapped false false = refl

  -- one token more, after the others
  pub changed_last : (these : List ℕ) (k : ℕ) → is_among these k ≡ false
      → with_changes (with_each these f m) k (f (changes_under (with_each these f m) k)) ≡ with_each (these ++ k ∷ []) f m
  changed_last these k out = same_tokens _ _ (λ q.
      ap (λ c. get (with_changes (with_each these f m) k (f c)) q) (under_left these k out)
      ∙ get_with (with_each these f m) k (f (changes_under m k)) q
      ∙ ap (λ b. cond b (kept (f (changes_under m k))) (get (with_each these f m) q)) (turned q k)
      ∙ ap (cond (nat_eq k q) (kept (f (changes_under m k)))) (get_changed these q)
      ∙ either_token (λ n. kept (f (changes_under m n))) k q (is_among these q) (get m q) _ refl
      ∙ ap (λ b. cond b (kept (f (changes_under m q))) (get m q)) (sym (last_token these k q))
      ∙ sym (get_changed (these ++ k ∷ []) q))

-- functions that make the same of all changes
pub changed_alike : (these : List ℕ) (f g : ChangesValue → ChangesValue) (m : TokenMap) → ((c : ChangesValue) → f c ≡ g c)
    → with_each these f m ≡ with_each these g m
unfolding with_each
changed_alike [] f g m h = refl
changed_alike (k ∷ these) f g m h = λ i. with_changes (changed_alike these f g m h i) k (h (changes_under m k) i)

-- ---- tokens that differ
pub not_among : (k : ℕ) (these : List ℕ) → AllByRecursion (λ y. nat_eq k y ≡ false) these → is_among these k ≡ false
not_among k [] h = refl
not_among k (x ∷ these) h = ap (λ b. b || is_among these k) (turned x k ∙ h.0) ∙ not_among k these h.1

pub first_apart : (k : ℕ) (these : List ℕ) → AreDistinct (k ∷ these) → is_among these k ≡ false
unfolding IsDistinct
first_apart k these h = not_among k these h.0

pub rest_distinct : (k : ℕ) (these : List ℕ) → AreDistinct (k ∷ these) → AreDistinct these
unfolding IsDistinct
rest_distinct k these h = h.1

at_place : (k : ℕ) (these : List ℕ) (i : ℕ) → AllByRecursion (λ y. nat_eq k y ≡ false) these → i < length these → nat_eq k (get_or these i 0) ≡ false
at_place k [] i h lt = absurd (omega arith)
at_place k (x ∷ these) zero h lt = h.0
at_place k (x ∷ these) (suc i) h lt = at_place k these i h.1 (omega arith)

-- none of those before a place is the one there
pub place_apart : (these : List ℕ) (i : ℕ) → AreDistinct these → i < length these → is_among (take i these) (get_or these i 0) ≡ false
unfolding IsDistinct
place_apart [] i h lt = absurd (omega arith)
place_apart (x ∷ these) zero h lt = refl
place_apart (x ∷ these) (suc i) h lt =
    ap (λ b. b || is_among (take i these) (get_or these i 0)) (at_place x these i h.0 (omega arith)) ∙ place_apart these i h.1 (omega arith)

among_not : (k : ℕ) (these : List ℕ) → is_among these k ≡ false → AllByRecursion (λ y. nat_eq k y ≡ false) these
among_not k [] h = tt
among_not k (x ∷ these) h =
    let parts = or_parts (nat_eq x k) (is_among these k) h in
    (turned k x ∙ parts.0, among_not k these parts.1)

module _ {E F : ℕ → ℕ → Bool} (alike : (a b : ℕ) → E a b ≡ F a b) where
  all_alike : (k : ℕ) (these : List ℕ) → AllByRecursion (λ y. E k y ≡ false) these → AllByRecursion (λ y. F k y ≡ false) these
  all_alike k [] h = tt
  all_alike k (x ∷ these) h = (sym (alike k x) ∙ h.0, all_alike k these h.1)

  distinct_alike : (these : List ℕ) → IsDistinct E these → IsDistinct F these
  unfolding IsDistinct
  distinct_alike [] h = tt
  distinct_alike (x ∷ these) h = (all_alike x these h.0, distinct_alike these h.1)

-- a set of the tokens is as long as they are just where they differ
module _ (these : List ℕ) (set : BTreeSet ℕ) (made : IsFromIterResult nat_cmp these set) where
  pub distinct_from_len : btree_set_len set ≡ length these → AreDistinct these
  distinct_from_len e =
      distinct_alike unsigned_tied these
      (IsDistinct-from_count (eq_by_cmp_equiv nat_cmp_total) these (sym (btree_set_len-from_list nat_cmp_total these set made) ∙ e))

  pub len_from_distinct : AreDistinct these → btree_set_len set ≡ length these
  len_from_distinct h =
      btree_set_len-from_list nat_cmp_total these set made
      ∙ distinct_count-from_IsDistinct (eq_by_cmp_equiv nat_cmp_total) these (distinct_alike (λ a b. sym (unsigned_tied a b)) these h)

pub distinct_more : (k : ℕ) (these : List ℕ) → is_among these k ≡ false → AreDistinct these → AreDistinct (k ∷ these)
unfolding IsDistinct
distinct_more k these out h = (among_not k these out, h)

pub distinct_one : (k : ℕ) (these : List ℕ) → these ≡ [] → AreDistinct (k ∷ these)
unfolding IsDistinct
distinct_one k these e = subst (λ l. AreDistinct (k ∷ l)) (sym e) (tt, tt)
