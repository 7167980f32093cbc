-- What stands in a map after a change of it, at a name of which it is known whether it is the changed one.
use Rattle.std.proofs.Common.{◌≡◌, ℕ, true, false, cond, List, [], ◌∷◌, refl, sym, ap, subst, ◌∙◌, ◌⊎◌, inl, inr, true≢false}
use Rattle.std.proofs.lemmas.Bool.{cases_Bool}
use Rattle.std.specs.Prelude.{Option, Some, None, IsSome, is_some}
use Rattle.std.specs.Option.{option_map_or}
use Rattle.std.specs.List.{Contains}
use Rattle.std.specs.FinMap.{get, insert, remove, entries, find, get-insert, get-remove, get-entries}
use Rattle.std.specs.Cmp.{eq_by_cmp_equiv}
use Rattle.std.specs.Cmp.Lexicographic.{nat_list_cmp_total}
use Rattle.std.specs.Ordering.{eq_by_cmp}
use Rattle.lake_base.specs.Maps.{ByteMap, byte_order}
use Rattle.lake_base.proofs.MapsLemmas.{same_key, tied}
use Rattle.lake_values.proofs.OrderLemmas.{Contains-first, Contains-later}
use Rattle.lake_model.specs.Parts.{changed_at}

-- what is there is something
pub of_some : {X : Type 0} (o : Option X) → IsSome o → (x : X) × (o ≡ Some x)
of_some None h = absurd cc
of_some (Some x) h = (x, refl)

-- and the other way round
pub some_is : {X : Type 0} (o : Option X) (x : X) → o ≡ Some x → IsSome o
some_is o x is = ap is_some is

-- two values that stand in one place are one
pub one_value : {X : Type 0} (o : Option X) (x y : X) → o ≡ Some x → o ≡ Some y → x ≡ y
one_value o x y is also = let both : Some x ≡ Some y = sym is ∙ also in cc

-- a name is another's, or ties not with it
name_or_apart : (q name : List ℕ) → (q ≡ name) ⊎ (eq_by_cmp byte_order q name ≡ false)
name_or_apart q name = elim (cases_Bool (eq_by_cmp byte_order q name)) [
  | inl tie ↦ inl (same_key q name (tied (byte_order q name) tie))
  | inr apart ↦ inr apart
]

-- a name ties with itself
pub itself : (name : List ℕ) → eq_by_cmp byte_order name name ≡ true
itself name = (eq_by_cmp_equiv nat_list_cmp_total).refl name

-- two names are one, or differ
pub same_or_other : (q name : List ℕ) → (q ≡ name) ⊎ (q ≡ name → ⊥)
same_or_other q name = elim (name_or_apart q name) [
  | inl same ↦ inl same
  | inr apart ↦ inr (λ same. true≢false (sym (itself name) ∙ ap (λ p. eq_by_cmp byte_order p name) (sym same) ∙ apart))
]

module _ {X : Type 0} (map : ByteMap X) (name : List ℕ) where
  -- what was put is there
  pub insert_here : (x : X) → get (insert map name x) name ≡ Some x
  insert_here x = get-insert nat_list_cmp_total map name x name ∙ ap (λ b. cond b (Some x) (get map name)) (itself name)

  -- under another name stands what stood there
  pub insert_other : (x : X) (q : List ℕ) → (q ≡ name → ⊥) → get (insert map name x) q ≡ get map q
  insert_other x q other = elim (name_or_apart q name) [
    | inl same ↦ absurd (other same)
    | inr apart ↦ get-insert nat_list_cmp_total map name x q ∙ ap (λ b. cond b (Some x) (get map q)) apart
  ]

  -- under a name after an insert stands what was put, or what stood there
  pub insert_either : (x : X) (q : List ℕ) → ((q ≡ name) × (get (insert map name x) q ≡ Some x)) ⊎ (get (insert map name x) q ≡ get map q)
  insert_either x q = elim (same_or_other q name) [
    | inl same ↦ inl (same, ap (get (insert map name x)) same ∙ insert_here x)
    | inr other ↦ inr (insert_other x q other)
  ]

  -- a name that had something has something
  pub insert_keeps : (x : X) (q : List ℕ) → IsSome (get map q) → IsSome (get (insert map name x) q)
  insert_keeps x q there = elim (insert_either x q) [
    | inl put ↦ ap is_some put.1
    | inr stood ↦ ap is_some stood ∙ there
  ]

  -- after a removal too
  pub remove_other : (q : List ℕ) → (q ≡ name → ⊥) → get (remove map name) q ≡ get map q
  remove_other q other = elim (name_or_apart q name) [
    | inl same ↦ absurd (other same)
    | inr apart ↦ get-remove nat_list_cmp_total map name q ∙ ap (λ b. cond b None (get map q)) apart
  ]

  -- after a change too
  pub changed_keeps : (change : X → X) (q : List ℕ) → IsSome (get map q) → IsSome (get (changed_at name change map) q)
  changed_keeps change q there = by (get map name)
    where
      by : (o : Option X) → IsSome (get (option_map_or (λ x. insert map name (change x)) o map) q)
      by None = there
      by (Some x) = insert_keeps (change x) q there

-- where something is in a map, something is in another: so too with one more in both
pub both_inserted : {X Y : Type 0} (map : ByteMap X) (other : ByteMap Y) (name : List ℕ) (x : X) (y : Y) (q : List ℕ)
    → (IsSome (get map q) → IsSome (get other q)) → IsSome (get (insert map name x) q) → IsSome (get (insert other name y) q)
both_inserted map other name x y q both there = elim (same_or_other q name) [
  | inl same ↦ ap is_some (ap (get (insert other name y)) same ∙ insert_here other name y)
  | inr apart ↦ insert_keeps other name y q (both (ap is_some (sym (insert_other map name x q apart)) ∙ there))
]

-- what stands under a name is one of the entries
pub get_entries : {X : Type 0} (map : ByteMap X) (name : List ℕ) (x : X) → get map name ≡ Some x → Contains (entries map) (name, x)
get_entries {X = X} map name x is = among (entries map) (sym (get-entries map name) ∙ is)
  where
    first_one : (e : List ℕ × X) → eq_by_cmp byte_order name e.0 ≡ true → Some e.1 ≡ Some x → e ≡ (name, x)
    first_one e tie is =
        let key : name ≡ e.0 = same_key name e.0 (tied (byte_order name e.0) tie) in
        let value : e.1 ≡ x = cc in
        λ i. (sym key i, value i)

    among : (es : List (List ℕ × X)) → find byte_order name es ≡ Some x → Contains es (name, x)
    among [] e = absurd cc
    among (e ∷ es) now =
        elim (eq_by_cmp byte_order name e.0) as (λ b. eq_by_cmp byte_order name e.0 ≡ b → cond b (Some e.1) (find byte_order name es) ≡ Some x
        → Contains (e ∷ es) (name, x)) [
          | true ↦ λ tie is. subst (Contains (e ∷ es)) (first_one e tie is) (Contains-first e es)
          | false ↦ λ apart is. Contains-later e (name, x) es (among es is)
        ] refl now
