-- What stands in a map after a thing was put, taken away or changed in it.
use Rattle.std.proofs.Common.{◌≡◌, ℕ, Bool, true, false, cond, List, refl, sym, ap, ◌∙◌, ◌⊎◌, inl, inr}
use Rattle.std.specs.Prelude.{Option, Some, None, IsSome, is_some}
use Rattle.std.specs.Option.{option_map_or}
use Rattle.std.specs.FinMap.{FinMap, empty, get, insert, remove, get-empty, get-insert, get-remove, nat_cmp-IsAntisymmetric}
use Rattle.std.specs.Ordering.{nat_cmp, eq_by_cmp}
use Rattle.std.specs.Cmp.{Equal-is, nat_cmp_total}
use Rattle.std.specs.Cmp.Lexicographic.{nat_list_cmp_total}
use Rattle.lake_base.specs.Maps.{ByteMap, byte_order}
use Rattle.lake_base.proofs.MapsLemmas.{same_key}
use Rattle.lake_model.specs.Parts.{changed_at}

pub put_or_stood : {X : Type 0} (b : Bool) (x : X) (o : Option X) (y : X) → cond b (Some x) o ≡ Some y → ((b ≡ true) × (y ≡ x)) ⊎ (o ≡ Some y)
put_or_stood true x o y h = let same : y ≡ x = cc in inl (refl, same)
put_or_stood false x o y h = inr h

pub stood : {X : Type 0} (b : Bool) (o : Option X) (y : X) → cond b None o ≡ Some y → o ≡ Some y
stood true o y h = absurd cc
stood false o y h = h

-- names that tie are one
pub same_name : (q name : List ℕ) → eq_by_cmp byte_order q name ≡ true → q ≡ name
same_name q name tie = same_key q name ((Equal-is (byte_order q name)).0 tie)

-- what a map has after an insert was put, or stood there
pub insert_cases : {X : Type 0} (map : ByteMap X) (name : List ℕ) (x : X) (q : List ℕ) (y : X) → get (insert map name x) q ≡ Some y
    → ((q ≡ name) × (y ≡ x)) ⊎ (get map q ≡ Some y)
insert_cases map name x q y h =
    elim (put_or_stood (eq_by_cmp byte_order q name) x (get map q) y (sym (get-insert nat_list_cmp_total map name x q) ∙ h)) [
      | inl put ↦ inl (same_name q name put.0, put.1)
      | inr was ↦ inr was
    ]

-- what it has after a removal stood there
pub remove_stood : {X : Type 0} (map : ByteMap X) (name q : List ℕ) (y : X) → get (remove map name) q ≡ Some y → get map q ≡ Some y
remove_stood map name q y h = stood (eq_by_cmp byte_order q name) (get map q) y (sym (get-remove nat_list_cmp_total map name q) ∙ h)

-- nothing stands in the empty map
pub nothing_stands : {X : Type 0} (q : List ℕ) (y : X) → get (empty {X = X} {R = byte_order}) q ≡ Some y → ⊥
nothing_stands {X = X} q y h = let none = get-empty {X = X} byte_order q in cc

-- what stands under a name after a change stood there, or is the change of what stood under that name
pub changed_cases : {X : Type 0} (name : List ℕ) (change : X → X) (map : ByteMap X) (q : List ℕ) (y : X) → get (changed_at name change map) q ≡ Some y
    → (get map q ≡ Some y) ⊎ ((x : X) × (get map name ≡ Some x) × (q ≡ name) × (y ≡ change x))
changed_cases {X = X} name change map q y h =
    elim (get map name) as (λ o. get map name ≡ o → get (option_map_or (λ x. insert map name (change x)) o map) q ≡ Some y
    → (get map q ≡ Some y) ⊎ ((x : X) × (get map name ≡ Some x) × (q ≡ name) × (y ≡ change x))) [
      | None ↦ λ was is. inl is
      | Some x ↦ λ was is. elim (insert_cases map name (change x) q y is) [ inl put ↦ inr (x, was, put.0, put.1) | inr stood ↦ inl stood ]
    ] refl h

-- ---- maps of numbers

some_put : {X : Type 0} (b : Bool) (x : X) (o : Option X) → IsSome (cond b (Some x) o) → (b ≡ true) ⊎ IsSome o
some_put true x o h = inl refl
some_put false x o h = inr h

some_stood : {X : Type 0} (b : Bool) (o : Option X) → IsSome (cond b None o) → IsSome o
some_stood true o h = absurd cc
some_stood false o h = h

-- a number that a map has after an insert is the one put, or was there
pub number_cases : {X : Type 0} (map : FinMap nat_cmp X) (number : ℕ) (x : X) (q : ℕ) → IsSome (get (insert map number x) q) → (q ≡ number) ⊎ IsSome (get map q)
number_cases map number x q h =
    elim (some_put (eq_by_cmp nat_cmp q number) x (get map q) (ap is_some (sym (get-insert nat_cmp_total map number x q)) ∙ h)) [
      | inl tie ↦ inl (nat_cmp-IsAntisymmetric q number ((Equal-is (nat_cmp q number)).0 tie))
      | inr was ↦ inr was
    ]

-- one that it has after a removal was there
pub number_stood : {X : Type 0} (map : FinMap nat_cmp X) (number q : ℕ) → IsSome (get (remove map number) q) → IsSome (get map q)
number_stood map number q h = some_stood (eq_by_cmp nat_cmp q number) (get map q) (ap is_some (sym (get-remove nat_cmp_total map number q)) ∙ h)

-- the empty map has none
pub no_number : (X : Type 0) (q : ℕ) → IsSome (get (empty {X = X} {R = nat_cmp}) q) → ⊥
no_number X q h = let none = get-empty {X = X} nat_cmp q in cc (ap is_some none)
