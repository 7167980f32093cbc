-- Maps with one thing more.
use Rattle.std.proofs.Common.{◌≡◌, ℕ, Bool, true, false, cond, List, refl, sym, ap, ◌∙◌, ◌⊎◌, inl, inr}
use Rattle.std.specs.Prelude.{Some, IsSome, is_some}
use Rattle.std.specs.FinMap.{get, insert, get-insert}
use Rattle.std.specs.Ordering.{eq_by_cmp}
use Rattle.std.specs.Cmp.Lexicographic.{nat_list_cmp_total}
use Rattle.lake_base.specs.Maps.{ByteMap, byte_order}
use Rattle.lake_base.specs.declared.digest.Digest.{Digest}
use Rattle.lake_base.proofs.MapsLemmas.{same_key, tied}
use Rattle.lake_values.specs.Ancestry.{id_of}

-- what stands in a map with one thing more is that thing, or stood there
pub stood : {X : Type 0} (m : ByteMap X) (k : List ℕ) (v : X) (q : List ℕ) → IsSome (get (insert m k v) q) → (q ≡ k) ⊎ IsSome (get m q)
stood {X = X} m k v q is = by (eq_by_cmp byte_order q k) refl (sym (ap is_some (get-insert nat_list_cmp_total m k v q)) ∙ is)
  where
    by : (b : Bool) → eq_by_cmp byte_order q k ≡ b → is_some (cond b (Some v) (get m q)) ≡ true → (q ≡ k) ⊎ IsSome (get m q)
    by true tie e = inl (same_key q k (tied (byte_order q k) tie))
    by false tie e = inr e

-- what stood in a map stands in it with one thing more
pub stands : {X : Type 0} (m : ByteMap X) (k : List ℕ) (v : X) (q : List ℕ) → IsSome (get m q) → IsSome (get (insert m k v) q)
stands {X = X} m k v q is = ap is_some (get-insert nat_list_cmp_total m k v q) ∙ by (eq_by_cmp byte_order q k)
  where
    by : (b : Bool) → is_some (cond b (Some v) (get m q)) ≡ true
    by true = refl
    by false = is

-- at another name a map has what it had
pub get_other : {X : Type 0} (m : ByteMap X) (k : List ℕ) (v : X) (q : List ℕ) → (q ≡ k → ⊥) → get (insert m k v) q ≡ get m q
get_other {X = X} m k v q apart = get-insert nat_list_cmp_total m k v q ∙ by (eq_by_cmp byte_order q k) refl
  where
    by : (b : Bool) → eq_by_cmp byte_order q k ≡ b → cond b (Some v) (get m q) ≡ get m q
    by true tie = absurd (apart (same_key q k (tied (byte_order q k) tie)))
    by false tie = refl

-- ids of the same bytes
pub same_digest : (id other : Digest) → id.0 ≡ other.0 → id ≡ other
same_digest id other is = ap id_of is
