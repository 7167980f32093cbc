-- The entries of a tree, seen as a finite map from numbers.
use Rattle.std.proofs.Common.{◌≡◌, ℕ, List, [], ◌∷◌, cond, refl, sym, ap, ◌∙◌, map as list_map}
use Rattle.std.proofs.lemmas.List.{nil_from_length}
use Rattle.std.proofs.lemmas.Map.Keys.{sorted_head, sorted_tail}
use Rattle.std.specs.Prelude.{Some, None}
use Rattle.std.specs.Ordering.{nat_cmp, eq_by_cmp}
use Rattle.std.specs.Cmp.{nat_cmp_total, eq_by_cmp_equiv}
use Rattle.std.specs.Map.{lookup}
use Rattle.std.specs.FinMap as map
use Rattle.std.specs.FinMap.{nat_cmp-IsAntisymmetric}
use Rattle.std.specs.FinMap.Entries.{by_order}
use Rattle.std.specs.List.Sorted.{IsStrictlySortedBy}

find_lookup : {X : Type 0} (es : List (ℕ × X)) (q : ℕ) → map.find nat_cmp q es ≡ lookup (eq_by_cmp nat_cmp q) es
find_lookup [] q = refl
find_lookup (e ∷ es) q = ap (cond (eq_by_cmp nat_cmp q e.0) (Some e.1)) (find_lookup es q)

-- what the map has at a number is what a look-up in the entries finds
pub get-from : {X : Type 0} (es : List (ℕ × X)) (q : ℕ) → map.get (map.from_entries {R = nat_cmp} es) q ≡ lookup (eq_by_cmp nat_cmp q) es
get-from es q = map.get-from_entries nat_cmp_total es q ∙ find_lookup es q

-- entries that differ from others at one number are the map with that number's value put in place
pub insert-from : {X : Type 0} (es fs : List (ℕ × X)) (k : ℕ) (v : X)
    → ((q : ℕ) → lookup (eq_by_cmp nat_cmp q) fs ≡ cond (eq_by_cmp nat_cmp k q) (Some v) (lookup (eq_by_cmp nat_cmp q) es))
    → map.from_entries {R = nat_cmp} fs ≡ map.insert (map.from_entries es) k v
insert-from es fs k v h =
    map.same_map nat_cmp_total nat_cmp-IsAntisymmetric _ _
    (λ q. get-from fs q
    ∙ h q
    ∙ ap (λ b. cond b (Some v) (lookup (eq_by_cmp nat_cmp q) es)) ((eq_by_cmp_equiv nat_cmp_total).symm k q)
    ∙ ap (cond (eq_by_cmp nat_cmp q k) (Some v)) (sym (get-from es q))
    ∙ sym (map.get-insert nat_cmp_total (map.from_entries es) k v q))

-- entries that lack one number and are else the same are the map without it
pub remove-from : {X : Type 0} (es fs : List (ℕ × X)) (k : ℕ)
    → ((q : ℕ) → lookup (eq_by_cmp nat_cmp q) fs ≡ cond (eq_by_cmp nat_cmp k q) None (lookup (eq_by_cmp nat_cmp q) es))
    → map.from_entries {R = nat_cmp} fs ≡ map.remove (map.from_entries es) k
remove-from es fs k h =
    map.same_map nat_cmp_total nat_cmp-IsAntisymmetric _ _
    (λ q. get-from fs q
    ∙ h q
    ∙ ap (λ b. cond b None (lookup (eq_by_cmp nat_cmp q) es)) ((eq_by_cmp_equiv nat_cmp_total).symm k q)
    ∙ ap (cond (eq_by_cmp nat_cmp q k) None) (sym (get-from es q))
    ∙ sym (map.get-remove nat_cmp_total (map.from_entries es) k q))

put-below : {X : Type 0} (e : ℕ × X) (es : List (ℕ × X)) → IsStrictlySortedBy nat_cmp (list_map (λ e. e.0) (e ∷ es)) → map.put nat_cmp e.0 e.1 es ≡ e ∷ es
put-below e [] h = refl
put-below e (f ∷ fs) h =
    ap (λ r. by_order r (e ∷ f ∷ fs) ((f.0, e.1) ∷ fs) (f ∷ map.put nat_cmp e.0 e.1 fs)) (sorted_head nat_cmp e.0 (list_map (λ e. e.0) (f ∷ fs)) h).0

entries-from : {X : Type 0} (es : List (ℕ × X)) → IsStrictlySortedBy nat_cmp (list_map (λ e. e.0) es) → map.entries (map.from_entries {R = nat_cmp} es) ≡ es
entries-from {X} [] h = nil_from_length _ (sym (map.len-entries map.empty) ∙ map.len-empty nat_cmp X)
entries-from (e ∷ es) h =
    map.entries-insert nat_cmp_total (map.from_entries es) e.0 e.1
    ∙ ap (map.put nat_cmp e.0 e.1) (entries-from es (sorted_tail nat_cmp e.0 (list_map (λ e. e.0) es) h))
    ∙ put-below e es h

-- the keys of entries in order are the map's
pub keys-from : {X : Type 0} (es : List (ℕ × X)) → IsStrictlySortedBy nat_cmp (list_map (λ e. e.0) es)
    → map.keys (map.from_entries {R = nat_cmp} es) ≡ list_map (λ e. e.0) es
keys-from es h = ap (list_map (λ e. e.0)) (entries-from es h)
