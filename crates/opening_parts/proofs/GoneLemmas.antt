-- Numbers that are gone, as a tree of them tells.
use Rattle.std.proofs.Common.{◌≡◌, ℕ, List, [], ◌∷◌, cond, Some, refl, sym, ap, ◌∙◌}
use Rattle.std.specs.Ordering.{nat_cmp, eq_by_cmp}
use Rattle.std.specs.Cmp.{nat_cmp_total, eq_by_cmp_equiv}
use Rattle.std.specs.Map.{lookup}
use Rattle.std.specs.FinMap.{find, from_entries, get, insert, get-from_entries, get-insert, same_map, nat_cmp-IsAntisymmetric}

find_lookup : {X : Type 0} (es : List (ℕ × X)) (q : ℕ) → find nat_cmp q es ≡ lookup (eq_by_cmp nat_cmp q) es
find_lookup [] q = refl
find_lookup (e ∷ es) q = ap (cond (eq_by_cmp nat_cmp q e.0) (Some e.1)) (find_lookup es q)

get_from : {X : Type 0} (es : List (ℕ × X)) (q : ℕ) → get (from_entries {R = nat_cmp} es) q ≡ lookup (eq_by_cmp nat_cmp q) es
get_from es q = get-from_entries nat_cmp_total es q ∙ find_lookup es q

-- entries that differ from others at one number are the map with that number's value
pub insert_from : {X : Type 0} (es fs : List (ℕ × X)) (k : ℕ) (v : X)
    → ((q : ℕ) → lookup (eq_by_cmp nat_cmp q) fs ≡ cond (eq_by_cmp nat_cmp k q) (Some v) (lookup (eq_by_cmp nat_cmp q) es))
    → from_entries {R = nat_cmp} fs ≡ insert (from_entries es) k v
insert_from es fs k v h =
    same_map nat_cmp_total nat_cmp-IsAntisymmetric _ _
    (λ q. get_from fs q
    ∙ h q
    ∙ ap (λ b. cond b (Some v) (lookup (eq_by_cmp nat_cmp q) es)) ((eq_by_cmp_equiv nat_cmp_total).symm k q)
    ∙ ap (cond (eq_by_cmp nat_cmp q k) (Some v)) (sym (get_from es q))
    ∙ sym (get-insert nat_cmp_total (from_entries es) k v q))
