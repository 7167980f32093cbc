-- Pairs in an ordered map, seen as the finite map from key to value.
use Rattle.std.proofs.Common.{◌≡◌, ℕ, cond, List, [], ◌∷◌, ◌++◌, Some, None, refl, sym, ap, ◌∙◌, append_assoc, map as list_map}
use Rattle.std.proofs.lemmas.List.{map-append}
use Rattle.std.specs.List.Sorted.{IsStrictlySortedBy}
use Rattle.std.specs.Ordering.{eq_by_cmp}
use Rattle.std.specs.Map.{lookup}
use Rattle.std.specs.Cmp.{eq_by_cmp_equiv}
use Rattle.std.proofs.lemmas.Cmp.{nat_list_cmp_total}
use Rattle.std.specs.FinMap.{find, get, entries, from_entries, from_sorted, insert, remove, get-from_entries, get-from_sorted, get-insert, get-remove}
use Rattle.std.specs.FinMap.{entries-from_sorted, same_map, slice_cmp-IsAntisymmetric, nat_cmp-IsAntisymmetric}
use Rattle.lake_base.specs.Maps.{byte_order}
use Rattle.lake_base.proofs.MapsLemmas.{ascend_from}
use Rattle.pair_format.specs.declared.pair.Pair.{Pair}
use Rattle.keeper.specs.Keepers.{KeptPairs, entries_of}

abbrev pub Rows : Type 0
Rows = List (List ℕ × List ℕ)

-- two maps that answer alike are equal
pub same : (m n : KeptPairs) → ((q : List ℕ) → get m q ≡ get n q) → m ≡ n
same = same_map nat_list_cmp_total (slice_cmp-IsAntisymmetric nat_cmp-IsAntisymmetric)

find_lookup : (es : Rows) (q : List ℕ) → find byte_order q es ≡ lookup (eq_by_cmp byte_order q) es
find_lookup [] q = refl
find_lookup (e ∷ es) q = ap (cond (eq_by_cmp byte_order q e.0) (Some e.1)) (find_lookup es q)

-- what the rows have at a key is what a search finds
get_rows : (es : Rows) (q : List ℕ) → get (from_entries {R = byte_order} es) q ≡ lookup (eq_by_cmp byte_order q) es
get_rows es q = get-from_entries nat_list_cmp_total es q ∙ find_lookup es q

-- rows in order are the map's
pub entries_rows : (es : Rows) → IsStrictlySortedBy byte_order (list_map (λ e. e.0) es) → entries (from_entries {R = byte_order} es) ≡ es
entries_rows es h =
    let sorted = ascend_from es h in
    ap entries (same (from_entries es) (from_sorted es) (λ q. get-from_entries nat_list_cmp_total es q ∙ sym (get-from_sorted byte_order es q sorted)))
    ∙ entries-from_sorted byte_order es sorted

-- rows that differ from others at one key are their map with that value
pub rows_set : (es fs : Rows) (key value : List ℕ)
    → ((q : List ℕ) → lookup (eq_by_cmp byte_order q) fs ≡ cond (eq_by_cmp byte_order key q) (Some value) (lookup (eq_by_cmp byte_order q) es))
    → from_entries {R = byte_order} fs ≡ insert (from_entries es) key value
rows_set es fs key value h = same _ _ (λ q.
    get_rows fs q ∙ h q
    ∙ ap (λ b. cond b (Some value) (lookup (eq_by_cmp byte_order q) es)) ((eq_by_cmp_equiv nat_list_cmp_total).symm key q)
    ∙ ap (cond (eq_by_cmp byte_order q key) (Some value)) (sym (get_rows es q))
    ∙ sym (get-insert nat_list_cmp_total (from_entries es) key value q))

-- rows that lack one key and are else the same are their map without it
pub rows_removed : (es fs : Rows) (key : List ℕ)
    → ((q : List ℕ) → lookup (eq_by_cmp byte_order q) fs ≡ cond (eq_by_cmp byte_order key q) None (lookup (eq_by_cmp byte_order q) es))
    → from_entries {R = byte_order} fs ≡ remove (from_entries es) key
rows_removed es fs key h = same _ _ (λ q.
    get_rows fs q ∙ h q
    ∙ ap (λ b. cond b None (lookup (eq_by_cmp byte_order q) es)) ((eq_by_cmp_equiv nat_list_cmp_total).symm key q)
    ∙ ap (cond (eq_by_cmp byte_order q key) None) (sym (get_rows es q))
    ∙ sym (get-remove nat_list_cmp_total (from_entries es) key q))

-- one pair more, whose row was the next
pub pairs_more : (pairs : List Pair) (pair : Pair) (row : List ℕ × List ℕ) (left all : Rows) → (pair.key, pair.value) ≡ row
    → entries_of pairs ++ row ∷ left ≡ all → entries_of (pairs ++ pair ∷ []) ++ left ≡ all
pairs_more pairs pair row left all is h =
    ap (λ l. l ++ left) (map-append (λ (p : Pair). (p.key, p.value)) pairs (pair ∷ []))
    ∙ append_assoc (entries_of pairs) ((pair.key, pair.value) ∷ []) left
    ∙ ap (λ r. entries_of pairs ++ r ∷ left) is ∙ h
