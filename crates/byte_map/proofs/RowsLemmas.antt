-- Rows of an ordered map whose keys are ordered by their bytes, and the map that contracts see.
use Rattle.std.proofs.Common.{◌≡◌, ℕ, Bool, true, false, cond, ◌&&◌, List, [], ◌∷◌, Some, None, Option, refl, sym, ap, ◌∙◌, length, suc, map}
use Rattle.std.specs.Ordering.{is_eq, is_lt}
use Rattle.std.specs.List.Sorted.{IsStrictlySortedBy}
use Rattle.std.specs.List.{AllByRecursion, filter}
use Rattle.std.specs.declared.cmp.Ordering.{Ordering}
use Rattle.std.specs.declared.cmp.Ordering.TheVariants.{Less}
use Rattle.std.specs.Map.{lookup, keys_of, KeepsOthers}
use Rattle.std.specs.Str.{bytes_eq}
use Rattle.std.specs.Cmp.Lexicographic.{texts_ties, same_text}
use Rattle.std.specs.BTreeMap.{BTreeMap, is_at, UpdatesBy}
use Rattle.std.specs.BTreeMap.Range.{entries_between}
use Rattle.std.specs.declared.ops.Bound.TheVariants.{Excluded, Unbounded}
use Rattle.std.specs.FinMap.{find, get, entries, from_entries, insert, remove, len, len-entries, get-from_entries, get-from_sorted, entries-from_sorted}
use Rattle.std.specs.FinMap.{from_sorted}
use Rattle.std.proofs.lemmas.Cmp.{nat_list_cmp_total}
use Rattle.lake_base.specs.Maps.{byte_order, ByteMap}
use Rattle.lake_base.proofs.MapsLemmas.{same_key, tied, ascend_from}
use Rattle.byte_map.specs.MapRows.{rows_by_bytes, entries_above}
use Rattle.byte_map.proofs.ByteMapLemmas.{same_maps, get_insert, get_remove}

-- whether a key has these bytes
abbrev key_is : {K : Type 0} → (K → List ℕ) → List ℕ → K → Bool
key_is bytes q k = is_eq (byte_order q (bytes k))

module _ {K X : Type 0} (cmp : K → K → Ordering) (bytes : K → List ℕ) (law : (a b : K) → cmp a b ≡ byte_order (bytes a) (bytes b)) where
  -- the map that contracts see of rows
  abbrev pub seen : List (K × X) → ByteMap X
  seen rows = from_entries (rows_by_bytes bytes rows)

  found : (rows : List (K × X)) (q : List ℕ) → find byte_order q (rows_by_bytes bytes rows) ≡ lookup (key_is bytes q) rows
  found [] q = refl
  found (row ∷ rows) q = ap (cond (key_is bytes q row.0) (Some row.1)) (found rows q)

  pub get_seen : (rows : List (K × X)) (q : List ℕ) → get (seen rows) q ≡ lookup (key_is bytes q) rows
  get_seen rows q = get-from_entries nat_list_cmp_total (rows_by_bytes bytes rows) q ∙ found rows q

  get_key : (rows : List (K × X)) (k : K) → get (seen rows) (bytes k) ≡ lookup (is_at (cmp k)) rows
  get_key rows k = get_seen rows (bytes k) ∙ (λ i. lookup (λ x. is_eq (sym (law k x) i)) rows)

  -- what a search by a key finds
  pub found_seen : (rows : List (K × X)) (k : K) (o : Option X) → o ≡ lookup (is_at (cmp k)) rows → o ≡ get (seen rows) (bytes k)
  found_seen rows k o e = e ∙ sym (get_key rows k)

  ascend : (rows : List (K × X)) → IsStrictlySortedBy cmp (keys_of rows) → IsStrictlySortedBy byte_order (keys_of (rows_by_bytes bytes rows))
  unfolding IsStrictlySortedBy
  ascend [] h = h
  ascend (row ∷ rows) h = (below rows h.0, ascend rows h.1)
    where
      below : (others : List (K × X)) → AllByRecursion (λ y. cmp row.0 y ≡ Less) (keys_of others)
          → AllByRecursion (λ y. byte_order (bytes row.0) y ≡ Less) (keys_of (rows_by_bytes bytes others))
      below [] h = h
      below (other ∷ others) h = (sym (law row.0 other.0) ∙ h.0, below others h.1)

  entries_seen : (rows : List (K × X)) → IsStrictlySortedBy cmp (keys_of rows) → entries (seen rows) ≡ rows_by_bytes bytes rows
  entries_seen rows h =
      let all = rows_by_bytes bytes rows in
      let sorted = ascend_from all (ascend rows h) in
      ap entries
      (same_maps (from_entries all) (from_sorted all) (λ q. get-from_entries nat_list_cmp_total all q ∙ sym (get-from_sorted byte_order all q sorted)))
      ∙ entries-from_sorted byte_order all sorted

  -- rows in order are the map's entries
  pub all_seen : (rows given : List (K × X)) → IsStrictlySortedBy cmp (keys_of rows) → given ≡ rows → rows_by_bytes bytes given ≡ entries (seen rows)
  all_seen rows given h e = ap (rows_by_bytes bytes) e ∙ sym (entries_seen rows h)

  length_seen : (rows : List (K × X)) → length (rows_by_bytes bytes rows) ≡ length rows
  length_seen [] = refl
  length_seen (row ∷ rows) = ap suc (length_seen rows)

  pub len_seen : (rows : List (K × X)) → IsStrictlySortedBy cmp (keys_of rows) → (n : ℕ) → n ≡ length rows → n ≡ len (seen rows)
  len_seen rows h n e = e ∙ sym (len-entries (seen rows) ∙ ap length (entries_seen rows h) ∙ length_seen rows)

  -- a map that was updated at one key: what it has there, and elsewhere what it had
  module _ (m n : BTreeMap K X) (k : K) (w : Option X) (updates : UpdatesBy cmp (cmp k) m n w) where
    here : (q : List ℕ) → q ≡ bytes k → get (seen n.entries) q ≡ w
    here q e = ap (get (seen n.entries)) e ∙ get_key n.entries k ∙ updates.1

    elsewhere : (q : List ℕ) → bytes_eq q (bytes k) ≡ false → lookup (key_is bytes q) n.entries ≡ lookup (key_is bytes q) m.entries
    unfolding KeepsOthers
    elsewhere q e =
        updates.3 (key_is bytes q)
        (λ x y at. ap (λ p. is_eq (byte_order p (bytes y))) (same_key q (bytes x) (tied _ at)) ∙ ap is_eq (sym (law x y)))
        (λ x at. ap (λ p. is_eq (byte_order q p)) (sym (same_key (bytes k) (bytes x) (sym (law k x) ∙ tied _ at))) ∙ sym (texts_ties q (bytes k)) ∙ e)

    updated_at : (q : List ℕ) (b : Bool) → bytes_eq q (bytes k) ≡ b → get (seen n.entries) q ≡ cond b w (get (seen m.entries) q)
    updated_at q true e = here q (same_text q (bytes k) (sym e))
    updated_at q false e = get_seen n.entries q ∙ elsewhere q e ∙ sym (get_seen m.entries q)

  pub seen_insert : (m n : BTreeMap K X) (k : K) (x : X) → UpdatesBy cmp (cmp k) m n (Some x) → seen n.entries ≡ insert (seen m.entries) (bytes k) x
  seen_insert m n k x updates = same_maps _ _ (λ q. updated_at m n k (Some x) updates q _ refl ∙ sym (get_insert (seen m.entries) (bytes k) x q))

  pub seen_remove : (m n : BTreeMap K X) (k : K) → UpdatesBy cmp (cmp k) m n None → seen n.entries ≡ remove (seen m.entries) (bytes k)
  seen_remove m n k updates = same_maps _ _ (λ q. updated_at m n k None updates q _ refl ∙ sym (get_remove (seen m.entries) (bytes k) q))

  one_above : (row : K × X) (rows : List (K × X)) (b : Bool)
      → rows_by_bytes bytes (cond (b && true) (row ∷ rows) rows) ≡ cond b ((bytes row.0, row.1) ∷ rows_by_bytes bytes rows) (rows_by_bytes bytes rows)
  one_above row rows true = refl
  one_above row rows false = refl

  rows_above : (rows : List (K × X)) (k : K)
      → rows_by_bytes bytes (entries_between cmp (Excluded k) Unbounded rows) ≡ filter (λ row. is_lt (byte_order (bytes k) row.0)) (rows_by_bytes bytes rows)
  rows_above [] k = refl
  rows_above (row ∷ rows) k =
      one_above row (entries_between cmp (Excluded k) Unbounded rows) (is_lt (cmp k row.0))
      ∙ (λ i. cond (is_lt (law k row.0 i)) ((bytes row.0, row.1) ∷ rows_above rows k i) (rows_above rows k i))

  -- the rows above a key are the map's entries above its bytes
  pub above_seen : (rows given : List (K × X)) (k : K) → IsStrictlySortedBy cmp (keys_of rows) → given ≡ entries_between cmp (Excluded k) Unbounded rows
      → rows_by_bytes bytes given ≡ entries_above (bytes k) (seen rows)
  above_seen rows given k h e =
      ap (rows_by_bytes bytes) e ∙ rows_above rows k ∙ ap (filter (λ row. is_lt (byte_order (bytes k) row.0))) (sym (entries_seen rows h))

-- the values of rows
pub values_by_bytes : {K X : Type 0} (bytes : K → List ℕ) (rows : List (K × X)) → map (λ row. row.1) (rows_by_bytes bytes rows) ≡ map (λ row. row.1) rows
values_by_bytes bytes [] = refl
values_by_bytes bytes (row ∷ rows) = ap (λ l. row.1 ∷ l) (values_by_bytes bytes rows)

-- rows whose keys are their bytes
pub same_by_bytes : {X : Type 0} (rows : List (List ℕ × X)) → rows_by_bytes (λ key. key) rows ≡ rows
same_by_bytes [] = refl
same_by_bytes (row ∷ rows) = ap (λ l. row ∷ l) (same_by_bytes rows)
