-- Changes in an ordered map, and what a reset leaves of them and of one more.
use Rattle.std.proofs.Common.{◌≡◌, ℕ, Bool, true, false, cond, not, List, [], ◌∷◌, Some, None, refl, sym, ap, ◌∙◌, map as list_map, length}
use Rattle.std.specs.List.{filter}
use Rattle.std.specs.List.Sorted.{IsStrictlySortedBy}
use Rattle.std.specs.Ordering.{eq_by_cmp}
use Rattle.std.specs.Map.{lookup}
use Rattle.std.specs.Cmp.{eq_by_cmp_equiv}
use Rattle.std.proofs.lemmas.Cmp.{nat_list_cmp_total}
use Rattle.std.specs.FinMap.{find, get, entries, from_entries, from_sorted, insert, remove, get-from_entries, get-from_sorted, get-insert, get-remove}
use Rattle.std.specs.FinMap.{entries-from_sorted, len, len-entries}
use Rattle.std.specs.FinMap.Entries.{find-where_key}
use Rattle.lake_base.specs.Maps.{byte_order}
use Rattle.lake_base.proofs.MapsLemmas.{same_key, tied, ascend_from}
use Rattle.lake_values.specs.KeyMap.{ChangesValue}
use Rattle.lake_values.specs.Reset.{drops_path, changes_after_reset}
use Rattle.lake_values.specs.declared.commit.ResetWhat.{ResetWhat}
use Rattle.lake_values.specs.declared.entry.Change.{Change}
use Rattle.lake_values.proofs.KeyMapLemmas.{same}
use Rattle.lake_values.proofs.ResetLemmas.{get_reset}

abbrev pub Rows : Type 0
Rows = List (List ℕ × Change)

pub find_lookup : (es : Rows) (q : List ℕ) → find byte_order q es ≡ lookup (eq_by_cmp byte_order q) es
find_lookup [] q = refl
find_lookup (e ∷ es) q = ap (cond (eq_by_cmp byte_order q e.0) (Some e.1)) (find_lookup es q)

-- what the rows have at a path is what a search finds
pub get_rows : (es : Rows) (q : List ℕ) → get (from_entries {R = byte_order} es) q ≡ lookup (eq_by_cmp byte_order q) es
get_rows es q = get-from_entries nat_list_cmp_total es q ∙ find_lookup es q

-- rows in order are the map's
pub entries_rows : (es : Rows) → IsStrictlySortedBy byte_order (list_map (λ e. e.0) es) → entries (from_entries {R = byte_order} es) ≡ es
entries_rows es h =
    let sorted = ascend_from es h in
    ap entries (same (from_entries es) (from_sorted es) (λ q. get-from_entries nat_list_cmp_total es q ∙ sym (get-from_sorted byte_order es q sorted)))
    ∙ entries-from_sorted byte_order es sorted

-- rows that differ from others at one path are their map with that change
pub rows_set : (es fs : Rows) (path : List ℕ) (change : Change)
    → ((q : List ℕ) → lookup (eq_by_cmp byte_order q) fs ≡ cond (eq_by_cmp byte_order path q) (Some change) (lookup (eq_by_cmp byte_order q) es))
    → from_entries {R = byte_order} fs ≡ insert (from_entries es) path change
rows_set es fs path change h = same _ _ (λ q.
    get_rows fs q ∙ h q
    ∙ ap (λ b. cond b (Some change) (lookup (eq_by_cmp byte_order q) es)) ((eq_by_cmp_equiv nat_list_cmp_total).symm path q)
    ∙ ap (cond (eq_by_cmp byte_order q path) (Some change)) (sym (get_rows es q))
    ∙ sym (get-insert nat_list_cmp_total (from_entries es) path change q))

-- rows that lack one path and are else the same are their map without it
pub rows_removed : (es fs : Rows) (path : List ℕ)
    → ((q : List ℕ) → lookup (eq_by_cmp byte_order q) fs ≡ cond (eq_by_cmp byte_order path q) None (lookup (eq_by_cmp byte_order q) es))
    → from_entries {R = byte_order} fs ≡ remove (from_entries es) path
rows_removed es fs path h = same _ _ (λ q.
    get_rows fs q ∙ h q
    ∙ ap (λ b. cond b None (lookup (eq_by_cmp byte_order q) es)) ((eq_by_cmp_equiv nat_list_cmp_total).symm path q)
    ∙ ap (cond (eq_by_cmp byte_order q path) None) (sym (get_rows es q))
    ∙ sym (get-remove nat_list_cmp_total (from_entries es) path q))

turned_test : {X : Type 0} (b : Bool) (x y : X) → cond (not b) x y ≡ cond b y x
turned_test true x y = refl
turned_test false x y = refl

-- the rows that a reset doesn't drop are what it leaves
pub rows_reset : (what : ResetWhat) (es : Rows)
    → from_entries {R = byte_order} (filter (λ e. not (drops_path what e.0)) es) ≡ changes_after_reset what (from_entries es)
rows_reset what es = same _ _ (λ q.
    get-from_entries nat_list_cmp_total _ q
    ∙ find-where_key byte_order (λ path. not (drops_path what path)) q (λ x t. ap (λ k. not (drops_path what k)) (sym (same_key q x t))) es
    ∙ turned_test (drops_path what q) _ _
    ∙ sym (get_reset what (from_entries es) q ∙ ap (cond (drops_path what q) None) (get-from_entries nat_list_cmp_total es q)))

-- ---- a reset of changes with one more
module _ (what : ResetWhat) (changes : ChangesValue) (path : List ℕ) (change : Change) where
  dropped_at : (q : List ℕ) (b : Bool) → eq_by_cmp byte_order q path ≡ b → drops_path what path ≡ true
      → cond (drops_path what q) None (cond b (Some change) (get changes q)) ≡ cond (drops_path what q) None (get changes q)
  dropped_at q true e d =
      let here : drops_path what q ≡ true = ap (drops_path what) (same_key q path (tied _ e)) ∙ d in
      ap (λ b. cond b None (Some change)) here ∙ sym (ap (λ b. cond b None (get changes q)) here)
  dropped_at q false e d = refl

  -- one that it drops
  pub reset_dropped : drops_path what path ≡ true → changes_after_reset what (insert changes path change) ≡ changes_after_reset what changes
  reset_dropped d = same _ _ (λ q.
      get_reset what (insert changes path change) q
      ∙ ap (cond (drops_path what q) None) (get-insert nat_list_cmp_total changes path change q)
      ∙ dropped_at q _ refl d
      ∙ sym (get_reset what changes q))

  kept_at : (q : List ℕ) (b : Bool) → eq_by_cmp byte_order q path ≡ b → drops_path what path ≡ false
      → cond (drops_path what q) None (cond b (Some change) (get changes q)) ≡ cond b (Some change) (cond (drops_path what q) None (get changes q))
  kept_at q true e d = ap (λ b. cond b None (Some change)) (ap (drops_path what) (same_key q path (tied _ e)) ∙ d)
  kept_at q false e d = refl

  -- one that it leaves
  pub reset_kept : drops_path what path ≡ false → changes_after_reset what (insert changes path change) ≡ insert (changes_after_reset what changes) path change
  reset_kept d = same _ _ (λ q.
      get_reset what (insert changes path change) q
      ∙ ap (cond (drops_path what q) None) (get-insert nat_list_cmp_total changes path change q)
      ∙ kept_at q _ refl d
      ∙ ap (cond (eq_by_cmp byte_order q path) (Some change)) (sym (get_reset what changes q))
      ∙ sym (get-insert nat_list_cmp_total (changes_after_reset what changes) path change q))

-- how many rows there are
pub len_rows : (es : Rows) → IsStrictlySortedBy byte_order (list_map (λ e. e.0) es) → len (from_entries {R = byte_order} es) ≡ length es
len_rows es h = len-entries (from_entries es) ∙ ap length (entries_rows es h)
