-- The changes of rows still to come, path by path.
use Rattle.std.proofs.Common.{◌≡◌, ℕ, T, Bool, true, false, cond, List, [], ◌∷◌, ◌++◌, Some, None, Option, sym, ap, subst, refl, ◌∙◌}
use Rattle.std.specs.FinMap.{find, get, entries, from_sorted, entries_sorted, entries-from_sorted, get-from_sorted, get-entries}
use Rattle.std.specs.FinMap.Entries.{below_all}
use Rattle.std.specs.Ordering.{is_lt, is_eq, eq_by_cmp}
use Rattle.std.specs.declared.cmp.Ordering.{Ordering}
use Rattle.std.specs.declared.cmp.Ordering.TheVariants.{Less, Equal, Greater}
use Rattle.std.proofs.lemmas.Cmp.{nat_list_cmp_total, tied_itself}
use Rattle.lake_base.specs.Maps.{byte_order, HasAscendingKeys}
use Rattle.lake_base.proofs.MapsLemmas.{both, same_key, turned, head_below, less_more, same_again}
use Rattle.lake_values.specs.Entry.{EntryValue}
use Rattle.lake_values.specs.Join.{rows_at}
use Rattle.lake_values.specs.KeyMap.{KeyMapValue, change_to, change_between, differences}
use Rattle.lake_values.specs.Merging.{merged_map, merged_value}
use Rattle.lake_values.specs.declared.entry.Change.{Change}
use Rattle.lake_values.specs.declared.commit.Strategy.{Strategy}
use Rattle.lake_values.proofs.CursorLemmas.{lt_is}
use Rattle.lake_values.proofs.JoinLemmas.{find_rows, rows_ascend}
use Rattle.lake_values.proofs.KeyMapLemmas.{same, same_as_itself, get_differences}
use Rattle.lake_values.proofs.MergingLemmas.{get_merged}
use Rattle.key_merge.specs.MergeWalk.{SidesValue, FrontValue, Ascend, sides_of, sides_above, front_at, change_at, changes_of}
use Rattle.key_merge.proofs.RowsLemmas.{find_above, ascends_above}
use Rattle.key_merge.proofs.FrontLemmas.{IsFront, none_below, nothing_below}

-- two lists that ascend and in which the same is found are one
same_rows : {X : Type 0} (xs ys : List (List ℕ × X)) → HasAscendingKeys xs → HasAscendingKeys ys
    → ((q : List ℕ) → find byte_order q xs ≡ find byte_order q ys) → xs ≡ ys
same_rows xs ys h k e =
    sym (entries-from_sorted byte_order xs h)
    ∙ ap entries (same _ _ (λ q. get-from_sorted byte_order xs q h ∙ e q ∙ sym (get-from_sorted byte_order ys q k)))
    ∙ entries-from_sorted byte_order ys k

-- a value that stays is no change
pub stays : (value : Option EntryValue) → change_between value value ≡ None
stays value = ap (λ b. cond b None (Some (change_to value))) (same_as_itself value)

-- where neither base nor source has anything, nothing changes
nothing_changes : (strategy : Strategy) (dest : Option EntryValue) → change_between (merged_value strategy None None dest) dest ≡ None
nothing_changes strategy dest = stays dest

get_change : (strategy : Strategy) (base source dest : KeyMapValue) (q : List ℕ)
    → find byte_order q (entries (differences (merged_map strategy base source dest) dest))
    ≡ change_between (merged_value strategy (get base q) (get source q) (get dest q)) (get dest q)
get_change strategy base source dest q =
    sym (get-entries (differences (merged_map strategy base source dest) dest) q)
    ∙ get_differences (merged_map strategy base source dest) dest q
    ∙ ap (λ v. change_between v (get dest q)) (get_merged strategy base source dest q)

module _ (strategy : Strategy) where
  -- what the changes have at a path
  abbrev pub change_of : Option EntryValue → Option EntryValue → Option EntryValue → Option Change
  change_of base source dest = change_between (merged_value strategy base source dest) dest

  pub found_change : (sides : SidesValue) → Ascend sides → (q : List ℕ) → find byte_order q (changes_of strategy sides) ≡ change_at strategy (front_at sides q)
  found_change sides h q =
      get_change strategy (from_sorted sides.base) (from_sorted sides.source) (from_sorted sides.dest) q
      ∙ (λ i. change_of (get-from_sorted byte_order sides.base q h.base i) (get-from_sorted byte_order sides.source q h.source i)
      (get-from_sorted byte_order sides.dest q h.dest i))

  -- the values at a path, of rows above another
  above_by : (b : Bool) (base source dest : Option EntryValue)
      → change_of (cond b base None) (cond b source None) (cond b dest None) ≡ cond b (change_of base source dest) None
  above_by true base source dest = refl
  above_by false base source dest = nothing_changes strategy None

  found_above : (sides : SidesValue) → Ascend sides → (path q : List ℕ)
      → find byte_order q (changes_of strategy (sides_above path sides)) ≡ cond (is_lt (byte_order path q)) (change_at strategy (front_at sides q)) None
  found_above sides h path q =
      found_change (sides_above path sides)
      (record { base = ascends_above path sides.base h.base; source = ascends_above path sides.source h.source; dest = ascends_above path sides.dest h.dest }) q
      ∙ (λ i. change_of (find_above path q sides.base i) (find_above path q sides.source i) (find_above path q sides.dest i))
      ∙ above_by (is_lt (byte_order path q)) (find byte_order q sides.base) (find byte_order q sides.source) (find byte_order q sides.dest)

-- a path is below rows in which nothing is found at it or below
below_found : {X : Type 0} (path : List ℕ) (rows : List (List ℕ × X)) → HasAscendingKeys rows
    → ((q : List ℕ) → is_lt (byte_order path q) ≡ false → find byte_order q rows ≡ None) → T (below_all byte_order path rows)
below_found path [] h none = tt
below_found path (row ∷ rows) h none = by (is_lt (byte_order path row.0)) refl
  where
    by : (b : Bool) → is_lt (byte_order path row.0) ≡ b → T (below_all byte_order path (row ∷ rows))
    by true lt = both _ _ (subst T (sym lt) tt) (less_more path row.0 rows (lt_is _ lt) (head_below row rows h))
    by false never =
        let found : Some row.1 ≡ None =
        sym (ap (λ o. cond (is_eq o) (Some row.1) (find byte_order row.0 rows)) (tied_itself nat_list_cmp_total row.0)) ∙ none row.0 never in
        absurd cc

-- the values at a path that is passed are told by how it compares with the front
at_path : {X : Type 0} (front q : List ℕ) (here there : Option X) (o : Ordering) → byte_order q front ≡ o → (o ≡ Equal → there ≡ here)
    → (o ≡ Less → there ≡ None)
    → there ≡ cond (is_eq o) here (cond (is_lt (byte_order front q)) there None)
at_path front q here there Less e same none = none refl ∙ sym (ap (λ o. cond (is_lt o) there None) (turned q front Less e))
at_path front q here there Equal e same none = same refl
at_path front q here there Greater e same none = sym (ap (λ o. cond (is_lt o) there None) (turned q front Greater e))

module _ (strategy : Strategy) (sides : SidesValue) (front : FrontValue) where
  change_here : IsFront sides front → (q : List ℕ) → byte_order q front.path ≡ Equal → change_at strategy (front_at sides q) ≡ change_at strategy front
  change_here is q tie = ap (λ k. change_at strategy (front_at sides k)) (same_key q front.path tie) ∙ ap (change_at strategy) (sym is.values)

  change_below : Ascend sides → IsFront sides front → (q : List ℕ) → byte_order q front.path ≡ Less → change_at strategy (front_at sides q) ≡ None
  change_below h is q lt =
      let two = none_below sides.base sides.source front.path is.least in
      let base = nothing_below q front.path sides.base h.base two.0 lt in
      let source = nothing_below q front.path sides.source h.source two.1 lt in
      (λ i. change_of strategy (base i) (source i) (find byte_order q sides.dest)) ∙ nothing_changes strategy (find byte_order q sides.dest)

-- The changes at a front are the one at its path, where there is one, and those of the rows above it.
pub changes_next : (strategy : Strategy) (sides : SidesValue) (front : FrontValue) → Ascend sides → IsFront sides front
    → changes_of strategy sides ≡ rows_at front.path (change_at strategy front) ++ changes_of strategy (sides_above front.path sides)
changes_next strategy sides front h is =
    let path : List ℕ = front.path in
    let change : Option Change = change_at strategy front in
    let there : List ℕ → Option Change = λ q. change_at strategy (front_at sides q) in
    let rest : List (List ℕ × Change) = changes_of strategy (sides_above path sides) in
    let low : T (below_all byte_order path rest) =
    below_found path rest (entries_sorted _) (λ q never. found_above strategy sides h path q ∙ ap (λ b. cond b (there q) None) never) in
    same_rows (changes_of strategy sides) (rows_at path change ++ rest) (entries_sorted _) (rows_ascend path change rest low (entries_sorted _))
    (λ q.
    found_change strategy sides h q
    ∙ at_path path q change (there q) _ refl (change_here strategy sides front is q) (change_below strategy sides front h is q)
    ∙ ap (cond (eq_by_cmp byte_order q path) change) (sym (found_above strategy sides h path q))
    ∙ sym (find_rows q path change rest low))

-- no changes are left where base and source have no rows
pub no_changes : (strategy : Strategy) (sides : SidesValue) → sides.base ≡ [] → sides.source ≡ [] → changes_of strategy sides ≡ []
no_changes strategy sides no_base no_source =
    let base : (q : List ℕ) → get (from_sorted {R = byte_order} sides.base) q ≡ None =
    λ q. ap (λ rows. get (from_sorted {R = byte_order} rows) q) no_base ∙ get-from_sorted byte_order [] q tt in
    let source : (q : List ℕ) → get (from_sorted {R = byte_order} sides.source) q ≡ None =
    λ q. ap (λ rows. get (from_sorted {R = byte_order} rows) q) no_source ∙ get-from_sorted byte_order [] q tt in
    same_rows (changes_of strategy sides) [] (entries_sorted _) tt
    (λ q.
    get_change strategy (from_sorted sides.base) (from_sorted sides.source) (from_sorted sides.dest) q
    ∙ (λ i. change_of strategy (base q i) (source q i) (get (from_sorted {R = byte_order} sides.dest) q))
    ∙ nothing_changes strategy (get (from_sorted {R = byte_order} sides.dest) q))

-- all rows of three maps give all changes
pub all_changes : (strategy : Strategy) (base source dest : KeyMapValue)
    → changes_of strategy (sides_of base source dest) ≡ entries (differences (merged_map strategy base source dest) dest)
all_changes strategy base source dest =
    λ i. entries (differences (merged_map strategy (same_again base i) (same_again source i) (same_again dest i)) (same_again dest i))
