-- The paths of two maps one by one, and the loops of a plain merge over them.
use Rattle.std.proofs.Common.{◌≡◌, ℕ, ◌+◌, ◌<◌, ◌≤◌, ◌||◌, Bool, true, false, cond, List, [], ◌∷◌, ◌++◌, Some, Option, is_some, map, length, ltb, take, get_or}
use Rattle.std.proofs.Common.{append-nil, refl, sym, ap, ◌∙◌}
use Rattle.std.specs.List.{list_any, filter}
use Rattle.std.proofs.lemmas.List.Elements.{filter-append}
use Rattle.std.proofs.lemmas.Map.Views.{Contains-from_any}
use Rattle.std.proofs.lemmas.Cmp.{nat_list_cmp_total}
use Rattle.std.proofs.lemmas.List.Folds.{list_any_more}
use Rattle.std.proofs.lemmas.List.{take_all, take_more, map-append}
use Rattle.std.specs.FinMap.{find, get, entries, insert, empty, get-empty, get-entries, get-insert, keys, contains_key, contains_key-keys}
use Rattle.lake_values.specs.Entry.{EntryValue}
use Rattle.lake_base.specs.Maps.{byte_order, ByteMap}
use Rattle.lake_values.specs.KeyMap.{KeyMapValue, ChangesValue, apply, value_after}
use Rattle.lake_values.specs.Merging.{merged_map, is_conflict, conflicts}
use Rattle.lake_values.specs.declared.entry.Change.{Change}
use Rattle.lake_values.specs.declared.entry.Change.TheVariants.{Put, Delete}
use Rattle.lake_values.specs.declared.commit.Strategy.{Strategy}
use Rattle.lake_values.proofs.KeyMapLemmas.{same, get_apply}
use Rattle.plain_reference.specs.MergeSteps.{Leaves, ArePathsOf, HasPathsToo}
use Rattle.lake_values.proofs.MergingLemmas.{ties, same_path, at_one, value_at, get_merged_by, conflicts_among, one_list}
use Rattle.lake_values.proofs.OrderLemmas.{keys_ascend}

or_swapped : (a b : Bool) → (a || b) ≡ (b || a)
or_swapped true true = refl
or_swapped true false = refl
or_swapped false true = refl
or_swapped false false = refl

pub or_nothing : (b : Bool) → b ≡ (b || false)
or_nothing true = refl
or_nothing false = refl

or_between : (a b c : Bool) → (a || (b || c)) ≡ (b || (a || c))
or_between true true c = refl
or_between true false c = refl
or_between false b c = refl

some_or : {X : Type 0} (b : Bool) (x : X) (other : Option X) → is_some (cond b (Some x) other) ≡ (b || is_some other)
some_or true x other = refl
some_or false x other = refl

-- ---- paths one by one

module _ {X : Type 0} where
  -- whether a path is that of one of the entries
  abbrev pub among : List (List ℕ × X) → List ℕ → Bool
  among items q = list_any (λ item. ties q item.0) items

  found_among : (items : List (List ℕ × X)) (q : List ℕ) → is_some (find byte_order q items) ≡ among items q
  found_among [] q = refl
  found_among (e ∷ items) q = elim (ties q e.0) as (λ b. is_some (cond b (Some e.1) (find byte_order q items)) ≡ (b || among items q)) [
    | true ↦ refl
    | false ↦ found_among items q
  ]

  -- a map's paths are those of its entries
  pub contains_among : (m : ByteMap X) (items : List (List ℕ × X)) → items ≡ entries m → (q : List ℕ) → contains_key m q ≡ among items q
  contains_among m items is q = ap is_some (get-entries m q) ∙ found_among (entries m) q ∙ ap (λ es. among es q) (sym is)

  contains_insert : (m : ByteMap X) (p : List ℕ) (x : X) (q : List ℕ) → contains_key (insert m p x) q ≡ (ties q p || contains_key m q)
  contains_insert m p x q = ap is_some (get-insert nat_list_cmp_total m p x q) ∙ some_or (ties q p) x (get m q)

  among_next : (items : List (List ℕ × X)) (i : ℕ) (item : List ℕ × X) → i < length items → item ≡ get_or items i item
      → (q : List ℕ) → among (take (i + 1) items) q ≡ (ties q item.0 || among (take i items) q)
  among_next items i item lt is q =
      list_any_more (λ e. ties q e.0) items i item lt
      ∙ ap (λ (e : List ℕ × X). among (take i items) q || ties q e.0) (sym is)
      ∙ or_swapped (among (take i items) q) (ties q item.0)

  -- where all are passed
  pub among_all : (items : List (List ℕ × X)) (i : ℕ) → length items ≤ i → (q : List ℕ) → among (take i items) q ≡ among items q
  among_all items i past q = ap (λ es. among es q) (take_all i items past)

-- one more entry's path in a map
pub paths_next : {X Y : Type 0} (old m new : ByteMap Y) (p : List ℕ) (y : Y) (items : List (List ℕ × X)) (i : ℕ) (item : List ℕ × X) → i < length items
    → item ≡ get_or items i item
    → p ≡ item.0 → new ≡ insert m p y
    → (q : List ℕ) → contains_key m q ≡ (contains_key old q || among (take i items) q)
    → contains_key new q ≡ (contains_key old q || among (take (i + 1) items) q)
paths_next old m new p y items i item lt is same puts q so_far =
    ap (λ n. contains_key n q) puts
    ∙ contains_insert m p y q
    ∙ ap (λ b. ties q p || b) so_far
    ∙ or_between (ties q p) (contains_key old q) (among (take i items) q)
    ∙ ap (λ k. contains_key old q || (ties q k || among (take i items) q)) same
    ∙ ap (λ b. contains_key old q || b) (sym (among_next items i item lt is q))

-- all paths of a map's entries are in
pub paths_all : {X Y : Type 0} (old new : ByteMap Y) (m : ByteMap X) (items : List (List ℕ × X)) (i : ℕ) → length items ≤ i → items ≡ entries m
    → (q : List ℕ) → contains_key new q ≡ (contains_key old q || among (take i items) q) → contains_key new q ≡ (contains_key old q || contains_key m q)
paths_all old new m items i past is q so_far =
    so_far ∙ ap (λ b. contains_key old q || b) (among_all items i past q ∙ sym (contains_among m items is q))

-- the paths of two maps, put into nothing one after the other
pub paths_both : (base source : KeyMapValue) (first second : ChangesValue) → HasPathsToo empty base first → HasPathsToo first source second
    → ArePathsOf base source second
paths_both base source first second one two path =
    two path
    ∙ ap (λ b. b || contains_key source path) (one path ∙ ap (λ v. is_some v || contains_key base path) (get-empty byte_order path))

-- ---- the loop of a merge

pub nothing_said : (changes : ChangesValue) (dest : KeyMapValue) → changes ≡ empty → (q : List ℕ) → value_after (get changes q) (get dest q) ≡ get dest q
nothing_said changes dest e q = ap (λ m. value_after (get m q) (get dest q)) e ∙ ap (λ c. value_after c (get dest q)) (get-empty byte_order q)

said_given : (b : Bool) (c : Change) (value : Option EntryValue) (old : Option Change) (had : Option EntryValue) → Leaves c value
    → value_after (cond b (Some c) old) had ≡ cond b value (value_after old had)
said_given true (Put entry) value old had gives = sym gives
said_given true Delete value old had gives = sym gives
said_given false c value old had gives = refl

module _ (strategy : Strategy) (base source dest : KeyMapValue) {X : Type 0} where
  -- what the changes say at a path is the merged value where the path is one of those passed, and else what was there
  abbrev pub Merges : ChangesValue → List (List ℕ × X) → Type 0
  Merges changes items = (q : List ℕ) → value_after (get changes q) (get dest q) ≡ cond (among items q) (value_at strategy base source dest q) (get dest q)

  pub merges_next : (changes new : ChangesValue) (p : List ℕ) (c : Change) (items : List (List ℕ × X)) (i : ℕ) (item : List ℕ × X) → i < length items
      → item ≡ get_or items i item
      → p ≡ item.0 → new ≡ insert changes p c → Leaves c (value_at strategy base source dest item.0) → Merges changes (take i items)
      → Merges new (take (i + 1) items)
  merges_next changes new p c items i item lt is same puts gives so_far q =
      let value = value_at strategy base source dest in
      let had = get dest q in
      ap (λ n. value_after (get n q) had) puts
      ∙ ap (λ v. value_after v had) (get-insert nat_list_cmp_total changes p c q)
      ∙ ap (λ k. value_after (cond (ties q k) (Some c) (get changes q)) had) same
      ∙ said_given (ties q item.0) c (value item.0) (get changes q) had gives
      ∙ ap (cond (ties q item.0) (value item.0)) (so_far q)
      ∙ at_one value q item.0 (among (take i items) q) had (ties q item.0) refl
      ∙ ap (λ b. cond b (value q) had) (sym (among_next items i item lt is q))

-- changes that merge at all paths of base and source make the merged map
pub merges_all : (strategy : Strategy) (base source dest : KeyMapValue) (changes paths : ChangesValue) (items : List (List ℕ × Change)) (i : ℕ)
    → length items ≤ i → items ≡ entries paths
    → ArePathsOf base source paths → Merges strategy base source dest changes (take i items) → apply changes dest ≡ merged_map strategy base source dest
merges_all strategy base source dest changes paths items i past is of all = same _ _ (λ q.
    get_apply changes dest q
    ∙ all q
    ∙ ap (λ b. cond b (value_at strategy base source dest q) (get dest q)) (among_all items i past q ∙ sym (contains_among paths items is q) ∙ of q)
    ∙ sym (get_merged_by strategy base source dest q))

-- ---- the paths that conflict

module _ (base source dest : KeyMapValue) where
  -- the conflicting paths of entries
  abbrev pub conflicting : {X : Type 0} → List (List ℕ × X) → List (List ℕ)
  conflicting items = filter (is_conflict base source dest) (map (λ item. item.0) items)

  kept_one : (b : Bool) (p : List ℕ) (so_far : List (List ℕ)) → (pushed : List (List ℕ)) → (b ≡ true → pushed ≡ so_far ++ p ∷ [])
      → (b ≡ false → pushed ≡ so_far) → pushed ≡ so_far ++ cond b (p ∷ []) []
  kept_one true p so_far pushed kept dropped = kept refl
  kept_one false p so_far pushed kept dropped = dropped refl ∙ sym (append-nil so_far)

  -- one more entry's path, where it conflicts
  pub conflicting_next : {X : Type 0} (items : List (List ℕ × X)) (i : ℕ) (item : List ℕ × X) → i < length items → item ≡ get_or items i item
      → (paths : List (List ℕ)) → (is_conflict base source dest item.0 ≡ true → paths ≡ conflicting (take i items) ++ item.0 ∷ [])
      → (is_conflict base source dest item.0 ≡ false → paths ≡ conflicting (take i items))
      → paths ≡ conflicting (take (i + 1) items)
  conflicting_next {X = X} items i item lt is paths kept dropped =
      kept_one (is_conflict base source dest item.0) item.0 (conflicting (take i items)) paths kept dropped
      ∙ sym (
      ap conflicting (take_more items i item lt ∙ ap (λ e. take i items ++ e ∷ []) (sym is))
      ∙ ap (filter (is_conflict base source dest)) (map-append (λ (e : List ℕ × X). e.0) (take i items) (item ∷ []))
      ∙ filter-append (is_conflict base source dest) (map (λ (e : List ℕ × X). e.0) (take i items)) (item.0 ∷ []))

  -- the conflicting paths among those of base and source are all that conflict
  pub conflicts_all : (paths : ChangesValue) (items : List (List ℕ × Change)) (i : ℕ) → length items ≤ i → items ≡ entries paths → ArePathsOf base source paths
      → (at : List (List ℕ)) → at ≡ conflicting (take i items) → at ≡ conflicts base source dest
  conflicts_all paths items i past is of at so_far =
      let all : at ≡ filter (is_conflict base source dest) (keys paths) = so_far ∙ ap conflicting (take_all i items past ∙ is) in
      all ∙ one_list base source dest (filter (is_conflict base source dest) (keys paths))
      (conflicts_among base source dest (keys paths) (keys_ascend byte_order paths)
      (λ q t. Contains-from_any same_path q (keys paths) (sym (contains_key-keys paths q) ∙ of q ∙ t)))

  -- where none of the paths of base and source conflicts, no path does
  pub no_conflict : (paths : ChangesValue) (items : List (List ℕ × Change)) (i : ℕ) → length items ≤ i → items ≡ entries paths → ArePathsOf base source paths
      → [] ≡ conflicting (take i items) → false ≡ ltb 0 (length (conflicts base source dest))
  no_conflict paths items i past is of none = ap (λ l. ltb 0 (length l)) (conflicts_all paths items i past is of [] none)
