-- What a merged map has at each path, and the paths that conflict.
use Rattle.std.proofs.Common.{arith, ◌≡◌, ℕ, ◌+◌, ◌||◌, Bool, true, false, cond, List, [], ◌∷◌, ◌++◌, Some, None, Option, is_some, map, length, ltb, refl, sym}
use Rattle.std.proofs.Common.{ap, ◌∙◌}
use Rattle.std.specs.List.{Contains, list_any, filter}
use Rattle.std.specs.FinMap.Entries.{is_some-find}
use Rattle.std.proofs.lemmas.Bool.{lt-ltb}
use Rattle.std.proofs.lemmas.List.Kept.{IsStrictlySortedBy-filter}
use Rattle.std.proofs.lemmas.Map.Views.{Contains-from_any}
use Rattle.std.specs.Ordering.{eq_by_cmp}
use Rattle.std.proofs.lemmas.Cmp.{nat_list_cmp_total}
use Rattle.std.proofs.lemmas.List.Folds.{list_any-append}
use Rattle.std.proofs.lemmas.List.{map-append}
use Rattle.std.specs.FinMap.{get, entries, from_entries, get-from_entries, get-insert, get-remove, keys, contains_key, contains_key-keys}
use Rattle.lake_values.specs.Entry.{EntryValue}
use Rattle.lake_base.specs.Maps.{byte_order, IsAscending}
use Rattle.lake_values.specs.KeyMap.{KeyMapValue}
use Rattle.lake_values.specs.Merging.{merged_map, merged_map_at, merged_value, map_with, side_of, is_neither, is_conflict, paths_of, conflicts, is_refused}
use Rattle.lake_values.specs.Merging.{IsConflict, AreConflicts}
use denote.Enum.Bare.{sameb}
use Rattle.lake_values.specs.contracts.merge.Side.{the_type}
use Rattle.lake_values.specs.declared.merge.Side.{Side}
use Rattle.lake_values.specs.declared.merge.Side.TheVariants.{Source, Destination, Neither}
use Rattle.lake_values.specs.declared.commit.Strategy.{Strategy}
use Rattle.lake_values.specs.declared.commit.Strategy.TheVariants.{Refuse, SourceWins, DestWins}
use Rattle.lake_base.proofs.MapsLemmas.{same_key, tied}
use Rattle.lake_values.proofs.OrderLemmas.{Contains-filter, Contains-from_filter, Contains-first, Contains-nothing, keys_ascend, same_ascending}

-- whether paths are one
abbrev pub ties : List ℕ → List ℕ → Bool
ties = eq_by_cmp byte_order

-- paths that tie are one
pub same_path : (q p : List ℕ) → ties q p ≡ true → q ≡ p
same_path q p e = same_key q p (tied _ e)

-- ---- the merged map

get_with_value : (p : List ℕ) (value : Option EntryValue) (map : KeyMapValue) (q : List ℕ) → get (map_with p value map) q ≡ cond (ties q p) value (get map q)
get_with_value p (Some entry) map q = get-insert nat_list_cmp_total map p entry q
get_with_value p None map q = get-remove nat_list_cmp_total map p q

-- a value that depends on the path, put at one of the paths that tie
pub at_one : {X : Type 0} (value : List ℕ → X) (q p : List ℕ) (among : Bool) (other : X) → (b : Bool) → ties q p ≡ b
    → cond b (value p) (cond among (value q) other) ≡ cond (b || among) (value q) other
at_one value q p among other true e = ap value (sym (same_path q p e))
at_one value q p among other false e = refl

-- whether a path is one of the base's or the source's
abbrev pub is_path : KeyMapValue → KeyMapValue → List ℕ → Bool
is_path base source q = contains_key base q || contains_key source q

paths_any : (base source : KeyMapValue) (q : List ℕ) → list_any (ties q) (keys base ++ keys source) ≡ is_path base source q
paths_any base source q =
    list_any-append (ties q) (keys base) (keys source)
    ∙ ap (λ b. b || list_any (ties q) (keys source)) (sym (contains_key-keys base q))
    ∙ ap (λ b. contains_key base q || b) (sym (contains_key-keys source q))

module _ (strategy : Strategy) (base source dest : KeyMapValue) where
  -- the merged value at a path
  abbrev pub value_at : List ℕ → Option EntryValue
  value_at path = merged_value strategy (get base path) (get source path) (get dest path)

  get_merged_at : (paths : List (List ℕ)) (q : List ℕ)
      → get (merged_map_at strategy base source dest paths) q ≡ cond (list_any (ties q) paths) (value_at q) (get dest q)
  get_merged_at [] q = refl
  get_merged_at (p ∷ paths) q =
      get_with_value p (value_at p) (merged_map_at strategy base source dest paths) q
      ∙ ap (cond (ties q p) (value_at p)) (get_merged_at paths q)
      ∙ at_one value_at q p (list_any (ties q) paths) (get dest q) (ties q p) refl

  -- the merged map by base's and source's paths
  pub get_merged_by : (q : List ℕ) → get (merged_map strategy base source dest) q ≡ cond (is_path base source q) (value_at q) (get dest q)
  unfolding merged_map
  get_merged_by q = get_merged_at (keys base ++ keys source) q ∙ ap (λ b. cond b (value_at q) (get dest q)) (paths_any base source q)

-- where neither base nor source has anything, the destination's value is the merged one
nothing_changed : (strategy : Strategy) (base source dest : Option EntryValue)
    → cond (is_some base || is_some source) (merged_value strategy base source dest) dest ≡ merged_value strategy base source dest
nothing_changed strategy None None dest = refl
nothing_changed strategy (Some x) source dest = refl
nothing_changed strategy None (Some y) dest = refl

-- the merged map has the merged value at each path
pub get_merged : (strategy : Strategy) (base source dest : KeyMapValue) (q : List ℕ)
    → get (merged_map strategy base source dest) q ≡ merged_value strategy (get base q) (get source q) (get dest q)
get_merged strategy base source dest q = get_merged_by strategy base source dest q ∙ nothing_changed strategy (get base q) (get source q) (get dest q)

-- ---- the paths that conflict

-- what a test against Neither tells
pub told_neither : (side : Side) → sameb the_type side Neither ≡ is_neither side
told_neither Source = refl
told_neither Destination = refl
told_neither Neither = refl

pub neither : (side : Side) → is_neither side ≡ true → side ≡ Neither
neither Source e = cc
neither Destination e = cc
neither Neither e = refl

-- a path that conflicts is one of the base's or of the source's
pub conflict_is_path : (was is other : Option EntryValue) → side_of was is other ≡ Neither → (is_some was || is_some is) ≡ true
conflict_is_path None None other e = cc
conflict_is_path (Some x) is other e = refl
conflict_is_path None (Some y) other e = refl

-- one of two maps' paths is one of the first's or the second's
paths_has : (base source : KeyMapValue) (q : List ℕ) → list_any (ties q) (paths_of base source) ≡ is_path base source q
unfolding paths_of
paths_has base source q =
    sym (contains_key-keys (from_entries {R = byte_order} (entries base ++ entries source)) q)
    ∙ ap is_some (get-from_entries nat_list_cmp_total (entries base ++ entries source) q)
    ∙ is_some-find byte_order q (entries base ++ entries source)
    ∙ ap (list_any (ties q)) (map-append (λ (e : List ℕ × EntryValue). e.0) (entries base) (entries source))
    ∙ paths_any base source q

module _ (base source dest : KeyMapValue) where
  -- of paths that ascend, and that each path of base and source is among, those that conflict
  pub conflicts_among : (paths : List (List ℕ)) → IsAscending paths → ((q : List ℕ) → (contains_key base q || contains_key source q) ≡ true → Contains paths q)
      → AreConflicts base source dest (filter (is_conflict base source dest) paths)
  conflicts_among paths ascend has = record {
    ascending = IsStrictlySortedBy-filter byte_order (is_conflict base source dest) paths ascend;
    all = λ q. (
      λ within. neither _ (Contains-from_filter (is_conflict base source dest) paths q within).1,
      λ conflict. Contains-filter (is_conflict base source dest) paths q (has q (conflict_is_path (get base q) (get source q) (get dest q) conflict))
          (ap is_neither conflict),
    );
  }

  -- the list of conflicts is what is meant
  pub are_conflicts : AreConflicts base source dest (conflicts base source dest)
  unfolding conflicts paths_of
  are_conflicts =
      conflicts_among (paths_of base source) (keys_ascend byte_order (from_entries (entries base ++ entries source)))
      (λ q t. Contains-from_any same_path q (paths_of base source) (paths_has base source q ∙ t))

  -- and no other list is
  pub one_list : (paths : List (List ℕ)) → AreConflicts base source dest paths → paths ≡ conflicts base source dest
  one_list paths are =
      same_ascending nat_list_cmp_total paths (conflicts base source dest) are.ascending are_conflicts.ascending
      (λ q within. (are_conflicts.all q).1 ((are.all q).0 within))
      (λ q within. (are.all q).1 ((are_conflicts.all q).0 within))

  has_some : {X : Type 0} (xs : List X) (x : X) → Contains xs x → true ≡ ltb 0 (length xs)
  has_some [] x within = absurd (Contains-nothing x within)
  has_some (y ∷ xs) x within = sym (lt-ltb 0 (length (y ∷ xs)) (omega arith))

  some_has : {X : Type 0} (xs : List X) → ltb 0 (length xs) ≡ true → (x : X) × Contains xs x
  some_has [] t = cc
  some_has (y ∷ xs) t = (y, Contains-first y xs)

  -- where a path conflicts, the list has it
  pub some_conflict : (path : List ℕ) → IsConflict base source dest path → true ≡ ltb 0 (length (conflicts base source dest))
  some_conflict path conflict = has_some (conflicts base source dest) path ((are_conflicts.all path).1 conflict)

  pub conflict_of_some : ltb 0 (length (conflicts base source dest)) ≡ true → (path : List ℕ) × IsConflict base source dest path
  conflict_of_some t = let some = some_has (conflicts base source dest) t in (some.0, (are_conflicts.all some.0).0 some.1)

  pub refused_from : (strategy : Strategy) → is_refused strategy base source dest ≡ true
      → (strategy ≡ Refuse) × ((path : List ℕ) × IsConflict base source dest path)
  refused_from Refuse t = (refl, conflict_of_some t)
  refused_from SourceWins t = cc
  refused_from DestWins t = cc

  pub refused_to : (strategy : Strategy) → (strategy ≡ Refuse) × ((path : List ℕ) × IsConflict base source dest path)
      → is_refused strategy base source dest ≡ true
  refused_to Refuse (e, some) = sym (some_conflict some.0 some.1)
  refused_to SourceWins (e, some) = cc
  refused_to DestWins (e, some) = cc
