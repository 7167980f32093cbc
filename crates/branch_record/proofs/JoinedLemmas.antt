-- Changes of layers as one: what they say of a path, the first of them, and what is kept of them by its path.
use Rattle.std.proofs.Common.{◌≡◌, ℕ, T, Bool, true, false, cond, Option, Some, None, MatchOption, List, [], ◌∷◌, ◌++◌, refl, sym, ap, subst, ◌∙◌, drop}
use Rattle.std.proofs.Common.{map as list_map, ◌+◌, ◌<◌, ◌≤◌, length, take, set, get_or, arith}
use Rattle.std.proofs.lemmas.List.{drop-drop, drop-set-lt, get_or-drop, length-set, map_more, take_all, take_more_set}
use Rattle.std.specs.Borrow.{Bor}
use Rattle.std.specs.Cmp.{tied_itself}
use Rattle.std.specs.List.{filter, AllByRecursion}
use Rattle.std.specs.Option.{option_or}
use Rattle.std.specs.Ordering.{is_lt, is_eq}
use Rattle.std.specs.declared.cmp.Ordering.{Ordering}
use Rattle.std.specs.declared.cmp.Ordering.TheVariants.{Less, Equal, Greater}
use Rattle.std.specs.FinMap.{entries, entries_sorted, find, from_sorted, get, get-empty, get-entries, get-from_sorted}
use Rattle.std.specs.FinMap.{slice_cmp-IsAntisymmetric, nat_cmp-IsAntisymmetric}
use Rattle.std.specs.FinMap.Entries.{below_all, find-where_key, is_sorted-where_key, same_entries}
use Rattle.std.proofs.lemmas.Cmp.{nat_list_cmp_total}
use Rattle.std.proofs.lemmas.Option.{same_Some}
use Rattle.lake_base.specs.Maps.{byte_order, HasAscendingKeys}
use Rattle.lake_base.proofs.MapsLemmas.{both, find_none, head_below, less_more, same_again, same_key, turned}
use Rattle.lake_values.specs.KeyMap.{over}
use Rattle.lake_values.specs.declared.entry.Change.{Change}
use Rattle.lake_values.proofs.CursorLemmas.{below_down, lt_is}
use Rattle.lake_values.proofs.KeyMapLemmas.{get_over}
use Rattle.branch_record.specs.Joined.{AreAscending, HasNoneBelow, IsFirst, Layer, changes_joined, earlier_change, layers_under, rows_joined, said_by_layers}
use Rattle.branch_record.specs.Layers.{begins_below, rows_above, rows_below}
use Rattle.branch_record.specs.Overlay.{layers_of}
use Rattle.branch_record.specs.Tokens.{TokenMap, changes_under}
use Rattle.branch_record.proofs.CursorLemmas.{not_below_itself}
use Rattle.branch_record.proofs.LayerCursorLemmas.{above_first, first_above, kept_twice, none_below}

-- what joined layers have at a path is what they say of it
get_joined : (layers : List Layer) → AreAscending layers → (q : List ℕ) → get (changes_joined layers) q ≡ said_by_layers layers q
unfolding changes_joined
get_joined [] h q = get-empty byte_order q
get_joined (newest ∷ older) h q =
    get_over (from_sorted newest) (changes_joined older) q ∙ (λ i. option_or (get-from_sorted byte_order newest q h.0 i) (get_joined older h.1 q i))

-- ---- what is kept by its path
module _ (p : List ℕ → Bool) where
  abbrev kept : Layer → Layer
  kept layer = filter (λ row. p row.0) layer

  find_kept : (layer : Layer) (q : List ℕ) → find byte_order q (kept layer) ≡ cond (p q) (find byte_order q layer) None
  find_kept layer q = find-where_key byte_order p q (λ x tie. ap p (sym (same_key q x tie))) layer

  split : (b : Bool) (o r : Option Change) → option_or (cond b o None) (cond b r None) ≡ cond b (option_or o r) None
  split true o r = refl
  split false o r = refl

  either : (b : Bool) (o : Option Change) → o ≡ cond b o o
  either true o = refl
  either false o = refl

  said_kept : (layers : List Layer) (q : List ℕ) → said_by_layers (list_map kept layers) q ≡ cond (p q) (said_by_layers layers q) None
  said_kept [] q = either (p q) None
  said_kept (newest ∷ older) q =
      (λ i. option_or (find_kept newest q i) (said_kept older q i)) ∙ split (p q) (find byte_order q newest) (said_by_layers older q)

  pub kept_ascend : (layers : List Layer) → AreAscending layers → AreAscending (list_map kept layers)
  kept_ascend [] h = tt
  kept_ascend (newest ∷ older) h = (is_sorted-where_key byte_order p newest h.0, kept_ascend older h.1)

  -- it is kept of each layer
  pub rows_kept : (layers : List Layer) → AreAscending layers → rows_joined (list_map kept layers) ≡ kept (rows_joined layers)
  rows_kept layers h =
      same_entries byte_order nat_list_cmp_total (slice_cmp-IsAntisymmetric nat_cmp-IsAntisymmetric) _ _
      (entries_sorted (changes_joined (list_map kept layers)))
      (is_sorted-where_key byte_order p (rows_joined layers) (entries_sorted (changes_joined layers))) (λ q.
      sym (get-entries (changes_joined (list_map kept layers)) q)
      ∙ get_joined (list_map kept layers) (kept_ascend layers h) q
      ∙ said_kept layers q
      ∙ ap (λ o. cond (p q) o None) (sym (get_joined layers h q) ∙ get-entries (changes_joined layers) q)
      ∙ sym (find_kept (rows_joined layers) q))

-- ---- layers with no changes
none_said : (layers : List Layer) → AllByRecursion (λ layer. layer ≡ []) layers → (q : List ℕ) → said_by_layers layers q ≡ None
none_said [] h q = refl
none_said (newest ∷ older) h q = ap (λ l. option_or (find byte_order q l) (said_by_layers older q)) h.0 ∙ none_said older h.1 q

none_ascend : (layers : List Layer) → AllByRecursion (λ layer. layer ≡ []) layers → AreAscending layers
none_ascend [] h = tt
none_ascend (newest ∷ older) h = (subst HasAscendingKeys (sym h.0) tt, none_ascend older h.1)

pub none_joined : (layers : List Layer) → AllByRecursion (λ layer. layer ≡ []) layers → rows_joined layers ≡ []
none_joined layers h =
    same_entries byte_order nat_list_cmp_total (slice_cmp-IsAntisymmetric nat_cmp-IsAntisymmetric) _ _ (entries_sorted (changes_joined layers)) tt (λ q.
    sym (get-entries (changes_joined layers) q) ∙ get_joined layers (none_ascend layers h) q ∙ none_said layers h q)

-- ---- the first change
none_left : (path : List ℕ) (layers : List Layer) → HasNoneBelow path layers → AllByRecursion (λ layer. layer ≡ []) (list_map (rows_below path) layers)
none_left path [] h = tt
none_left path (newest ∷ older) h = (h.0, none_left path older h.1)

-- rows none of which stands below a path that has a change
from_path : (path : List ℕ) (change : Change) (rows : Layer) → HasAscendingKeys rows → rows_below path rows ≡ [] → find byte_order path rows ≡ Some change
    → rows ≡ (path, change) ∷ rows_above path rows
from_path path change [] h none is = absurd cc
from_path path change (row ∷ rows) h none is = by (byte_order path row.0) refl
  where
    by : (o : Ordering) → byte_order path row.0 ≡ o → row ∷ rows ≡ (path, change) ∷ rows_above path (row ∷ rows)
    by Less lt =
        let low : T (below_all byte_order path (row ∷ rows)) =
        both _ _ (subst (λ o. T (is_lt o)) (sym lt) tt) (less_more path row.0 rows lt (head_below row rows h)) in
        let wrong : None ≡ Some change = sym (find_none path (row ∷ rows) low) ∙ is in
        absurd cc
    by Equal tie =
        let found : Some row.1 ≡ Some change = sym (ap (λ o. cond (is_eq o) (Some row.1) (find byte_order path rows)) tie) ∙ is in
        λ i. (sym (same_key path row.0 tie) i, same_Some _ _ found i) ∷ sym (above_first path row rows h none false (ap is_lt tie)) i
    by Greater gt =
        let wrong : true ≡ false = sym (ap is_lt (turned path row.0 Greater gt)) ∙ first_above path row rows none in
        absurd cc

-- the first change, and what is above it in each layer
pub first_joined : (layers : List Layer) (path : List ℕ) (change : Change) → AreAscending layers → IsFirst layers path change
    → rows_joined layers ≡ (path, change) ∷ rows_joined (list_map (rows_above path) layers)
first_joined layers path change h first =
    from_path path change (rows_joined layers) (entries_sorted (changes_joined layers))
    (sym (rows_kept (λ key. is_lt (byte_order key path)) layers h) ∙ none_joined (list_map (rows_below path) layers) (none_left path layers first.least))
    (sym (get-entries (changes_joined layers) path) ∙ get_joined layers h path ∙ first.newest)
    ∙ ap (λ l. (path, change) ∷ l) (sym (rows_kept (λ key. is_lt (byte_order path key)) layers h))

-- ---- one layer more
all_more : (P : Layer → Type 0) (front : List Layer) (layer : Layer) → AllByRecursion P front → P layer → AllByRecursion P (front ++ (layer ∷ []))
all_more P [] layer h last = (last, tt)
all_more P (newest ∷ older) layer h last = (h.0, all_more P older layer h.1 last)

said_more : (front : List Layer) (layer : Layer) (q : List ℕ)
    → said_by_layers (front ++ (layer ∷ [])) q ≡ option_or (said_by_layers front q) (find byte_order q layer)
said_more [] layer q = or_none (find byte_order q layer)
  where
    or_none : (o : Option Change) → option_or o None ≡ o
    or_none None = refl
    or_none (Some x) = refl
said_more (newest ∷ older) layer q =
    ap (option_or (find byte_order q newest)) (said_more older layer q) ∙ again (find byte_order q newest) (said_by_layers older q) (find byte_order q layer)
  where
    again : (a b c : Option Change) → option_or a (option_or b c) ≡ option_or (option_or a b) c
    again None b c = refl
    again (Some x) b c = refl

-- what has none below a path has none below and at a lesser one
none_lower : (path lesser : List ℕ) (rows : Layer) → is_lt (byte_order lesser path) ≡ true → rows_below path rows ≡ [] → rows_below lesser rows ≡ []
none_lower path lesser rows less none =
    sym (kept_twice (λ row. is_lt (byte_order row.0 lesser)) (λ row. is_lt (byte_order row.0 path)) within rows) ∙ ap (rows_below lesser) none
  where
    within : (row : List ℕ × Change) → is_lt (byte_order row.0 path) ≡ false → is_lt (byte_order row.0 lesser) ≡ false
    within row high = by (is_lt (byte_order row.0 lesser)) refl
      where
        by : (b : Bool) → is_lt (byte_order row.0 lesser) ≡ b → b ≡ false
        by true low =
            let wrong : true ≡ false = sym (below_down path row.0 lesser (lt_is _ low) less) ∙ high in
            absurd cc
        by false low = refl

find_lower : (path lesser : List ℕ) (rows : Layer) → is_lt (byte_order lesser path) ≡ true → rows_below path rows ≡ [] → find byte_order lesser rows ≡ None
find_lower path lesser rows less none =
    sym (ap (λ b. cond b (find byte_order lesser rows) None) less)
    ∙ sym (find_kept (λ key. is_lt (byte_order key path)) rows lesser)
    ∙ ap (find byte_order lesser) none

all_lower : (path lesser : List ℕ) (layers : List Layer) → is_lt (byte_order lesser path) ≡ true → HasNoneBelow path layers → HasNoneBelow lesser layers
all_lower path lesser [] less h = tt
all_lower path lesser (newest ∷ older) less h = (none_lower path lesser newest less h.0, all_lower path lesser older less h.1)

said_lower : (path lesser : List ℕ) (layers : List Layer) → is_lt (byte_order lesser path) ≡ true → HasNoneBelow path layers
    → said_by_layers layers lesser ≡ None
said_lower path lesser [] less h = refl
said_lower path lesser (newest ∷ older) less h =
    ap (λ o. option_or o (said_by_layers older lesser)) (find_lower path lesser newest less h.0) ∙ said_lower path lesser older less h.1

all_empty : (path : List ℕ) (layers : List Layer) → AllByRecursion (λ layer. layer ≡ []) layers → HasNoneBelow path layers
all_empty path [] h = tt
all_empty path (newest ∷ older) h = (ap (rows_below path) h.0, all_empty path older h.1)

-- whether a change is the first of layers; none where they have no changes
abbrev pub IsFirstOf : List Layer → Option (Bor (List ℕ) × Bor Change) → Type 0
IsFirstOf layers first = MatchOption first (AllByRecursion (λ layer. layer ≡ []) layers) (λ row. IsFirst layers row.0.now row.1.now)

module _ (front : List Layer) (layer : Layer) (sorted : HasAscendingKeys layer) where
  -- a change at the front of the last layer
  own_first : (path : List ℕ) (change : Change) → layer ≡ (path, change) ∷ drop 1 layer → said_by_layers front path ≡ None → HasNoneBelow path front
      → IsFirst (front ++ (layer ∷ [])) path change
  own_first path change is silent least = record {
    least = all_more (λ l. rows_below path l ≡ []) front layer least
        (none_below path layer sorted (ap (begins_below path) is ∙ not_below_itself path));
    newest = said_more front layer path
        ∙ ap (λ o. option_or o (find byte_order path layer)) silent
        ∙ ap (find byte_order path) is
        ∙ ap (λ o. cond (is_eq o) (Some change) (find byte_order path (drop 1 layer))) (tied_itself nat_list_cmp_total path);
  }

  -- a change of those before it
  other_first : (path : List ℕ) (change : Change) → IsFirst front path change → rows_below path layer ≡ [] → IsFirst (front ++ (layer ∷ [])) path change
  other_first path change first none = record {
    least = all_more (λ l. rows_below path l ≡ []) front layer first.least none;
    newest = said_more front layer path ∙ ap (λ o. option_or o (find byte_order path layer)) first.newest;
  }

  pub first_more : (had next : Option (Bor (List ℕ) × Bor Change)) → IsFirstOf front had
      → MatchOption next (layer ≡ []) (λ row. layer ≡ (row.0.now, row.1.now) ∷ drop 1 layer) → IsFirstOf (front ++ (layer ∷ [])) (earlier_change had next)
  first_more None None first is = all_more (λ l. l ≡ []) front layer first is
  first_more None (Some row) first is = own_first row.0.now row.1.now is (none_said front first row.0.now) (all_empty row.0.now front first)
  first_more (Some row) None first is = other_first row.0.now row.1.now first (ap (rows_below row.0.now) is)
  first_more (Some row) (Some other) first is = by (is_lt (byte_order other.0.now row.0.now)) refl
    where
      by : (b : Bool) → is_lt (byte_order other.0.now row.0.now) ≡ b → IsFirstOf (front ++ (layer ∷ [])) (cond b (Some other) (Some row))
      by true less =
          own_first other.0.now other.1.now is (said_lower row.0.now other.0.now front less first.least)
          (all_lower row.0.now other.0.now front less first.least)
      by false never =
          other_first row.0.now row.1.now first
          (none_below row.0.now layer sorted (ap (begins_below row.0.now) is ∙ never))

-- ---- layers that are changed one after the other
module _ (f : Layer → Layer) where
  -- those before a place are changed, and those from it on are as they were
  pub record IsDone (old now : List Layer) (i : ℕ) : Type 0 where
    pub same : length now ≡ length old
    pub done : take i now ≡ list_map f (take i old)
    pub left : drop i now ≡ drop i old

  -- the layer at the place is as it was
  pub as_it_was : (old now : List Layer) (i : ℕ) (d : Layer) → IsDone old now i → get_or now i d ≡ get_or old i d
  as_it_was old now i d h =
      let none_more : i + 0 ≡ i = omega arith in
      ap (λ n. get_or now n d) (sym none_more)
      ∙ sym (get_or-drop i now 0 d) ∙ ap (λ l. get_or l 0 d) h.left ∙ get_or-drop i old 0 d
      ∙ ap (λ n. get_or old n d) none_more

  pub one_done : (old now : List Layer) (i : ℕ) (d layer : Layer) → i < length now → IsDone old now i → layer ≡ f (get_or now i d)
      → IsDone old (set now i layer) (i + 1)
  one_done old now i d layer lt h is = record {
    same = length-set now i layer ∙ h.same;
    done = take_more_set now i layer lt
        ∙ (λ j. h.done j ++ ((is ∙ ap f (as_it_was old now i d h)) j ∷ []))
        ∙ sym (map_more f old i d (subst (λ n. i < n) h.same lt));
    left = drop-set-lt (i + 1) now i layer (omega arith)
        ∙ sym (drop-drop 1 i now) ∙ ap (drop 1) h.left ∙ drop-drop 1 i old;
  }

  pub all_done : (old now : List Layer) (i : ℕ) → length now ≤ i → IsDone old now i → now ≡ list_map f old
  all_done old now i le h =
      sym (take_all i now le) ∙ h.done ∙ ap (list_map f) (take_all i old (subst (λ n. n ≤ i) h.same le))

-- ---- the layers of tokens
pub tokens_joined : (tokens : TokenMap) (these : List ℕ) → changes_joined (layers_under tokens these) ≡ layers_of tokens these
unfolding changes_joined layers_of
tokens_joined tokens [] = refl
tokens_joined tokens (token ∷ older) = λ i. over (same_again (changes_under tokens token) i) (tokens_joined tokens older i)

pub tokens_ascend : (tokens : TokenMap) (these : List ℕ) → AreAscending (layers_under tokens these)
tokens_ascend tokens [] = tt
tokens_ascend tokens (token ∷ older) = (entries_sorted (changes_under tokens token), tokens_ascend tokens older)

-- and of one more
pub layers_more : (tokens : TokenMap) (newest : ℕ) (older : List ℕ) (i : ℕ) (had : List Layer) (layer : Layer) → i < length older
    → had ≡ layers_under tokens (newest ∷ take i older) → layer ≡ entries (changes_under tokens (get_or older i 0))
    → had ++ (layer ∷ []) ≡ layers_under tokens (newest ∷ take (i + 1) older)
layers_more tokens newest older i had layer lt is own =
    (λ j. is j ++ (own j ∷ []))
    ∙ ap (λ l. entries (changes_under tokens newest) ∷ l) (sym (map_more (λ token. entries (changes_under tokens token)) older i 0 lt))
