-- What changes over rows leave: the first of it, what a seek leaves of it, and the map that it is.
use Rattle.std.proofs.Common.{◌≡◌, ℕ, T, Bool, true, false, not, cond, Option, Some, None, MatchOption, List, [], ◌∷◌, ◌++◌, refl, sym, ap, subst, ◌∙◌}
use Rattle.std.specs.Borrow.{Bor}
use Rattle.std.specs.List.{filter, AllByRecursion}
use Rattle.std.specs.Ordering.{is_lt, is_eq, eq_by_cmp}
use Rattle.std.specs.declared.cmp.Ordering.{Ordering}
use Rattle.std.specs.declared.cmp.Ordering.TheVariants.{Less, Equal, Greater}
use Rattle.std.specs.FinMap.{entries, entries_sorted, entries-from_sorted, entries-insert, from_sorted, get-entries, get-remove, put, find, remove}
use Rattle.std.specs.FinMap.{slice_cmp-IsAntisymmetric, nat_cmp-IsAntisymmetric}
use Rattle.std.specs.FinMap.Entries.{below_all, by_order, find-where_key, is_sorted-where_key, same_entries}
use Rattle.std.proofs.lemmas.Cmp.{nat_list_cmp_total}
use Rattle.std.proofs.lemmas.List.Elements.{filter-append}
use Rattle.lake_base.specs.Maps.{byte_order, HasAscendingKeys}
use Rattle.lake_base.proofs.MapsLemmas.{first, second, less, head_below, tail_ascends, same_key, turned, less_more}
use Rattle.lake_values.specs.Cursor.{entries_from}
use Rattle.lake_values.specs.Entry.{EntryValue}
use Rattle.lake_values.specs.KeyMap.{ChangesValue, KeyMapValue, apply, map_after, map_after_change}
use Rattle.lake_values.specs.declared.entry.Change.{Change}
use Rattle.lake_values.specs.declared.entry.Change.TheVariants.{Put, Delete}
use Rattle.lake_values.proofs.CursorLemmas.{lt_is, below_down}
use Rattle.branch_record.specs.Layers.{rows_below, rows_above, rows_of_change, rows_over, rows_ahead, begins_below, is_row_next}

abbrev pub Row : Type 0
Row = List ℕ × EntryValue

abbrev Rows : Type 0
Rows = List (List ℕ × EntryValue)

abbrev Changes : Type 0
Changes = List (List ℕ × Change)

-- ---- rows below a path, and above it

module _ {X : Type 0} where
  -- a path below rows has none of them below it
  lost_below : (path : List ℕ) (rows : List (List ℕ × X)) → T (below_all byte_order path rows) → rows_below path rows ≡ []
  lost_below path [] h = refl
  lost_below path (row ∷ rows) h =
      ap (λ o. cond (is_lt o) (row ∷ rows_below path rows) (rows_below path rows)) (turned path row.0 Less (less _ (first _ _ h)))
      ∙ lost_below path rows (second _ _ h)

  -- and all above it
  kept_above : (path : List ℕ) (rows : List (List ℕ × X)) → T (below_all byte_order path rows) → rows_above path rows ≡ rows
  kept_above path [] h = refl
  kept_above path (row ∷ rows) h =
      ap (λ o. cond (is_lt o) (row ∷ rows_above path rows) (rows_above path rows)) (less _ (first _ _ h))
      ∙ ap (λ l. row ∷ l) (kept_above path rows (second _ _ h))

  -- a path above which the first row stands, or at it, is below the others
  below_others : (path : List ℕ) (row : List ℕ × X) (rows : List (List ℕ × X)) → HasAscendingKeys (row ∷ rows) → is_lt (byte_order row.0 path) ≡ false
      → T (below_all byte_order path rows)
  below_others path row rows h never = by (byte_order row.0 path) refl never
    where
      by : (o : Ordering) → byte_order row.0 path ≡ o → is_lt o ≡ false → T (below_all byte_order path rows)
      by Less is never = absurd cc
      by Equal is never = subst (λ k. T (below_all byte_order k rows)) (same_key row.0 path is) (head_below row rows h)
      by Greater is never = less_more path row.0 rows (turned row.0 path Greater is) (head_below row rows h)

  -- where the first row isn't below, none is
  pub none_below : (path : List ℕ) (rows : List (List ℕ × X)) → HasAscendingKeys rows → begins_below path rows ≡ false → rows_below path rows ≡ []
  none_below path [] h never = refl
  none_below path (row ∷ rows) h never =
      ap (λ b. cond b (row ∷ rows_below path rows) (rows_below path rows)) never ∙ lost_below path rows (below_others path row rows h never)

  -- where none is below, the first isn't
  pub first_above : (path : List ℕ) (row : List ℕ × X) (rows : List (List ℕ × X)) → rows_below path (row ∷ rows) ≡ [] → is_lt (byte_order row.0 path) ≡ false
  first_above path row rows none = by (is_lt (byte_order row.0 path)) none
    where
      by : (b : Bool) → cond b (row ∷ rows_below path rows) (rows_below path rows) ≡ [] → b ≡ false
      by true none = absurd cc
      by false none = refl

  -- where none is below a path, the first alone can be at it
  pub above_first : (path : List ℕ) (row : List ℕ × X) (rows : List (List ℕ × X)) → HasAscendingKeys (row ∷ rows) → rows_below path (row ∷ rows) ≡ []
      → (b : Bool) → is_lt (byte_order path row.0) ≡ b → rows_above path (row ∷ rows) ≡ cond b (row ∷ rows) rows
  above_first path row rows h none b is =
      ap (λ l. cond (is_lt (byte_order path row.0)) (row ∷ l) l) (kept_above path rows (below_others path row rows h (first_above path row rows none)))
      ∙ ap (λ c. cond c (row ∷ rows) rows) is

  -- and what is passed at the path
  pub above_passed : (path : List ℕ) (rows : List (List ℕ × X)) (row : List ℕ × X) (after : List (List ℕ × X)) (b : Bool) → rows ≡ row ∷ after
      → HasAscendingKeys (row ∷ after) → rows_below path rows ≡ [] → is_lt (byte_order path row.0) ≡ b → rows_above path rows ≡ cond b (row ∷ after) after
  above_passed path rows row after b whole h none is =
      ap (rows_above path) whole ∙ above_first path row after h (subst (λ l. rows_below path l ≡ []) whole none) b is

-- a test of bytes is one of the paths that they are
pub tested : (a b path other : List ℕ) (told said : Bool) → a ≡ path → b ≡ other → told ≡ is_lt (byte_order a b) → told ≡ said
    → is_lt (byte_order path other) ≡ said
tested a b path other told said is are tells e = (λ i. is_lt (byte_order (sym is i) (sym are i))) ∙ sym tells ∙ e

-- the row that a cursor gives, and what it then has left, are what it had
pub ahead_of : {X : Type 0} (given : Option (Bor (List ℕ) × Bor X)) (old new : List (List ℕ × X))
    → MatchOption given ((old ≡ []) × (new ≡ [])) (λ row. old ≡ (row.0.now, row.1.now) ∷ new) → rows_ahead given new ≡ old
ahead_of None old new gives = sym gives.0
ahead_of (Some row) old new gives = sym gives

-- ---- the first of what changes leave

-- a row below all changes
row_first : (cs : Changes) (row : Row) (rows : Rows) → is_row_next cs (row ∷ rows) ≡ true → rows_over cs (row ∷ rows) ≡ row ∷ rows_over cs rows
row_first [] row rows next = refl
row_first (c ∷ cs) row rows next =
    ap (λ b. cond b (row ∷ rows_below c.0 rows) (rows_below c.0 rows) ++ (rows_of_change c.0 c.1 ++ rows_over cs (rows_above c.0 (row ∷ rows)))) next
    ∙ ap (λ o. row ∷ (rows_below c.0 rows ++ (rows_of_change c.0 c.1 ++ rows_over cs (cond (is_lt o) (row ∷ rows_above c.0 rows) (rows_above c.0 rows)))))
    (turned row.0 c.0 Less (lt_is _ next))

-- no row, and no change
none_over : (cs : Changes) → is_row_next cs [] ≡ true → rows_over cs [] ≡ []
none_over [] next = refl
none_over (c ∷ cs) next = absurd cc

-- the row that a cursor below gives is the first of what is left
pub row_given : (given : Option (Bor (List ℕ) × Bor EntryValue)) (cs : Changes) (start old new : Rows) → rows_over cs old ≡ start → is_row_next cs old ≡ true
    → MatchOption given ((old ≡ []) × (new ≡ [])) (λ row. old ≡ (row.0.now, row.1.now) ∷ new)
    → MatchOption given ((start ≡ []) × (rows_over cs new ≡ [])) (λ row. start ≡ (row.0.now, row.1.now) ∷ rows_over cs new)
row_given None cs start old new whole next gives =
    let none : rows_over cs [] ≡ [] = none_over cs (subst (λ rows. is_row_next cs rows ≡ true) gives.0 next) in
    (sym whole ∙ ap (rows_over cs) gives.0 ∙ none, ap (rows_over cs) gives.1 ∙ none)
row_given (Some row) cs start old new whole next gives =
    sym whole ∙ ap (rows_over cs) gives ∙ row_first cs (row.0.now, row.1.now) new (subst (λ rows. is_row_next cs rows ≡ true) gives next)

-- ---- a seek

module _ {X : Type 0} (p q : X → Bool) where
  swapped : (xs : List X) → filter p (filter q xs) ≡ filter q (filter p xs)
  swapped [] = refl
  swapped (x ∷ xs) = by (p x) refl (q x) refl (swapped xs)
    where
      by : (b : Bool) → p x ≡ b → (d : Bool) → q x ≡ d → filter p (filter q xs) ≡ filter q (filter p xs)
          → filter p (cond d (x ∷ filter q xs) (filter q xs)) ≡ filter q (cond b (x ∷ filter p xs) (filter p xs))
      by true e true f rest =
          ap (λ c. cond c (x ∷ filter p (filter q xs)) (filter p (filter q xs))) e ∙ ap (λ l. x ∷ l) rest
          ∙ sym (ap (λ c. cond c (x ∷ filter q (filter p xs)) (filter q (filter p xs))) f)
      by true e false f rest = rest ∙ sym (ap (λ c. cond c (x ∷ filter q (filter p xs)) (filter q (filter p xs))) f)
      by false e true f rest = ap (λ c. cond c (x ∷ filter p (filter q xs)) (filter p (filter q xs))) e ∙ rest
      by false e false f rest = rest

  -- what q keeps p loses
  all_lost : ((x : X) → q x ≡ true → p x ≡ false) → (xs : List X) → filter p (filter q xs) ≡ []
  all_lost apart [] = refl
  all_lost apart (x ∷ xs) = by (q x) refl (all_lost apart xs)
    where
      by : (d : Bool) → q x ≡ d → filter p (filter q xs) ≡ [] → filter p (cond d (x ∷ filter q xs) (filter q xs)) ≡ []
      by true f rest = ap (λ c. cond c (x ∷ filter p (filter q xs)) (filter p (filter q xs))) (apart x f) ∙ rest
      by false f rest = rest

  -- what p keeps q keeps
  pub kept_twice : ((x : X) → q x ≡ false → p x ≡ false) → (xs : List X) → filter p (filter q xs) ≡ filter p xs
  kept_twice within [] = refl
  kept_twice within (x ∷ xs) = by (q x) refl (kept_twice within xs)
    where
      by : (d : Bool) → q x ≡ d → filter p (filter q xs) ≡ filter p xs
          → filter p (cond d (x ∷ filter q xs) (filter q xs)) ≡ cond (p x) (x ∷ filter p xs) (filter p xs)
      by true f rest = ap (λ l. cond (p x) (x ∷ l) l) rest
      by false f rest = rest ∙ sym (ap (λ c. cond c (x ∷ filter p xs) (filter p xs)) (within x f))

module _ (least : List ℕ) where
  abbrev is_from : {X : Type 0} → List ℕ × X → Bool
  is_from row = not (is_lt (byte_order row.0 least))

  -- the row of a change stays where the change does
  change_from : (path : List ℕ) (change : Change) (b : Bool) → is_lt (byte_order path least) ≡ b
      → entries_from least (rows_of_change path change) ≡ cond b [] (rows_of_change path change)
  change_from path (Put entry) true is = ap (λ b. cond (not b) ((path, entry) ∷ []) []) is
  change_from path (Put entry) false is = ap (λ b. cond (not b) ((path, entry) ∷ []) []) is
  change_from path Delete true is = refl
  change_from path Delete false is = refl

  -- rows below a path that is below these bytes are below these bytes
  below_lost : (path : List ℕ) (rows : Rows) → is_lt (byte_order path least) ≡ true → entries_from least (rows_below path rows) ≡ []
  below_lost path rows low = all_lost is_from (λ row. is_lt (byte_order row.0 path)) (λ row lt. ap not (below_down least row.0 path (lt_is _ lt) low)) rows

  -- a row that isn't above such a path is below these bytes
  above_kept : (path : List ℕ) (rows : Rows) → is_lt (byte_order path least) ≡ true → entries_from least (rows_above path rows) ≡ entries_from least rows
  above_kept path rows low = kept_twice is_from (λ row. is_lt (byte_order path row.0)) (λ row never. ap not (by row.0 (byte_order path row.0) refl never)) rows
    where
      by : (key : List ℕ) (o : Ordering) → byte_order path key ≡ o → is_lt o ≡ false → is_lt (byte_order key least) ≡ true
      by key Less is never = absurd cc
      by key Equal is never = ap (λ k. is_lt (byte_order k least)) (sym (same_key path key is)) ∙ low
      by key Greater is never = below_down least key path (turned path key Greater is) low

  -- a seek of what is left is a seek of both
  pub seek_over : (cs : Changes) (rows : Rows) → rows_over (entries_from least cs) (entries_from least rows) ≡ entries_from least (rows_over cs rows)
  seek_over [] rows = refl
  seek_over (c ∷ cs) rows = by (is_lt (byte_order c.0 least)) refl ∙ sym (apart (seek_over cs (rows_above c.0 rows)))
    where
      apart : rows_over (entries_from least cs) (entries_from least (rows_above c.0 rows)) ≡ entries_from least (rows_over cs (rows_above c.0 rows))
          → entries_from least (rows_over (c ∷ cs) rows)
          ≡ entries_from least (rows_below c.0 rows)
          ++ (entries_from least (rows_of_change c.0 c.1) ++ rows_over (entries_from least cs) (entries_from least (rows_above c.0 rows)))
      apart rest =
          filter-append is_from (rows_below c.0 rows) (rows_of_change c.0 c.1 ++ rows_over cs (rows_above c.0 rows))
          ∙ ap (λ l. entries_from least (rows_below c.0 rows) ++ l) (filter-append is_from (rows_of_change c.0 c.1) (rows_over cs (rows_above c.0 rows))
          ∙ ap (λ l. entries_from least (rows_of_change c.0 c.1) ++ l) (sym rest))

      by : (b : Bool) → is_lt (byte_order c.0 least) ≡ b
          → rows_over (entries_from least (c ∷ cs)) (entries_from least rows)
          ≡ entries_from least (rows_below c.0 rows)
          ++ (entries_from least (rows_of_change c.0 c.1) ++ rows_over (entries_from least cs) (entries_from least (rows_above c.0 rows)))
      by true low =
          ap (λ b. rows_over (cond (not b) (c ∷ entries_from least cs) (entries_from least cs)) (entries_from least rows)) low
          ∙ ap (rows_over (entries_from least cs)) (sym (above_kept c.0 rows low))
          ∙ sym (ap (λ l. l ++ (entries_from least (rows_of_change c.0 c.1) ++ rows_over (entries_from least cs) (entries_from least (rows_above c.0 rows))))
          (below_lost c.0 rows low)
          ∙ ap (λ l. l ++ rows_over (entries_from least cs) (entries_from least (rows_above c.0 rows))) (change_from c.0 c.1 true low))
      by false never =
          ap (λ b. rows_over (cond (not b) (c ∷ entries_from least cs) (entries_from least cs)) (entries_from least rows)) never
          ∙ sym (ap (λ l. l ++ (entries_from least (rows_of_change c.0 c.1) ++ rows_over (entries_from least cs) (entries_from least (rows_above c.0 rows))))
          (swapped is_from (λ row. is_lt (byte_order row.0 c.0)) rows)
          ∙ ap (λ l. rows_below c.0 (entries_from least rows) ++ (l ++ rows_over (entries_from least cs) (entries_from least (rows_above c.0 rows))))
          (change_from c.0 c.1 false never)
          ∙ ap (λ l. rows_below c.0 (entries_from least rows) ++ (rows_of_change c.0 c.1 ++ rows_over (entries_from least cs) l))
          (swapped is_from (λ row. is_lt (byte_order c.0 row.0)) rows))

-- ---- the map

-- rows that are all below the changes stay in front
front_over : (cs : Changes) (front rows : Rows) → AllByRecursion (λ row. T (below_all byte_order row.0 cs)) front
    → rows_over cs (front ++ rows) ≡ front ++ rows_over cs rows
front_over cs [] rows low = refl
front_over cs (row ∷ front) rows low = row_first cs row (front ++ rows) (next cs low.0) ∙ ap (λ l. row ∷ l) (front_over cs front rows low.1)
  where
    next : (cs : Changes) → T (below_all byte_order row.0 cs) → is_row_next cs (row ∷ (front ++ rows)) ≡ true
    next [] low = refl
    next (c ∷ cs) low = ap is_lt (less _ (first _ _ low))

-- rows below a path that is below the changes are below them
all_low : (cs : Changes) (path : List ℕ) (rows : Rows) → T (below_all byte_order path cs)
    → AllByRecursion (λ row. T (below_all byte_order row.0 cs)) (rows_below path rows)
all_low cs path [] low = tt
all_low cs path (row ∷ rows) low = by (is_lt (byte_order row.0 path)) refl (all_low cs path rows low)
  where
    by : (b : Bool) → is_lt (byte_order row.0 path) ≡ b → AllByRecursion (λ row. T (below_all byte_order row.0 cs)) (rows_below path rows)
        → AllByRecursion (λ row. T (below_all byte_order row.0 cs)) (cond b (row ∷ rows_below path rows) (rows_below path rows))
    by true is rest = (less_more row.0 path cs (lt_is _ is) low, rest)
    by false is rest = rest

change_low : (cs : Changes) (path : List ℕ) (change : Change) → T (below_all byte_order path cs)
    → AllByRecursion (λ row. T (below_all byte_order row.0 cs)) (rows_of_change path change)
change_low cs path (Put entry) low = (low, tt)
change_low cs path Delete low = tt

-- a put leaves the rows below its path, its own, and those above
put_apart : (path : List ℕ) (entry : EntryValue) (rows : Rows) → HasAscendingKeys rows
    → put byte_order path entry rows ≡ rows_below path rows ++ ((path, entry) ∷ rows_above path rows)
put_apart path entry [] h = refl
put_apart path entry (row ∷ rows) h = by (byte_order path row.0) refl (put_apart path entry rows (tail_ascends row rows h))
  where
    by : (o : Ordering) → byte_order path row.0 ≡ o → put byte_order path entry rows ≡ rows_below path rows ++ ((path, entry) ∷ rows_above path rows)
        → by_order o ((path, entry) ∷ row ∷ rows) ((row.0, entry) ∷ rows) (row ∷ put byte_order path entry rows)
        ≡ rows_below path (row ∷ rows) ++ ((path, entry) ∷ rows_above path (row ∷ rows))
    by Less is rest =
        let none : rows_below path (row ∷ rows) ≡ [] = none_below path (row ∷ rows) h (ap is_lt (turned path row.0 Less is)) in
        sym
        (ap (λ l. l ++ ((path, entry) ∷ rows_above path (row ∷ rows))) none ∙ ap (λ l. (path, entry) ∷ l) (above_first path row rows h none true (ap is_lt is)))
    by Equal is rest =
        let none : rows_below path (row ∷ rows) ≡ [] = none_below path (row ∷ rows) h (ap is_lt (turned path row.0 Equal is)) in
        sym (ap (λ l. l ++ ((path, entry) ∷ rows_above path (row ∷ rows))) none
        ∙ ap (λ l. (path, entry) ∷ l) (above_first path row rows h none false (ap is_lt is)) ∙ ap (λ k. (k, entry) ∷ rows) (same_key path row.0 is))
    by Greater is rest =
        ap (λ l. row ∷ l) rest
        ∙ sym (ap (λ o. cond (is_lt o) (row ∷ rows_below path rows) (rows_below path rows) ++ ((path, entry) ∷ rows_above path (row ∷ rows)))
        (turned path row.0 Greater is)
        ∙ ap (λ o. (row ∷ rows_below path rows) ++ ((path, entry) ∷ cond (is_lt o) (row ∷ rows_above path rows) (rows_above path rows))) is)

abbrev is_other : List ℕ → List ℕ → Bool
is_other path key = not (eq_by_cmp byte_order path key)

-- the rows at other paths are those below and those above
others_apart : (path : List ℕ) (rows : Rows) → HasAscendingKeys rows → filter (λ row. is_other path row.0) rows ≡ rows_below path rows ++ rows_above path rows
others_apart path [] h = refl
others_apart path (row ∷ rows) h = by (byte_order path row.0) refl (others_apart path rows (tail_ascends row rows h))
  where
    by : (o : Ordering) → byte_order path row.0 ≡ o → filter (λ row. is_other path row.0) rows ≡ rows_below path rows ++ rows_above path rows
        → cond (not (is_eq o)) (row ∷ filter (λ row. is_other path row.0) rows) (filter (λ row. is_other path row.0) rows)
        ≡ rows_below path (row ∷ rows) ++ cond (is_lt o) (row ∷ rows_above path rows) (rows_above path rows)
    by Less is rest =
        let none : rows_below path (row ∷ rows) ≡ [] = none_below path (row ∷ rows) h (ap is_lt (turned path row.0 Less is)) in
        let lost : rows_below path rows ≡ [] = lost_below path rows (below_others path row rows h (ap is_lt (turned path row.0 Less is))) in
        ap (λ l. row ∷ l) (rest ∙ ap (λ l. l ++ rows_above path rows) lost) ∙ sym (ap (λ l. l ++ (row ∷ rows_above path rows)) none)
    by Equal is rest =
        rest ∙ sym (ap (λ o. cond (is_lt o) (row ∷ rows_below path rows) (rows_below path rows) ++ rows_above path rows) (turned path row.0 Equal is))
    by Greater is rest =
        ap (λ l. row ∷ l) rest
        ∙ sym (ap (λ o. cond (is_lt o) (row ∷ rows_below path rows) (rows_below path rows) ++ rows_above path rows) (turned path row.0 Greater is))

-- a removal leaves the rows at other paths
entries-remove : (map : KeyMapValue) (path : List ℕ) → entries (remove map path) ≡ filter (λ row. is_other path row.0) (entries map)
entries-remove map path =
    same_entries byte_order nat_list_cmp_total (slice_cmp-IsAntisymmetric nat_cmp-IsAntisymmetric) _ _ (entries_sorted (remove map path))
    (is_sorted-where_key byte_order (is_other path) (entries map) (entries_sorted map)) (λ q.
    sym (get-entries (remove map path) q)
    ∙ get-remove nat_list_cmp_total map path q
    ∙ ap (cond (eq_by_cmp byte_order q path) None) (get-entries map q)
    ∙ turn q (byte_order path q) refl (find byte_order q (entries map))
    ∙ sym (find-where_key byte_order (is_other path) q (λ x tie. ap (is_other path) (sym (same_key q x tie))) (entries map)))
  where
    turn : (q : List ℕ) (o : Ordering) → byte_order path q ≡ o → (had : Option EntryValue)
        → cond (eq_by_cmp byte_order q path) None had ≡ cond (is_other path q) had None
    turn q Less is had = ap (λ o. cond (is_eq o) None had) (turned path q Less is) ∙ sym (ap (λ o. cond (not (is_eq o)) had None) is)
    turn q Equal is had = ap (λ o. cond (is_eq o) None had) (turned path q Equal is) ∙ sym (ap (λ o. cond (not (is_eq o)) had None) is)
    turn q Greater is had = ap (λ o. cond (is_eq o) None had) (turned path q Greater is) ∙ sym (ap (λ o. cond (not (is_eq o)) had None) is)

-- the entries of a map after one change
entries_changed : (path : List ℕ) (change : Change) (map : KeyMapValue)
    → entries (map_after_change path change map) ≡ rows_below path (entries map) ++ (rows_of_change path change ++ rows_above path (entries map))
entries_changed path (Put entry) map = entries-insert nat_list_cmp_total map path entry ∙ put_apart path entry (entries map) (entries_sorted map)
entries_changed path Delete map = entries-remove map path ∙ others_apart path (entries map) (entries_sorted map)

over_after : (cs : Changes) → HasAscendingKeys cs → (map : KeyMapValue) → rows_over cs (entries map) ≡ entries (map_after cs map)
over_after [] h map = refl
over_after (c ∷ cs) h map =
    sym (
    ap (rows_over cs) (entries_changed c.0 c.1 map)
    ∙ front_over cs (rows_below c.0 (entries map)) (rows_of_change c.0 c.1 ++ rows_above c.0 (entries map)) (all_low cs c.0 (entries map) (head_below c cs h))
    ∙ ap (λ l. rows_below c.0 (entries map) ++ l)
    (front_over cs (rows_of_change c.0 c.1) (rows_above c.0 (entries map)) (change_low cs c.0 c.1 (head_below c cs h))))
    ∙ over_after cs (tail_ascends c cs h) (map_after_change c.0 c.1 map)

-- what changes leave of a map's rows is the map after them
pub over_maps : (changes : ChangesValue) (map : KeyMapValue) → rows_over (entries changes) (entries map) ≡ entries (apply changes map)
unfolding apply
over_maps changes map = over_after (entries changes) (entries_sorted changes) map

pub over_rows : (cs : Changes) (rows : Rows) → HasAscendingKeys cs → HasAscendingKeys rows
    → rows_over cs rows ≡ entries (apply (from_sorted cs) (from_sorted rows))
over_rows cs rows h k =
    (λ i. rows_over (sym (entries-from_sorted byte_order cs h) i) (sym (entries-from_sorted byte_order rows k) i))
    ∙ over_maps (from_sorted cs) (from_sorted rows)

-- changes and rows that stand in slices
pub over_slices : (changes : ChangesValue) (cs : Changes) (rows : Rows) (map : KeyMapValue) → cs ≡ entries changes → rows ≡ entries map
    → rows_over cs rows ≡ entries (apply changes map)
over_slices changes cs rows map is are = ap (λ l. rows_over l rows) is ∙ ap (rows_over (entries changes)) are ∙ over_maps changes map

-- what is left ascends
pub over_ascends : (cs : Changes) (rows : Rows) → HasAscendingKeys cs → HasAscendingKeys rows → HasAscendingKeys (rows_over cs rows)
over_ascends cs rows h k = subst HasAscendingKeys (sym (over_rows cs rows h k)) (entries_sorted (apply (from_sorted cs) (from_sorted rows)))
