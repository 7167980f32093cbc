-- The removals of the changes that a reset drops, path by path.
use Rattle.std.proofs.Common.{◌≡◌, ℕ, T, Bool, true, false, cond, not, List, [], ◌∷◌, ◌++◌, map, refl, ap, sym, ◌∙◌, append_assoc}
use Rattle.std.specs.Prelude.{filter, nat_eq}
use Rattle.std.specs.List.{AllByRecursion, starts_with}
use Rattle.std.specs.Str.{bytes_eq}
use Rattle.std.specs.Ordering.{is_eq, is_gt, is_lt}
use Rattle.std.specs.declared.cmp.Ordering.{Ordering}
use Rattle.std.specs.declared.cmp.Ordering.TheVariants.{Less, Equal, Greater}
use Rattle.std.specs.Cmp.Lexicographic.{texts_ties}
use Rattle.std.specs.FinMap.Entries.{below_all}
use Rattle.lake_base.specs.Maps.{HasAscendingKeys, byte_order}
use Rattle.lake_base.proofs.MapsLemmas.{first, head_below, less, second, turned}
use Rattle.lake_values.specs.Cursor.{entries_from}
use Rattle.lake_values.specs.declared.commit.ResetWhat.TheVariants.{All, Object, Prefix}
use Rattle.lake_values.proofs.CursorLemmas.{below_down, lt_is}
use Rattle.branch_record.proofs.PrefixLemmas.{between, not_below}
use Rattle.lake_values.specs.Reset.{drops_path}
use Rattle.lake_values.specs.declared.commit.ResetWhat.{ResetWhat}
use Rattle.lake_values.specs.declared.entry.Change.{Change}
use Rattle.pair_format.specs.declared.key.OwnedKey.TheVariants.{Staged}
use Rattle.keeper.specs.declared.put.Put.{Put}
use Rattle.core_puts.specs.Puts.{removals_at, removed_put}
use Rattle.core_puts.specs.Removing.{reset_start}

abbrev pub Row : Type 0
Row = List ℕ × Change

abbrev pub Rows : Type 0
Rows = List (List ℕ × Change)

-- no path below the start is dropped
low_stays : (what : ResetWhat) (path : List ℕ) → is_lt (byte_order path (reset_start what)) ≡ true → drops_path what path ≡ false
low_stays All [] low = absurd cc
low_stays All (x ∷ path) low = absurd cc
low_stays (Object one) path low = texts_ties path one ∙ ap is_eq (lt_is _ low)
low_stays (Prefix prefix) path low = by (starts_with nat_eq path prefix) refl
  where
    by : (b : Bool) → starts_with nat_eq path prefix ≡ b → b ≡ false
    by true begins =
        let wrong : true ≡ false = sym (ap is_gt (turned path prefix Less (lt_is _ low))) ∙ not_below prefix path begins in
        absurd cc
    by false begins = refl

-- after a path from the start on that isn't dropped, none is
high_stays : (what : ResetWhat) (path next : List ℕ) → is_lt (byte_order path (reset_start what)) ≡ false → drops_path what path ≡ false
    → byte_order path next ≡ Less → drops_path what next ≡ false
high_stays All path next from stays up = absurd cc
high_stays (Object one) path next from stays up = by (byte_order path one) refl
  where
    by : (o : Ordering) → byte_order path one ≡ o → bytes_eq next one ≡ false
    by Less is =
        let wrong : true ≡ false = sym (ap is_lt is) ∙ from in
        absurd cc
    by Equal is =
        let wrong : true ≡ false = sym (ap is_eq is) ∙ sym (texts_ties path one) ∙ stays in
        absurd cc
    by Greater is =
        let above : is_lt (byte_order one next) ≡ true = below_down next one path (turned path one Greater is) (ap is_lt up) in
        texts_ties next one ∙ ap is_eq (turned one next Less (lt_is _ above))
high_stays (Prefix prefix) path next from stays up = by (starts_with nat_eq next prefix) refl
  where
    at : (o : Ordering) → byte_order path prefix ≡ o → is_gt (byte_order prefix path) ≡ false
    at Less is =
        let wrong : true ≡ false = sym (ap is_lt is) ∙ from in
        absurd cc
    at Equal is = ap is_gt (turned path prefix Equal is)
    at Greater is = ap is_gt (turned path prefix Greater is)

    by : (b : Bool) → starts_with nat_eq next prefix ≡ b → b ≡ false
    by true begins =
        let wrong : true ≡ false = sym (between prefix path next (at (byte_order path prefix) refl) (ap is_gt up) begins) ∙ stays in
        absurd cc
    by false begins = refl

-- the rows from some bytes on aren't below these
pub all_above : (least : List ℕ) (rows : Rows) → AllByRecursion (λ row. is_lt (byte_order row.0 least) ≡ false) (entries_from least rows)
all_above least [] = tt
all_above least (row ∷ rows) = by (is_lt (byte_order row.0 least)) refl (all_above least rows)
  where
    by : (b : Bool) → is_lt (byte_order row.0 least) ≡ b → AllByRecursion (λ row. is_lt (byte_order row.0 least) ≡ false) (entries_from least rows)
        → AllByRecursion (λ row. is_lt (byte_order row.0 least) ≡ false) (cond (not b) (row ∷ entries_from least rows) (entries_from least rows))
    by true low rest = rest
    by false high rest = (high, rest)

module _ (what : ResetWhat) (token : ℕ) where
  -- of no paths there are none
  pub removals_none : removals_at what token [] ≡ []
  unfolding removals_at
  removals_none = refl

  -- those of the first path, and of the others
  removals_first : (path : List ℕ) (paths : List (List ℕ))
      → removals_at what token (path ∷ paths) ≡ removals_at what token (path ∷ []) ++ removals_at what token paths
  unfolding removals_at
  removals_first path paths = either (drops_path what path)
    where
      either : (b : Bool) → map (λ path. removed_put (Staged token path)) (cond b (path ∷ filter (drops_path what) paths) (filter (drops_path what) paths))
          ≡ map (λ path. removed_put (Staged token path)) (cond b (path ∷ []) []) ++ map (λ path. removed_put (Staged token path))
          (filter (drops_path what) paths)
      either true = refl
      either false = refl

  -- those of the first row, after others, and of the rows to come
  pub removals_next : (before after all : List Put) (path : List ℕ) (change : Change) (now rows : List (List ℕ × Change))
      → now ≡ (path, change) ∷ rows → after ≡ before ++ removals_at what token (path ∷ [])
      → before ++ removals_at what token (map (λ row. row.0) now) ≡ all
      → after ++ removals_at what token (map (λ row. row.0) rows) ≡ all
  removals_next before after all path change now rows next put so_far =
      let paths = map (λ (row : List ℕ × Change). row.0) rows in
      ap (λ puts. puts ++ removals_at what token paths) put
      ∙ append_assoc before (removals_at what token (path ∷ [])) (removals_at what token paths)
      ∙ ap (λ puts. before ++ puts) (sym (ap (λ rows. removals_at what token (map (λ row. row.0) rows)) next ∙ removals_first path paths))
      ∙ so_far

  -- that of a path that is dropped
  pub removals_dropped : (path : List ℕ) → drops_path what path ≡ true → removals_at what token (path ∷ []) ≡ removed_put (Staged token path) ∷ []
  unfolding removals_at
  removals_dropped path drops = ap (λ b. map (λ path. removed_put (Staged token path)) (cond b (path ∷ []) [])) drops

  -- those of the rows from the start on are those of all
  pub removals_from : (rows : Rows)
      → removals_at what token (map (λ row. row.0) (entries_from (reset_start what) rows)) ≡ removals_at what token (map (λ row. row.0) rows)
  unfolding removals_at
  removals_from [] = refl
  removals_from (row ∷ rows) = by (is_lt (byte_order row.0 (reset_start what))) refl (removals_from rows)
    where
      puts_of : List (List ℕ) → List Put
      puts_of paths = map (λ path. removed_put (Staged token path)) paths

      either : (b : Bool) (xs ys : List (List ℕ)) → puts_of xs ≡ puts_of ys → puts_of (cond b (row.0 ∷ xs) xs) ≡ puts_of (cond b (row.0 ∷ ys) ys)
      either true xs ys same = ap (λ puts. removed_put (Staged token row.0) ∷ puts) same
      either false xs ys same = same

      by : (b : Bool) → is_lt (byte_order row.0 (reset_start what)) ≡ b
          → puts_of (filter (drops_path what) (map (λ row. row.0) (entries_from (reset_start what) rows)))
          ≡ puts_of (filter (drops_path what) (map (λ row. row.0) rows))
          → puts_of
          (filter (drops_path what) (map (λ row. row.0) (cond (not b) (row ∷ entries_from (reset_start what) rows) (entries_from (reset_start what) rows))))
          ≡ puts_of (filter (drops_path what) (map (λ row. row.0) (row ∷ rows)))
      by true low rest =
          rest
          ∙ sym (ap (λ b. puts_of (cond b (row.0 ∷ filter (drops_path what) (map (λ row. row.0) rows)) (filter (drops_path what) (map (λ row. row.0) rows))))
          (low_stays what row.0 low))
      by false high rest = either (drops_path what row.0) (filter (drops_path what) (map (λ row. row.0) (entries_from (reset_start what) rows)))
          (filter (drops_path what) (map (λ row. row.0) rows)) rest

  -- from a row that isn't dropped on there are none
  none_above : (path : List ℕ) → is_lt (byte_order path (reset_start what)) ≡ false → drops_path what path ≡ false
      → (rows : Rows) → T (below_all byte_order path rows) → filter (drops_path what) (map (λ row. row.0) rows) ≡ []
  none_above path from stays [] below = refl
  none_above path from stays (row ∷ rows) below =
      ap (λ b. cond b (row.0 ∷ filter (drops_path what) (map (λ row. row.0) rows)) (filter (drops_path what) (map (λ row. row.0) rows)))
      (high_stays what path row.0 from stays (less _ (first _ _ below)))
      ∙ none_above path from stays rows (second _ _ below)

  pub removals_end : (row : List ℕ × Change) (rows : Rows) → HasAscendingKeys (row ∷ rows) → is_lt (byte_order row.0 (reset_start what)) ≡ false
      → drops_path what row.0 ≡ false → removals_at what token (map (λ row. row.0) (row ∷ rows)) ≡ []
  unfolding removals_at
  removals_end row rows ascend from stays =
      ap (λ b. map (λ path. removed_put (Staged token path))
      (cond b (row.0 ∷ filter (drops_path what) (map (λ row. row.0) rows)) (filter (drops_path what) (map (λ row. row.0) rows)))) stays
      ∙ ap (map (λ path. removed_put (Staged token path))) (none_above row.0 from stays rows (head_below row rows ascend))
