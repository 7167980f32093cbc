-- Rows from one path to another.
use Rattle.std.proofs.Common.{T, ◌≡◌, ℕ, ◌&&◌, Bool, true, false, cond, not, List, [], ◌∷◌, length, arith, None, Some, refl, sym, ap, subst, ◌∙◌}
use Rattle.std.specs.Bool.{OnTrue}
use Rattle.std.specs.Ordering.{is_lt, is_eq}
use Rattle.std.specs.FinMap.{entries, find, get, get-entries}
use Rattle.std.specs.FinMap.Entries.{below_all}
use Rattle.std.specs.declared.cmp.Ordering.TheVariants.{Less, Greater}
use Rattle.lake_base.specs.Maps.{byte_order, HasAscendingKeys}
use Rattle.lake_base.proofs.MapsLemmas.{turned, both, head_below, tail_ascends, find_none, less_more}
use Rattle.lake_values.specs.Cursor.{entries_from}
use Rattle.lake_values.specs.KeyMap.{ChangesValue}
use Rattle.lake_values.specs.declared.entry.Change.{Change}
use Rattle.lake_values.proofs.CursorLemmas.{lt_is, seek_passes, seek_stays, ascends_from}
use Rattle.meta_range.specs.Ends.{is_between}
use Rattle.meta_range.proofs.EndsLemmas.{below_rows, reaches}

low_end : (low more : Bool) → not low && more ≡ true → low ≡ false
low_end true more e = absurd cc
low_end false more e = refl

high_end : (low high : Bool) → not low && not high ≡ true → high ≡ false
high_end true high e = absurd cc
high_end false true e = absurd cc
high_end false false e = refl

module _ {X : Type 0} where
  -- what is found at a path that isn't below another is found from that on
  found_from : (least path : List ℕ) → is_lt (byte_order path least) ≡ false → (rows : List (List ℕ × X)) → HasAscendingKeys rows
      → find byte_order path rows ≡ find byte_order path (entries_from least rows)
  found_from least path never [] h = refl
  found_from least path never (row ∷ rows) h = by (is_lt (byte_order row.0 least)) refl (found_from least path never rows (tail_ascends row rows h))
    where
      by : (b : Bool) → is_lt (byte_order row.0 least) ≡ b → find byte_order path rows ≡ find byte_order path (entries_from least rows)
          → find byte_order path (row ∷ rows) ≡ find byte_order path (entries_from least (row ∷ rows))
      by true low rest =
          let behind : byte_order path row.0 ≡ Greater = turned row.0 path Less (reaches row.0 least path (lt_is _ low) never) in
          ap (λ o. cond (is_eq o) (Some row.1) (find byte_order path rows)) behind ∙ rest
          ∙ ap (find byte_order path) (sym (seek_passes least row rows low))
      by false stays rest = ap (find byte_order path) (sym (seek_stays least row rows h stays))

  -- nothing is found between two paths where no row stands from the first on, or the first that does is above the last
  pub none_left : (first last : List ℕ) (rows : List (List ℕ × X)) → HasAscendingKeys rows → [] ≡ entries_from first rows
      → (path : List ℕ) → is_between first last path ≡ true → find byte_order path rows ≡ None
  none_left first last rows h none path within =
      found_from first path (low_end (is_lt (byte_order path first)) _ within) rows h ∙ ap (find byte_order path) (sym none)

  pub none_until : (first last : List ℕ) (row : List ℕ × X) (rest rows : List (List ℕ × X)) → HasAscendingKeys rows → row ∷ rest ≡ entries_from first rows
      → (above : Bool) → above ≡ is_lt (byte_order last row.0)
      → OnTrue above ((path : List ℕ) → is_between first last path ≡ true → find byte_order path rows ≡ None)
  none_until first last row rest rows h are false is = tt
  none_until first last row rest rows h are true is = λ path within.
      found_from first path (low_end (is_lt (byte_order path first)) _ within) rows h ∙ ap (find byte_order path) (sym are)
      ∙ find_none path (row ∷ rest) (below_rows last path (row ∷ rest) (high_end (is_lt (byte_order path first)) (is_lt (byte_order last path)) within) above)
    where
      ascends : HasAscendingKeys (row ∷ rest)
      ascends = subst HasAscendingKeys (sym are) (ascends_from first rows h)

      above : T (below_all byte_order last (row ∷ rest))
      above = both _ _ (subst T is tt) (less_rows (lt_is _ (sym is)))
        where
          less_rows : byte_order last row.0 ≡ Less → T (below_all byte_order last rest)
          less_rows lt = less_more last row.0 rest lt (head_below row rest ascends)

  pub no_rows : (rows : List X) → length rows ≡ 0 → rows ≡ []
  no_rows [] none = refl
  no_rows (row ∷ rows) none = absurd (omega arith)

-- so it is with changes
pub none_in : (changes : ChangesValue) (first last : List ℕ) (rows : List (List ℕ × Change)) → rows ≡ entries changes
    → (none : Bool) → OnTrue none ((path : List ℕ) → is_between first last path ≡ true → find byte_order path rows ≡ None)
    → OnTrue none ((path : List ℕ) → is_between first last path ≡ true → get changes path ≡ None)
none_in changes first last rows are false not = tt
none_in changes first last rows are true not = λ path within. get-entries changes path ∙ ap (find byte_order path) (sym are) ∙ not path within
