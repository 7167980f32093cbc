-- Rows from some bytes on: from the first of them, after it is passed, and with one more row in its place.
use Rattle.std.proofs.Common.{◌≡◌, ℕ, Bool, true, false, cond, not, List, [], ◌∷◌, ◌&&◌, Some, None, Option, MatchOption, refl, sym, ap, subst, ◌∙◌, drop}
use Rattle.std.specs.Borrow.{Bor}
use Rattle.std.specs.Cmp.{tied_itself}
use Rattle.std.specs.List.{filter}
use Rattle.std.specs.Map.Iter.{deref_pair}
use Rattle.std.specs.Option.{option_map}
use Rattle.std.specs.Ordering.{is_lt, is_le}
use Rattle.std.specs.declared.cmp.Ordering.{Ordering}
use Rattle.std.specs.declared.cmp.Ordering.TheVariants.{Less, Equal, Greater}
use Rattle.std.specs.BTreeMap.Range.{entries_between}
use Rattle.std.specs.declared.ops.Bound.TheVariants.{Included, Unbounded}
use Rattle.std.specs.FinMap.{entries_sorted, entries-insert, insert, put}
use Rattle.std.specs.FinMap.Entries.{by_order}
use Rattle.std.proofs.lemmas.Cmp.{nat_list_cmp_total}
use Rattle.lake_base.specs.Maps.{byte_order, HasAscendingKeys}
use Rattle.lake_base.proofs.MapsLemmas.{first, head_below, less, same_key, tail_ascends, turned}
use Rattle.lake_values.specs.Cursor.{entries_from}
use Rattle.lake_values.specs.KeyMap.{ChangesValue}
use Rattle.lake_values.specs.declared.entry.Change.{Change}
use Rattle.lake_values.proofs.CursorLemmas.{ascends_from, below_down, lt_is, seek_passes, seek_stays}
use Rattle.branch_record.specs.TokenRows.{AreFromFirst, put_row, row_above, rows_from, rows_under}

abbrev pub Row : Type 0
Row = List ℕ × Change

abbrev pub Rows : Type 0
Rows = List (List ℕ × Change)

-- what isn't below bytes that aren't below others, isn't below those
low_more : (x q k : List ℕ) → is_lt (byte_order q x) ≡ false → is_lt (byte_order k x) ≡ true → is_lt (byte_order k q) ≡ true
low_more x q k never low = by (byte_order x q) refl
  where
    by : (o : Ordering) → byte_order x q ≡ o → is_lt (byte_order k q) ≡ true
    by Less is = below_down q k x (lt_is _ low) (ap is_lt is)
    by Equal is = ap (λ b. is_lt (byte_order k b)) (sym (same_key x q is)) ∙ low
    by Greater is =
        let wrong : true ≡ false = sym (ap is_lt (turned x q Greater is)) ∙ never in
        absurd cc

-- rows from some bytes on, and of these those from others on
pub twice_from : (x q : List ℕ) → is_lt (byte_order q x) ≡ false → (rows : Rows) → entries_from q (entries_from x rows) ≡ entries_from q rows
twice_from x q never [] = refl
twice_from x q never (row ∷ rows) = by (is_lt (byte_order row.0 x)) refl (twice_from x q never rows)
  where
    by : (b : Bool) → is_lt (byte_order row.0 x) ≡ b → entries_from q (entries_from x rows) ≡ entries_from q rows
        → entries_from q (cond (not b) (row ∷ entries_from x rows) (entries_from x rows)) ≡ entries_from q (row ∷ rows)
    by true low rest = rest ∙ sym (seek_passes q row rows (low_more x q row.0 never low))
    by false high rest = ap (λ l. cond (not (is_lt (byte_order row.0 q))) (row ∷ l) l) rest

-- the first of the rows that are kept is kept
kept_first : {X : Type 0} (p : X → Bool) (rows : List X) (row : X) (rest : List X) → filter p rows ≡ row ∷ rest → p row ≡ true
kept_first p [] row rest is = absurd cc
kept_first p (x ∷ xs) row rest is = by (p x) refl is (λ later. kept_first p xs row rest later)
  where
    by : (b : Bool) → p x ≡ b → cond b (x ∷ filter p xs) (filter p xs) ≡ row ∷ rest → (filter p xs ≡ row ∷ rest → p row ≡ true) → p row ≡ true
    by true kept is further =
        let same : x ≡ row = cc in
        ap p (sym same) ∙ kept
    by false lost is further = further is

pub not_below_itself : (k : List ℕ) → is_lt (byte_order k k) ≡ false
not_below_itself k = ap is_lt (tied_itself nat_list_cmp_total k)

not_low : (b : Bool) → not b ≡ true → b ≡ false
not_low true is = absurd cc
not_low false is = refl

module _ (all : Rows) (sorted : HasAscendingKeys all) where
  -- rows from some bytes on are those from the first of them on
  from_first : (least : List ℕ) (row : Row) (rest : Rows) → entries_from least all ≡ row ∷ rest → entries_from row.0 all ≡ row ∷ rest
  from_first least row rest is =
      sym (twice_from least row.0 (not_low _ (kept_first (λ e. not (is_lt (byte_order e.0 least))) all row rest is)) all)
      ∙ ap (entries_from row.0) is
      ∙ seek_stays row.0 row rest (subst HasAscendingKeys is (ascends_from least all sorted)) (not_below_itself row.0)

  -- so a walk from these bytes stands at its first row
  pub stands_from : (least : List ℕ) (given : Option (Bor (List ℕ) × Bor Change)) (old new : Rows)
      → MatchOption given ((old ≡ []) × (new ≡ [])) (λ row. old ≡ (row.0.now, row.1.now) ∷ new) → old ≡ entries_from least all
      → AreFromFirst (option_map deref_pair given) new all
  stands_from least None old new gives is = gives.1
  stands_from least (Some row) old new gives is = from_first least (row.0.now, row.1.now) new (sym is ∙ gives)

  -- and after a row is passed
  pub stands_after : (had : Option Row) (given : Option (Bor (List ℕ) × Bor Change)) (old new : Rows)
      → MatchOption given ((old ≡ []) × (new ≡ [])) (λ row. old ≡ (row.0.now, row.1.now) ∷ new) → AreFromFirst had old all
      → AreFromFirst (option_map deref_pair given) new all
  stands_after had None old new gives stands = gives.1
  stands_after None (Some row) old new gives stands =
      let wrong : (row.0.now, row.1.now) ∷ new ≡ [] = sym gives ∙ stands in
      absurd cc
  stands_after (Some had) (Some row) old new gives stands =
      let next : Row = (row.0.now, row.1.now) in
      let rows : entries_from had.0 all ≡ had ∷ next ∷ new = stands ∙ ap (λ l. had ∷ l) gives in
      let ascend : HasAscendingKeys (had ∷ next ∷ new) = subst HasAscendingKeys rows (ascends_from had.0 all sorted) in
      let up : byte_order had.0 next.0 ≡ Less = less _ (first _ _ (head_below had (next ∷ new) ascend)) in
      sym (twice_from had.0 next.0 (ap is_lt (turned had.0 next.0 Less up)) all)
      ∙ ap (entries_from next.0) rows
      ∙ seek_passes next.0 had (next ∷ new) (ap is_lt up)
      ∙ seek_stays next.0 next new (tail_ascends had (next ∷ new) ascend) (not_below_itself next.0)

  -- rows from bytes on that are above the first of some of them
  pub sought : (least : List ℕ) (had : Row) (rest : Rows) → entries_from had.0 all ≡ had ∷ rest → is_lt (byte_order had.0 least) ≡ true
      → entries_from least all ≡ entries_from least (had ∷ rest)
  sought least had rest stands low =
      sym (twice_from had.0 least (ap is_lt (turned had.0 least Less (lt_is _ low))) all) ∙ ap (entries_from least) stands

  -- the rows that it has left ascend
  pub ascends_left : (had : Option Row) (rest : Rows) → AreFromFirst had rest all → HasAscendingKeys (rows_from had rest)
  ascends_left None rest stands = tt
  ascends_left (Some row) rest stands = subst HasAscendingKeys stands (ascends_from row.0 all sorted)

-- what comes next, and what follows it, is what there was
pub given_back : (given : Option (Bor (List ℕ) × Bor Change)) (old new : Rows)
    → MatchOption given ((old ≡ []) × (new ≡ [])) (λ row. old ≡ (row.0.now, row.1.now) ∷ new) → rows_from (option_map deref_pair given) new ≡ old
given_back None old new gives = sym gives.0
given_back (Some row) old new gives = sym gives

-- what is left after it is passed
pub one_passed : (given : Option (Bor (List ℕ) × Bor Change)) (old new : Rows)
    → MatchOption given ((old ≡ []) × (new ≡ [])) (λ row. old ≡ (row.0.now, row.1.now) ∷ new) → new ≡ drop 1 old
one_passed None old new gives = gives.1 ∙ sym (ap (drop 1) gives.0)
one_passed (Some row) old new gives = sym (ap (drop 1) gives)

-- all rows are those from no bytes on
pub all_from : (rows : Rows) → entries_from [] rows ≡ rows
all_from [] = refl
all_from (row ∷ rows) = ap (λ b. cond (not b) (row ∷ entries_from [] rows) (entries_from [] rows)) (never row.0) ∙ ap (λ l. row ∷ l) (all_from rows)
  where
    never : (k : List ℕ) → is_lt (byte_order k []) ≡ false
    never [] = refl
    never (x ∷ k) = refl

-- ---- what a map gives between bounds
pub between_all : (rows : Rows) → entries_between byte_order Unbounded Unbounded rows ≡ rows
between_all [] = refl
between_all (row ∷ rows) = ap (λ l. row ∷ l) (between_all rows)

pub between_from : (path : List ℕ) (rows : Rows) → entries_between byte_order (Included path) Unbounded rows ≡ entries_from path rows
between_from path [] = refl
between_from path (row ∷ rows) = by (byte_order row.0 path) refl (between_from path rows)
  where
    kept : Ordering → Rows
    kept o =
        cond (is_le o && true) (row ∷ entries_between byte_order (Included path) Unbounded rows) (entries_between byte_order (Included path) Unbounded rows)

    by : (o : Ordering) → byte_order row.0 path ≡ o → entries_between byte_order (Included path) Unbounded rows ≡ entries_from path rows
        → kept (byte_order path row.0) ≡ cond (not (is_lt (byte_order row.0 path))) (row ∷ entries_from path rows) (entries_from path rows)
    by Less is rest =
        ap kept (turned row.0 path Less is) ∙ rest ∙ sym (ap (λ o. cond (not (is_lt o)) (row ∷ entries_from path rows) (entries_from path rows)) is)
    by Equal is rest = ap kept (turned row.0 path Equal is) ∙ ap (λ l. row ∷ l) rest
        ∙ sym (ap (λ o. cond (not (is_lt o)) (row ∷ entries_from path rows) (entries_from path rows)) is)
    by Greater is rest = ap kept (turned row.0 path Greater is) ∙ ap (λ l. row ∷ l) rest
        ∙ sym (ap (λ o. cond (not (is_lt o)) (row ∷ entries_from path rows) (entries_from path rows)) is)

-- ---- one more row in its place
module _ (least path : List ℕ) (change : Change) where
  abbrev own : Row
  own = (path, change)

  abbrev from : Rows → Rows
  from rows = entries_from least rows

  -- it is lost where it stands below these bytes
  put_low : is_lt (byte_order path least) ≡ true → (rows : Rows) → from (put byte_order path change rows) ≡ from rows
  put_low low [] = seek_passes least own [] low
  put_low low (row ∷ rows) = by (byte_order path row.0) refl (put_low low rows)
    where
      by : (o : Ordering) → byte_order path row.0 ≡ o → from (put byte_order path change rows) ≡ from rows
          → from (by_order o (own ∷ row ∷ rows) ((row.0, change) ∷ rows) (row ∷ put byte_order path change rows)) ≡ from (row ∷ rows)
      by Less is rest = seek_passes least own (row ∷ rows) low
      by Equal is rest =
          let here : is_lt (byte_order row.0 least) ≡ true = ap (λ k. is_lt (byte_order k least)) (sym (same_key path row.0 is)) ∙ low in
          seek_passes least (row.0, change) rows here ∙ sym (seek_passes least row rows here)
      by Greater is rest = ap (λ l. cond (not (is_lt (byte_order row.0 least))) (row ∷ l) l) rest

  -- and else is in its place
  put_high : is_lt (byte_order path least) ≡ false → (rows : Rows) → from (put byte_order path change rows) ≡ put byte_order path change (from rows)
  put_high high [] = ap (λ b. cond (not b) (own ∷ []) []) high
  put_high high (row ∷ rows) = by (byte_order path row.0) refl (is_lt (byte_order row.0 least)) refl (put_high high rows)
    where
      put_in : Ordering → Rows
      put_in o = by_order o (own ∷ row ∷ rows) ((row.0, change) ∷ rows) (row ∷ put byte_order path change rows)

      kept : (b : Bool) → is_lt (byte_order row.0 least) ≡ b → from (row ∷ rows) ≡ cond (not b) (row ∷ from rows) (from rows)
      kept b is = ap (λ b. cond (not b) (row ∷ from rows) (from rows)) is

      by : (o : Ordering) → byte_order path row.0 ≡ o → (b : Bool) → is_lt (byte_order row.0 least) ≡ b
          → from (put byte_order path change rows) ≡ put byte_order path change (from rows)
          → from (put_in o) ≡ put byte_order path change (from (row ∷ rows))
      by Less is true low rest =
          let wrong : true ≡ false = sym (below_down least path row.0 is low) ∙ high in
          absurd cc
      by Less is false never rest =
          ap (λ b. cond (not b) (own ∷ from (row ∷ rows)) (from (row ∷ rows))) high ∙ ap (λ l. own ∷ l) (kept false never)
          ∙ sym (ap (put byte_order path change) (kept false never)
          ∙ ap (λ o. by_order o (own ∷ row ∷ from rows) ((row.0, change) ∷ from rows) (row ∷ put byte_order path change (from rows))) is)
      by Equal is true low rest =
          let wrong : true ≡ false = sym (ap (λ k. is_lt (byte_order k least)) (same_key path row.0 is) ∙ low) ∙ high in
          absurd cc
      by Equal is false never rest =
          ap (λ b. cond (not b) ((row.0, change) ∷ from rows) (from rows)) never
          ∙ sym (ap (put byte_order path change) (kept false never)
          ∙ ap (λ o. by_order o (own ∷ row ∷ from rows) ((row.0, change) ∷ from rows) (row ∷ put byte_order path change (from rows))) is)
      by Greater is true low rest =
          ap (λ b. cond (not b) (row ∷ from (put byte_order path change rows)) (from (put byte_order path change rows))) low ∙ rest
          ∙ sym (ap (put byte_order path change) (kept true low))
      by Greater is false never rest =
          ap (λ b. cond (not b) (row ∷ from (put byte_order path change rows)) (from (put byte_order path change rows))) never ∙ ap (λ l. row ∷ l) rest
          ∙ sym (ap (put byte_order path change) (kept false never)
          ∙ ap (λ o. by_order o (own ∷ row ∷ from rows) ((row.0, change) ∷ from rows) (row ∷ put byte_order path change (from rows))) is)

pub from_put : (least : List ℕ) (waiting : Option Row) (rows : Rows)
    → entries_from least (put_row waiting rows) ≡ put_row (row_above least waiting) (entries_from least rows)
from_put least None rows = refl
from_put least (Some w) rows = by (is_lt (byte_order w.0 least)) refl
  where
    by : (b : Bool) → is_lt (byte_order w.0 least) ≡ b
        → entries_from least (put byte_order w.0 w.1 rows) ≡ put_row (cond b None (Some w)) (entries_from least rows)
    by true low = put_low least w.0 w.1 low rows
    by false high = put_high least w.0 w.1 high rows

-- a row in its place among those of changes
pub put_ascends : (waiting : Option Row) (under : Option ChangesValue) → HasAscendingKeys (put_row waiting (rows_under under))
put_ascends None None = tt
put_ascends None (Some changes) = entries_sorted changes
put_ascends (Some w) None = tt
put_ascends (Some w) (Some changes) = subst HasAscendingKeys (entries-insert nat_list_cmp_total changes w.0 w.1) (entries_sorted (insert changes w.0 w.1))
