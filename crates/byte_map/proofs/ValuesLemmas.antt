-- What a map with other values has: its entries, what is found in it, and what it is after a change of the first map.
use Rattle.std.proofs.Common.{◌≡◌, ℕ, Bool, true, false, cond, T, List, [], ◌∷◌, Some, None, Option, is_some, refl, sym, ap, subst, ◌∙◌, length}
use Rattle.std.proofs.lemmas.List.{length-map}
use Rattle.std.specs.Option.{option_map, option_and_then}
use Rattle.std.specs.List.{cons_option}
use Rattle.std.specs.Ordering.{eq_by_cmp, is_lt}
use Rattle.std.specs.Str.{bytes_eq}
use Rattle.std.specs.FinMap.{find, get, len, entries, entries_sorted, contains_key, insert, remove, empty, from_sorted, get-entries, len-entries}
use Rattle.std.specs.FinMap.{entries-from_sorted}
use Rattle.std.specs.FinMap.Entries.{below_all}
use Rattle.lake_base.specs.Maps.{byte_order, ByteMap, HasAscendingKeys}
use Rattle.lake_base.proofs.MapsLemmas.{first, second, both, head_below, tail_ascends, same_key, tied, find_none}
use Rattle.byte_map.specs.Values.{map_rows, some_rows, map_values, some_values}
use Rattle.byte_map.proofs.ByteMapLemmas.{same_maps, get_empty, get_insert, get_remove, get_inserted, insert_same, insert_over}

-- ---- the values that f gives, where it gives one
module _ {X Y : Type 0} (f : X → Option Y) where
  below_one : (k key : List ℕ) (o : Option Y) (rows : List (List ℕ × X)) → T (is_lt (byte_order k key)) → T (below_all byte_order k (some_rows f rows))
      → T (below_all byte_order k (cons_option (option_map (λ y. (key, y)) o) (some_rows f rows)))
  below_one k key None rows one rest = rest
  below_one k key (Some y) rows one rest = both _ _ one rest

  below_some : (k : List ℕ) (rows : List (List ℕ × X)) → T (below_all byte_order k rows) → T (below_all byte_order k (some_rows f rows))
  below_some k [] h = h
  below_some k (row ∷ rows) h = below_one k row.0 (f row.1) rows (first _ _ h) (below_some k rows (second _ _ h))

  ascend_one : (key : List ℕ) (o : Option Y) (rows : List (List ℕ × X)) → T (below_all byte_order key (some_rows f rows)) → HasAscendingKeys (some_rows f rows)
      → HasAscendingKeys (cons_option (option_map (λ y. (key, y)) o) (some_rows f rows))
  ascend_one key None rows below rest = rest
  ascend_one key (Some y) rows below rest = both _ _ below rest

  ascend_some : (rows : List (List ℕ × X)) → HasAscendingKeys rows → HasAscendingKeys (some_rows f rows)
  ascend_some [] h = h
  ascend_some (row ∷ rows) h = ascend_one row.0 (f row.1) rows (below_some row.0 rows (head_below row rows h)) (ascend_some rows (tail_ascends row rows h))

  found_one : (q : List ℕ) (row : List ℕ × X) (rows : List (List ℕ × X)) → HasAscendingKeys (row ∷ rows)
      → find byte_order q (some_rows f rows) ≡ option_and_then f (find byte_order q rows)
      → (o : Option Y) → f row.1 ≡ o → (b : Bool) → eq_by_cmp byte_order q row.0 ≡ b
      → find byte_order q (cons_option (option_map (λ y. (row.0, y)) o) (some_rows f rows)) ≡ option_and_then f (cond b (Some row.1) (find byte_order q rows))
  found_one q row rows h rest None e true t =
      let below : T (below_all byte_order q rows) = subst (λ k. T (below_all byte_order k rows)) (sym (same_key q row.0 (tied _ t))) (head_below row rows h) in
      rest ∙ ap (option_and_then f) (find_none q rows below) ∙ sym e
  found_one q row rows h rest None e false t = rest
  found_one q row rows h rest (Some y) e true t = ap (λ b. cond b (Some y) (find byte_order q (some_rows f rows))) t ∙ sym e
  found_one q row rows h rest (Some y) e false t = ap (λ b. cond b (Some y) (find byte_order q (some_rows f rows))) t ∙ rest

  find_some : (q : List ℕ) (rows : List (List ℕ × X)) → HasAscendingKeys rows
      → find byte_order q (some_rows f rows) ≡ option_and_then f (find byte_order q rows)
  find_some q [] h = refl
  find_some q (row ∷ rows) h = found_one q row rows h (find_some q rows (tail_ascends row rows h)) (f row.1) refl (eq_by_cmp byte_order q row.0) refl

  pub entries_some_values : (m : ByteMap X) → entries (some_values f m) ≡ some_rows f (entries m)
  unfolding some_values
  entries_some_values m = entries-from_sorted byte_order (some_rows f (entries m)) (ascend_some (entries m) (entries_sorted m))

  pub get_some_values : (m : ByteMap X) (q : List ℕ) → get (some_values f m) q ≡ option_and_then f (get m q)
  get_some_values m q =
      get-entries (some_values f m) q ∙ ap (find byte_order q) (entries_some_values m)
      ∙ find_some q (entries m) (entries_sorted m) ∙ ap (option_and_then f) (sym (get-entries m q))

  given : (x : X) (y : Y) → f x ≡ Some y → (b : Bool) (o : Option X) → option_and_then f (cond b (Some x) o) ≡ cond b (Some y) (option_and_then f o)
  given x y e true o = e
  given x y e false o = refl

  ungiven : (w : Option X) → option_and_then f w ≡ None → (b : Bool) (o : Option X) → option_and_then f (cond b w o) ≡ cond b None (option_and_then f o)
  ungiven w e true o = e
  ungiven w e false o = refl

  pub some_values_insert : (m : ByteMap X) (k : List ℕ) (x : X) (y : Y) → f x ≡ Some y → some_values f (insert m k x) ≡ insert (some_values f m) k y
  some_values_insert m k x y e = same_maps _ _ (λ q.
      get_some_values (insert m k x) q ∙ ap (option_and_then f) (get_insert m k x q) ∙ given x y e (bytes_eq q k) (get m q)
      ∙ sym (get_insert (some_values f m) k y q ∙ ap (cond (bytes_eq q k) (Some y)) (get_some_values m q)))

  pub some_values_insert_none : (m : ByteMap X) (k : List ℕ) (x : X) → f x ≡ None → some_values f (insert m k x) ≡ remove (some_values f m) k
  some_values_insert_none m k x e = same_maps _ _ (λ q.
      get_some_values (insert m k x) q ∙ ap (option_and_then f) (get_insert m k x q) ∙ ungiven (Some x) e (bytes_eq q k) (get m q)
      ∙ sym (get_remove (some_values f m) k q ∙ ap (cond (bytes_eq q k) None) (get_some_values m q)))

  pub some_values_remove : (m : ByteMap X) (k : List ℕ) → some_values f (remove m k) ≡ remove (some_values f m) k
  some_values_remove m k = same_maps _ _ (λ q.
      get_some_values (remove m k) q ∙ ap (option_and_then f) (get_remove m k q) ∙ ungiven None refl (bytes_eq q k) (get m q)
      ∙ sym (get_remove (some_values f m) k q ∙ ap (cond (bytes_eq q k) None) (get_some_values m q)))

  pub some_values_empty : some_values f empty ≡ empty
  some_values_empty = same_maps _ _ (λ q. get_some_values empty q ∙ ap (option_and_then f) (get_empty q) ∙ sym (get_empty q))

-- ---- what f makes of each value
module _ {X Y : Type 0} (f : X → Y) where
  map_rows_some : (rows : List (List ℕ × X)) → map_rows f rows ≡ some_rows (λ x. Some (f x)) rows
  map_rows_some [] = refl
  map_rows_some (row ∷ rows) = ap (λ l. (row.0, f row.1) ∷ l) (map_rows_some rows)

  -- f always gives a value
  pub map_values_some : (m : ByteMap X) → map_values f m ≡ some_values (λ x. Some (f x)) m
  unfolding map_values some_values
  map_values_some m = ap from_sorted (map_rows_some (entries m))

  pub entries_map_values : (m : ByteMap X) → entries (map_values f m) ≡ map_rows f (entries m)
  entries_map_values m = ap entries (map_values_some m) ∙ entries_some_values (λ x. Some (f x)) m ∙ sym (map_rows_some (entries m))

  each_given : (o : Option X) → option_and_then (λ x. Some (f x)) o ≡ option_map f o
  each_given None = refl
  each_given (Some x) = refl

  pub get_map_values : (m : ByteMap X) (q : List ℕ) → get (map_values f m) q ≡ option_map f (get m q)
  get_map_values m q = ap (λ n. get n q) (map_values_some m) ∙ get_some_values (λ x. Some (f x)) m q ∙ each_given (get m q)

  there : (o : Option X) → is_some (option_map f o) ≡ is_some o
  there None = refl
  there (Some x) = refl

  pub contains_map_values : (m : ByteMap X) (q : List ℕ) → contains_key (map_values f m) q ≡ contains_key m q
  contains_map_values m q = ap is_some (get_map_values m q) ∙ there (get m q)

  pub len_map_values : (m : ByteMap X) → len (map_values f m) ≡ len m
  len_map_values m = len-entries (map_values f m) ∙ ap length (entries_map_values m) ∙ length-map (entries m) (λ row. (row.0, f row.1)) ∙ sym (len-entries m)

  pub map_values_insert : (m : ByteMap X) (k : List ℕ) (x : X) → map_values f (insert m k x) ≡ insert (map_values f m) k (f x)
  map_values_insert m k x =
      map_values_some (insert m k x) ∙ some_values_insert (λ x. Some (f x)) m k x (f x) refl ∙ ap (λ n. insert n k (f x)) (sym (map_values_some m))

  pub map_values_remove : (m : ByteMap X) (k : List ℕ) → map_values f (remove m k) ≡ remove (map_values f m) k
  map_values_remove m k = map_values_some (remove m k) ∙ some_values_remove (λ x. Some (f x)) m k ∙ ap (λ n. remove n k) (sym (map_values_some m))

  pub map_values_empty : map_values f empty ≡ empty
  map_values_empty = map_values_some empty ∙ some_values_empty (λ x. Some (f x))

-- the same, where contracts see the map with other values
pub ruleset values_in_place = (insert_same, get_inserted, insert_over, get_map_values, map_values_insert)
