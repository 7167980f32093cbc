-- What is found in a map from byte lists after a change of it, and which changes come to the same.
use Rattle.std.proofs.Common.{◌≡◌, ℕ, Bool, true, false, cond, ◌||◌, List, Some, None, Option, is_some, refl, sym, ap, ◌∙◌}
use Rattle.std.specs.Ordering.{is_eq}
use Rattle.std.specs.Str.{bytes_eq}
use Rattle.std.specs.Cmp.{tied_itself}
use Rattle.std.specs.Cmp.Lexicographic.{texts_ties, same_text}
use Rattle.std.proofs.lemmas.Cmp.{nat_list_cmp_total}
use Rattle.std.specs.FinMap.{get, contains_key, insert, remove, empty, same_map, slice_cmp-IsAntisymmetric, nat_cmp-IsAntisymmetric, get-empty, get-insert}
use Rattle.std.specs.FinMap.{get-remove}
use Rattle.lake_base.specs.Maps.{byte_order, ByteMap}

same_bytes : (k : List ℕ) → bytes_eq k k ≡ true
same_bytes k = texts_ties k k ∙ ap is_eq (tied_itself nat_list_cmp_total k)

module _ {X : Type 0} where
  -- maps in which the same is found under each key are one
  pub same_maps : (m n : ByteMap X) → ((q : List ℕ) → get m q ≡ get n q) → m ≡ n
  same_maps = same_map nat_list_cmp_total (slice_cmp-IsAntisymmetric nat_cmp-IsAntisymmetric)

  -- ---- what is found
  pub get_empty : (q : List ℕ) → get (empty {X = X} {R = byte_order}) q ≡ None
  get_empty = get-empty byte_order

  pub get_insert : (m : ByteMap X) (k : List ℕ) (x : X) (q : List ℕ) → get (insert m k x) q ≡ cond (bytes_eq q k) (Some x) (get m q)
  get_insert m k x q = get-insert nat_list_cmp_total m k x q ∙ ap (λ b. cond b (Some x) (get m q)) (sym (texts_ties q k))

  pub get_remove : (m : ByteMap X) (k q : List ℕ) → get (remove m k) q ≡ cond (bytes_eq q k) None (get m q)
  get_remove m k q = get-remove nat_list_cmp_total m k q ∙ ap (λ b. cond b None (get m q)) (sym (texts_ties q k))

  -- what was put under a key is there
  pub get_inserted : (m : ByteMap X) (k : List ℕ) (x : X) → get (insert m k x) k ≡ Some x
  get_inserted m k x = get_insert m k x k ∙ ap (λ b. cond b (Some x) (get m k)) (same_bytes k)

  -- what was taken out isn't there
  pub get_removed : (m : ByteMap X) (k : List ℕ) → get (remove m k) k ≡ None
  get_removed m k = get_remove m k k ∙ ap (λ b. cond b None (get m k)) (same_bytes k)

  some_put : (b : Bool) (x : X) (o : Option X) → is_some (cond b (Some x) o) ≡ (b || is_some o)
  some_put true x o = refl
  some_put false x o = refl

  pub contains_insert : (m : ByteMap X) (k : List ℕ) (x : X) (q : List ℕ) → contains_key (insert m k x) q ≡ (bytes_eq q k || contains_key m q)
  contains_insert m k x q = ap is_some (get_insert m k x q) ∙ some_put (bytes_eq q k) x (get m q)

  some_left : (b : Bool) (o : Option X) → is_some (cond b None o) ≡ cond b false (is_some o)
  some_left true o = refl
  some_left false o = refl

  pub contains_remove : (m : ByteMap X) (k q : List ℕ) → contains_key (remove m k) q ≡ cond (bytes_eq q k) false (contains_key m q)
  contains_remove m k q = ap is_some (get_remove m k q) ∙ some_left (bytes_eq q k) (get m q)

  -- ---- changes that come to the same
  as_it_was : (m : ByteMap X) (k : List ℕ) (w : Option X) → get m k ≡ w → (q : List ℕ) (b : Bool) → bytes_eq q k ≡ b → cond b w (get m q) ≡ get m q
  as_it_was m k w there q true e = sym there ∙ ap (get m) (sym (same_text q k (sym e)))
  as_it_was m k w there q false e = refl

  -- what a key has is put under it again
  pub insert_same : (m : ByteMap X) (k : List ℕ) (x : X) → get m k ≡ Some x → insert m k x ≡ m
  insert_same m k x there = same_maps (insert m k x) m (λ q. get_insert m k x q ∙ as_it_was m k (Some x) there q _ refl)

  -- a key that isn't there is taken out
  pub remove_absent : (m : ByteMap X) (k : List ℕ) → get m k ≡ None → remove m k ≡ m
  remove_absent m k absent = same_maps (remove m k) m (λ q. get_remove m k q ∙ as_it_was m k None absent q _ refl)

  put_over : (b : Bool) (v w o : Option X) → cond b w (cond b v o) ≡ cond b w o
  put_over true v w o = refl
  put_over false v w o = refl

  -- of two values that are put under a key the second stays
  pub insert_over : (m : ByteMap X) (k : List ℕ) (x y : X) → insert (insert m k x) k y ≡ insert m k y
  insert_over m k x y = same_maps _ _ (λ q.
      get_insert (insert m k x) k y q ∙ ap (cond (bytes_eq q k) (Some y)) (get_insert m k x q) ∙ put_over (bytes_eq q k) (Some x) (Some y) (get m q)
      ∙ sym (get_insert m k y q))

  -- a value that is put under a key and taken out again
  pub remove_inserted : (m : ByteMap X) (k : List ℕ) (x : X) → remove (insert m k x) k ≡ remove m k
  remove_inserted m k x = same_maps _ _ (λ q.
      get_remove (insert m k x) k q ∙ ap (cond (bytes_eq q k) None) (get_insert m k x q) ∙ put_over (bytes_eq q k) (Some x) None (get m q)
      ∙ sym (get_remove m k q))

-- for a function that changes a value where it stands: `using` names it
pub ruleset in_place = (insert_same, get_inserted, insert_over)
