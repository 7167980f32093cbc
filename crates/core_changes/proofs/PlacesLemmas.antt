-- Maps in which a key may be room for a value, after one place was made or changed.
use Rattle.std.proofs.Common.{◌≡◌, ℕ, Bool, true, false, cond, ◌||◌, List, refl, sym, ap, subst, ◌∙◌}
use Rattle.std.specs.Prelude.{Option, Some, None, option_map, IfSome}
use Rattle.std.specs.Option.{option_and_then, option_map_or, is_some}
use Rattle.std.specs.Ordering.{is_eq}
use Rattle.std.specs.Str.{bytes_eq}
use Rattle.std.specs.Cmp.{tied_itself}
use Rattle.std.specs.Cmp.Lexicographic.{texts_ties, same_text}
use Rattle.std.specs.FinMap.{contains_key, get, insert}
use Rattle.std.proofs.lemmas.Cmp.{nat_list_cmp_total}
use Rattle.lake_base.specs.Maps.{ByteMap}
use Rattle.byte_map.specs.Values.{map_values, some_values}
use Rattle.byte_map.proofs.ByteMapLemmas.{same_maps, contains_insert, get_insert, insert_same}
use Rattle.byte_map.proofs.ValuesLemmas.{get_some_values, get_map_values, some_values_insert}
use Rattle.lake_model.specs.Parts.{changed_at}

-- ---- a key that is put
module _ {V : Type 0} (m : ByteMap V) (k : List ℕ) where
  same_bytes : bytes_eq k k ≡ true
  same_bytes = texts_ties k k ∙ ap is_eq (tied_itself nat_list_cmp_total k)

  get_put : (v : V) → get (insert m k v) k ≡ Some v
  get_put v = get_insert m k v k ∙ ap (λ b. cond b (Some v) (get m k)) same_bytes

  pub contains_put : (v : V) → contains_key (insert m k v) k ≡ true
  contains_put v = ap is_some (get_put v)

  or_there : (b : Bool) → (b || true) ≡ true
  or_there true = refl
  or_there false = refl

  -- each key that was there stays
  pub kept_put : (v : V) (q : List ℕ) → contains_key m q ≡ true → contains_key (insert m k v) q ≡ true
  kept_put v q there = contains_insert m k v q ∙ ap (λ b. bytes_eq q k || b) there ∙ or_there (bytes_eq q k)

module _ {X : Type 0} (m : ByteMap (Option X)) (k : List ℕ) where
  absent : (o : Option (Option X)) → is_some o ≡ false → o ≡ None
  absent None e = refl
  absent (Some place) e = cc

  -- a place is made where none is: the same values stand
  pub room_put : contains_key m k ≡ false → some_values (λ place. place) (insert m k None) ≡ some_values (λ place. place) m
  room_put none = same_maps _ _ (λ q.
      get_some_values (λ place. place) (insert m k None) q ∙ ap (option_and_then (λ place. place)) (get_insert m k None q)
      ∙ by q (bytes_eq q k) refl ∙ sym (get_some_values (λ place. place) m q))
    where
      by : (q : List ℕ) (b : Bool) → bytes_eq q k ≡ b
          → option_and_then (λ place. place) (cond b (Some None) (get m q)) ≡ option_and_then (λ place. place) (get m q)
      by q true e = sym (ap (option_and_then (λ place. place)) (ap (get m) (same_text q k (sym e)) ∙ absent (get m k) none))
      by q false e = refl

  -- what holds of the value that was put holds of the one that is found
  pub holds_there : (P : X → Type 0) (place : Option X) → IfSome place P → (x : X) → get (insert m k place) k ≡ Some (Some x) → P x
  holds_there P place holds x is =
      let found : Some place ≡ Some (Some x) = sym (get_put m k place) ∙ is in
      let same : place ≡ Some x = cc in
      subst (λ o. IfSome o P) same holds

module _ {X Y : Type 0} (f : X → Y) where
  -- what is said of the values that stand in the places
  abbrev pub map_of : ByteMap (Option X) → ByteMap Y
  map_of m = some_values (option_map f) m

  value_at : (o : Option (Option X)) → option_and_then (option_map f) o ≡ option_map f (option_and_then (λ place. place) o)
  value_at None = refl
  value_at (Some place) = refl

  -- it is made of the values that stand there
  values_there : (m : ByteMap (Option X)) → map_of m ≡ map_values f (some_values (λ place. place) m)
  values_there m = same_maps _ _ (λ q.
      get_some_values (option_map f) m q ∙ value_at (get m q)
      ∙ sym (get_map_values f (some_values (λ place. place) m) q ∙ ap (option_map f) (get_some_values (λ place. place) m q)))

  -- where the same values stand, the same is said of them
  pub same_values : (m n : ByteMap (Option X)) → some_values (λ place. place) n ≡ some_values (λ place. place) m
      → map_of n ≡ map_of m
  same_values m n e = values_there n ∙ ap (map_values f) e ∙ sym (values_there m)

  module _ (m : ByteMap (Option X)) (k : List ℕ) where
    -- what is said of a place
    said_at : (place : Option X) → Some place ≡ get m k → get (map_of m) k ≡ option_map f place
    said_at place is = get_some_values (option_map f) m k ∙ ap (option_and_then (option_map f)) (sym is)

    said_nowhere : None ≡ get m k → get (map_of m) k ≡ None
    said_nowhere is = get_some_values (option_map f) m k ∙ ap (option_and_then (option_map f)) (sym is)

    -- what holds of all that is said of a place holds of the value that stands there
    pub asked_there : (P : Y → Type 0) → ((y : Y) → get (map_of m) k ≡ Some y → P y)
        → (place : Option X) → Some place ≡ get m k → IfSome place (λ x. P (f x))
    asked_there P asked None is = tt
    asked_there P asked (Some x) is = asked (f x) (said_at (Some x) is)

    -- where nothing is said, nothing is changed
    unchanged : (g : Y → Y) → get (map_of m) k ≡ None → map_of m ≡ changed_at k g (map_of m)
    unchanged g none = sym (ap (λ o. option_map_or (λ y. insert (map_of m) k (g y)) o (map_of m)) none)

    -- where there is no place, nothing is changed
    pub changed_nowhere : (g : Y → Y) → None ≡ get m k → map_of m ≡ changed_at k g (map_of m)
    changed_nowhere g is = unchanged g (said_nowhere is)

    -- what stands in a place is changed
    pub changed_place : (g : Y → Y) (old new : Option X) → Some old ≡ get m k → option_map f new ≡ option_map g (option_map f old)
        → map_of (insert m k new) ≡ changed_at k g (map_of m)
    changed_place g None None is e =
        ap (some_values (option_map f)) (insert_same m k None (sym is)) ∙ unchanged g (said_at None is)
    changed_place g None (Some y) is e = cc
    changed_place g (Some x) None is e = cc
    changed_place g (Some x) (Some y) is e =
        some_values_insert (option_map f) m k (Some y) (g (f x)) e
        ∙ sym (ap (λ o. option_map_or (λ v. insert (map_of m) k (g v)) o (map_of m)) (said_at (Some x) is))

    -- the same is said of what stands in a place
    pub same_place : (old new : Option X) → Some old ≡ get m k → option_map f new ≡ option_map f old
        → map_of (insert m k new) ≡ map_of m
    same_place None None is e = ap (some_values (option_map f)) (insert_same m k None (sym is))
    same_place None (Some y) is e = cc
    same_place (Some x) None is e = cc
    same_place (Some x) (Some y) is e =
        some_values_insert (option_map f) m k (Some y) (f x) e ∙ insert_same (map_of m) k (f x) (said_at (Some x) is)
