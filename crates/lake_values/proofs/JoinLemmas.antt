-- The join of two sorted lists, front by front.
use Rattle.std.proofs.Common.{◌≡◌, ℕ, ◌<◌, Bool, true, false, cond, T, List, [], ◌∷◌, ◌++◌, ◌-◌, length, get_or, take, drop, length-drop, Option, Some, None}
use Rattle.std.proofs.Common.{refl, sym, ap, subst, ◌∙◌, append_assoc, append-nil, arith}
use Rattle.std.specs.List.{AllByRecursion}
use Rattle.std.specs.Ordering.{is_lt, eq_by_cmp}
use Rattle.std.specs.declared.cmp.Ordering.TheVariants.{Less, Equal}
use Rattle.std.proofs.lemmas.List.{take_all}
use Rattle.std.specs.FinMap.{find}
use Rattle.std.specs.FinMap.Entries.{below_all}
use Rattle.lake_values.specs.Join.{IsFront, IsJoin, rows_at}
use Rattle.lake_base.specs.Maps.{byte_order, HasAscendingKeys}
use Rattle.lake_base.proofs.MapsLemmas.{both, first, second, head_below, tail_ascends, same_key, less_more, find_none, tied}

-- what is made, before any join of the rests, is a join of the lists
abbrev pub JoinsRest : {A B C : Type 0} → (Option A → Option B → Option C) → List (List ℕ × A) → List (List ℕ × B) → List (List ℕ × A) → List (List ℕ × B)
    → List (List ℕ × C) → Type 0
JoinsRest {C = C} value all_left all_right left right made =
    (more : List (List ℕ × C)) → IsJoin value left right more → IsJoin value all_left all_right (made ++ more)

module _ {X : Type 0} where
  -- all but the first
  pub rest_is : (items : List (List ℕ × X)) → take (length items - 1) (drop 1 items) ≡ drop 1 items
  rest_is items = take_all (length items - 1) (drop 1 items) (omega (arith, length-drop 1 items))

  -- what is found behind a front
  pub find_rows : (q p : List ℕ) (had : Option X) (rest : List (List ℕ × X)) → T (below_all byte_order p rest)
      → find byte_order q (rows_at p had ++ rest) ≡ cond (eq_by_cmp byte_order q p) had (find byte_order q rest)
  find_rows q p (Some x) rest h = refl
  find_rows q p None rest h = nothing _ refl
    where
      nothing : (b : Bool) → eq_by_cmp byte_order q p ≡ b → find byte_order q rest ≡ cond b None (find byte_order q rest)
      nothing false e = refl
      nothing true e = find_none q rest (subst (λ k. T (below_all byte_order k rest)) (sym (same_key q p (tied _ e))) h)

  pub rest_below : (k p : List ℕ) (had : Option X) (rest : List (List ℕ × X)) → T (below_all byte_order k (rows_at p had ++ rest))
      → T (below_all byte_order k rest)
  rest_below k p None rest h = h
  rest_below k p (Some x) rest h = second _ _ h

  pub rest_ascends : (p : List ℕ) (had : Option X) (rest : List (List ℕ × X)) → HasAscendingKeys (rows_at p had ++ rest) → HasAscendingKeys rest
  rest_ascends p None rest h = h
  rest_ascends p (Some x) rest h = tail_ascends (p, x) rest h

  -- a value at a key below a list that ascends
  pub rows_ascend : (p : List ℕ) (value : Option X) (rest : List (List ℕ × X)) → T (below_all byte_order p rest) → HasAscendingKeys rest
      → HasAscendingKeys (rows_at p value ++ rest)
  rows_ascend p None rest h sorted = sorted
  rows_ascend p (Some x) rest h sorted = both _ _ h sorted

  one_below : (k p : List ℕ) (value : Option X) (rest : List (List ℕ × X)) → T (is_lt (byte_order k p)) → T (below_all byte_order k rest)
      → T (below_all byte_order k (rows_at p value ++ rest))
  one_below k p None rest lt h = h
  one_below k p (Some x) rest lt h = both _ _ lt h

  none_below : (k p : List ℕ) (value : Option X) (rest : List (List ℕ × X)) → value ≡ None → T (below_all byte_order k rest)
      → T (below_all byte_order k (rows_at p value ++ rest))
  none_below k p None rest e h = h
  none_below k p (Some x) rest e h = absurd cc

module _ {A B C : Type 0} (value : Option A → Option B → Option C) (nothing : value None None ≡ None) where
  rows_below : (k p : List ℕ) (had : Option A) (said : Option B) (left : List (List ℕ × A)) (right : List (List ℕ × B)) (items : List (List ℕ × C))
      → T (below_all byte_order k (rows_at p had ++ left)) → T (below_all byte_order k (rows_at p said ++ right)) → T (below_all byte_order k items)
      → T (below_all byte_order k (rows_at p (value had said) ++ items))
  rows_below k p (Some a) said left right items h g below = one_below k p (value (Some a) said) items (first _ _ h) below
  rows_below k p None (Some b) left right items h g below = one_below k p (value None (Some b)) items (first _ _ g) below
  rows_below k p None None left right items h g below = none_below k p (value None None) items nothing below

  valued : (b : Bool) (had x : Option A) (said y : Option B) → cond b (value had said) (value x y) ≡ value (cond b had x) (cond b said y)
  valued true had x said y = refl
  valued false had x said y = refl

  -- the value at the front, and the join of what is behind it
  front_join : (p : List ℕ) (had : Option A) (said : Option B) (left : List (List ℕ × A)) (right : List (List ℕ × B)) (items : List (List ℕ × C))
      → T (below_all byte_order p left) → T (below_all byte_order p right) → IsJoin value left right items
      → IsJoin value (rows_at p had ++ left) (rows_at p said ++ right) (rows_at p (value had said) ++ items)
  front_join p had said left right items h g join =
      let below = join.above p h g in
      record {
        ascends = rows_ascend p (value had said) items below join.ascends;
        above = λ k low high. rows_below k p had said left right items low high (join.above k (rest_below k p had left low) (rest_below k p said right high));
        values = λ q.
            let ties = eq_by_cmp byte_order q p in
            find_rows q p (value had said) items below
            ∙ ap (cond ties (value had said)) (join.values q)
            ∙ valued ties had (find byte_order q left) said (find byte_order q right)
            ∙ sym (ap (λ v. value v (find byte_order q (rows_at p said ++ right))) (find_rows q p had left h)
            ∙ ap (value (cond ties had (find byte_order q left))) (find_rows q p said right g));
      }

  pub join_step : (left : List (List ℕ × A)) (right : List (List ℕ × B)) (p : List ℕ) (had : Option A) (said : Option B) (left_rest : List (List ℕ × A))
      (right_rest : List (List ℕ × B)) (items : List (List ℕ × C))
      → IsFront left right p had said left_rest right_rest → IsJoin value left_rest right_rest items
      → IsJoin value left right (rows_at p (value had said) ++ items)
  join_step left right p had said left_rest right_rest items front join =
      let one = front_join p had said left_rest right_rest items front.left_above front.right_above join in
      subst (λ l. IsJoin value l right (rows_at p (value had said) ++ items)) (sym front.left_is)
      (subst (λ r. IsJoin value (rows_at p had ++ left_rest) r (rows_at p (value had said) ++ items)) (sym front.right_is) one)

  -- the join of nothing
  pub join_end : IsJoin value [] [] []
  join_end = record { ascends = tt; above = λ key low high. tt; values = λ key. sym nothing }

  -- one turn of the loop: what was made, the value at the front, and any join of the rest
  pub join_turn : (all_left left left_rest : List (List ℕ × A)) (all_right right right_rest : List (List ℕ × B)) (p : List ℕ) (had : Option A) (said : Option B)
      (left_here : Option C) (old new : List (List ℕ × C))
      → IsFront left right p had said left_rest right_rest → left_here ≡ value had said → new ≡ old ++ rows_at p left_here
      → JoinsRest value all_left all_right left right old → JoinsRest value all_left all_right left_rest right_rest new
  join_turn all_left left left_rest all_right right right_rest p had said left_here old new front made is before items join =
      let whole : new ≡ old ++ rows_at p (value had said) = is ∙ ap (λ v. old ++ rows_at p v) made in
      subst (IsJoin value all_left all_right) (sym (ap (λ l. l ++ items) whole ∙ append_assoc old (rows_at p (value had said)) items))
      (before (rows_at p (value had said) ++ items) (join_step left right p had said left_rest right_rest items front join))

-- ---- the front of two lists that are not empty
below_list : {X : Type 0} (p : List ℕ) (e : List ℕ × X) (es : List (List ℕ × X)) → HasAscendingKeys (e ∷ es) → byte_order p e.0 ≡ Less
    → T (below_all byte_order p (e ∷ es))
below_list p e es h lt = both _ _ (subst (λ r. T (is_lt r)) (sym lt) tt) (less_more p e.0 es lt (head_below e es h))

module _ {A B : Type 0} where
  pub front_less : (left : List (List ℕ × A)) (right : List (List ℕ × B)) (a : List ℕ × A) (b : List ℕ × B) → HasAscendingKeys left → HasAscendingKeys right
      → 0 < length left → 0 < length right → a ≡ get_or left 0 a → b ≡ get_or right 0 b → byte_order a.0 b.0 ≡ Less
      → IsFront left right a.0 (Some a.1) None (drop 1 left) right
  front_less [] right a b h g some more is other lt = absurd (omega arith)
  front_less (e ∷ es) [] a b h g some more is other lt = absurd (omega arith)
  front_less (e ∷ es) (f ∷ fs) a b h g some more is other lt =
      subst (λ x. IsFront (e ∷ es) (f ∷ fs) x.0 (Some x.1) None es (f ∷ fs)) (sym is) (record {
        left_is = refl;
        right_is = refl;
        left_above = head_below e es h;
        right_above = below_list e.0 f fs g (subst (λ y. byte_order e.0 y.0 ≡ Less) other (subst (λ x. byte_order x.0 b.0 ≡ Less) is lt));
        fewer = omega arith;
      })

  pub front_equal : (left : List (List ℕ × A)) (right : List (List ℕ × B)) (a : List ℕ × A) (b : List ℕ × B) → HasAscendingKeys left → HasAscendingKeys right
      → 0 < length left → 0 < length right → a ≡ get_or left 0 a → b ≡ get_or right 0 b → byte_order a.0 b.0 ≡ Equal
      → IsFront left right a.0 (Some a.1) (Some b.1) (drop 1 left) (drop 1 right)
  front_equal [] right a b h g some more is other tie = absurd (omega arith)
  front_equal (e ∷ es) [] a b h g some more is other tie = absurd (omega arith)
  front_equal (e ∷ es) (f ∷ fs) a b h g some more is other tie =
      let same : e.0 ≡ f.0 = same_key e.0 f.0 (subst (λ y. byte_order e.0 y.0 ≡ Equal) other (subst (λ x. byte_order x.0 b.0 ≡ Equal) is tie)) in
      subst (λ y. IsFront (e ∷ es) (f ∷ fs) a.0 (Some a.1) (Some y.1) es fs) (sym other)
      (subst (λ x. IsFront (e ∷ es) (f ∷ fs) x.0 (Some x.1) (Some f.1) es fs) (sym is) (record {
        left_is = refl;
        right_is = ap (λ k. (k, f.1) ∷ fs) (sym same);
        left_above = head_below e es h;
        right_above = subst (λ k. T (below_all byte_order k fs)) (sym same) (head_below f fs g);
        fewer = omega arith;
      }))

  pub front_greater : (left : List (List ℕ × A)) (right : List (List ℕ × B)) (a : List ℕ × A) (b : List ℕ × B) → HasAscendingKeys left → HasAscendingKeys right
      → 0 < length left → 0 < length right → a ≡ get_or left 0 a → b ≡ get_or right 0 b → byte_order b.0 a.0 ≡ Less
      → IsFront left right b.0 None (Some b.1) left (drop 1 right)
  front_greater [] right a b h g some more is other lt = absurd (omega arith)
  front_greater (e ∷ es) [] a b h g some more is other lt = absurd (omega arith)
  front_greater (e ∷ es) (f ∷ fs) a b h g some more is other lt =
      subst (λ y. IsFront (e ∷ es) (f ∷ fs) y.0 None (Some y.1) (e ∷ es) fs) (sym other) (record {
        left_is = refl;
        right_is = refl;
        left_above = below_list f.0 e es h (subst (λ y. byte_order y.0 e.0 ≡ Less) other (subst (λ x. byte_order b.0 x.0 ≡ Less) is lt));
        right_above = head_below f fs g;
        fewer = omega arith;
      })

-- ---- the end of the walk
pub whole_join : {A B C : Type 0} (value : Option A → Option B → Option C) → value None None ≡ None
    → (all_left left : List (List ℕ × A)) (all_right right : List (List ℕ × B)) (made : List (List ℕ × C))
    → left ≡ [] → right ≡ [] → JoinsRest value all_left all_right left right made → IsJoin value all_left all_right made
whole_join {C = C} value nothing all_left left all_right right made no_left no_right joins =
    subst (IsJoin value all_left all_right) (append-nil made)
    (joins [] (subst (λ l. IsJoin value l right []) (sym no_left) (subst (λ r. IsJoin value [] r []) (sym no_right) (join_end value nothing))))

-- what holds of all of two lists holds of all of both
pub all_append : {X : Type 0} (P : X → Type 0) (low high : List X) → AllByRecursion P low → AllByRecursion P high → AllByRecursion P (low ++ high)
all_append P [] high all more = more
all_append P (x ∷ low) high all more = (all.0, all_append P low high all.1 more)
