-- The walk over two sorted lists: their front, and what a join makes of them.
use Rattle.std.specs.Prelude.{◌≡◌, ◌+◌, ◌<◌, ℕ, T, Option, Some, None, List, [], ◌∷◌, ◌++◌, length}
use Rattle.std.specs.FinMap.Entries.{below_all, find}
use Rattle.lake_base.specs.Maps.{byte_order, HasAscendingKeys}

-- the value at a key, where there is one
abbrev pub rows_at : {X : Type 0} → List ℕ → Option X → List (List ℕ × X)
rows_at key None = []
rows_at key (Some value) = (key, value) ∷ []

-- the least key of two sorted lists, what each has there, and what each has after it
pub record IsFront {A B : Type 0} (left : List (List ℕ × A)) (right : List (List ℕ × B)) (key : List ℕ) (had : Option A) (said : Option B)
    (left_rest : List (List ℕ × A)) (right_rest : List (List ℕ × B)) : Type 0 where
  pub left_is : left ≡ rows_at key had ++ left_rest
  pub right_is : right ≡ rows_at key said ++ right_rest
  pub left_above : T (below_all byte_order key left_rest)
  pub right_above : T (below_all byte_order key right_rest)
  pub fewer : length left_rest + length right_rest < length left + length right

-- the join of two sorted lists: sorted, not below both, and at each key the value of what both have there
pub record IsJoin {A B C : Type 0} (value : Option A → Option B → Option C) (left : List (List ℕ × A)) (right : List (List ℕ × B))
    (items : List (List ℕ × C)) : Type 0 where
  pub ascends : HasAscendingKeys items
  pub above : (key : List ℕ) → T (below_all byte_order key left) → T (below_all byte_order key right) → T (below_all byte_order key items)
  pub values : (key : List ℕ) → find byte_order key items ≡ value (find byte_order key left) (find byte_order key right)
