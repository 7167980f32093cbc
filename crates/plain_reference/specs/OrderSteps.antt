-- Lists in an order, each item once.
use Rattle.std.specs.Prelude.{List, [], ◌∷◌}
use Rattle.std.specs.declared.cmp.Ordering.{Ordering}
use Rattle.std.specs.FinMap.Entries.{by_order}

-- the items with this one in its place; as they are where it is among them
abbrev pub with_item : {K : Type 0} → (K → K → Ordering) → K → List K → List K
with_item order item [] = item ∷ []
with_item order item (other ∷ items) =
    by_order (order item other) (item ∷ other ∷ items) (other ∷ items) (other ∷ with_item order item items)
