-- Finite maps whose keys are byte lists, in byte order, and where a key stands in their lists.
use Rattle.std.specs.Prelude.{◌≡◌, ◌≤◌, ◌<◌, ℕ, T, List, length}
use Rattle.std.specs.List.{HoldsAt, AllWithin}
use Rattle.std.specs.List.Sorted.{IsStrictlySortedBy}
use Rattle.std.specs.Ordering.{nat_cmp}
use Rattle.std.specs.declared.cmp.Ordering.{Ordering}
use Rattle.std.specs.declared.cmp.Ordering.TheVariants.{Less, Equal, Greater}
use Rattle.std.specs.Cmp.Lexicographic.{slice_cmp}
use Rattle.std.specs.FinMap.{FinMap, is_sorted}

-- byte lists in byte order
abbrev pub byte_order : List ℕ → List ℕ → Ordering
byte_order = slice_cmp nat_cmp

-- a finite map from byte lists
abbrev pub ByteMap : Type 0 → Type 0
ByteMap X = FinMap byte_order X

-- the keys of a list strictly ascend
abbrev pub HasAscendingKeys : {X : Type 0} → List (List ℕ × X) → Type 0
HasAscendingKeys items = T (is_sorted byte_order items)

-- byte lists that strictly ascend
abbrev pub IsAscending : List (List ℕ) → Type 0
IsAscending = IsStrictlySortedBy byte_order

-- the key stands at this place
pub record IsAt {X : Type 0} (items : List (List ℕ × X)) (key : List ℕ) (at : ℕ) : Type 0 where
  pub within : at < length items
  pub same : HoldsAt (λ item. byte_order item.0 key ≡ Equal) items at

-- the key would go to this place: lesser keys stand before it, and greater ones from it on
pub record IsGap {X : Type 0} (items : List (List ℕ × X)) (key : List ℕ) (at : ℕ) : Type 0 where
  pub within : at ≤ length items
  pub before : AllWithin (λ item. byte_order item.0 key ≡ Less) items 0 at
  pub from : AllWithin (λ item. byte_order item.0 key ≡ Greater) items at (length items)
