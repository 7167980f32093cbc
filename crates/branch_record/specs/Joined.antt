-- Changes of layers as one, a layer being changes in order of path; the newest layer stands first.
use Rattle.std.specs.Prelude.{◌≡◌, ℕ, List, [], ◌∷◌, Option, Some, None, map, if◌then◌else◌}
use Rattle.std.specs.Borrow.{Bor}
use Rattle.std.specs.List.{AllByRecursion}
use Rattle.std.specs.Option.{option_or}
use Rattle.std.specs.FinMap.{empty, entries, find, from_sorted}
use Rattle.std.specs.Ordering.{is_lt}
use Rattle.lake_base.specs.Maps.{byte_order, HasAscendingKeys}
use Rattle.lake_values.specs.KeyMap.{ChangesValue, over}
use Rattle.lake_values.specs.declared.entry.Change.{Change}
use Rattle.branch_record.specs.Layers.{rows_below}
use Rattle.branch_record.specs.Tokens.{TokenMap, changes_under}

-- the changes of one layer
abbrev pub Layer : Type 0
Layer = List (List ℕ × Change)

-- the changes of layers: each over those of the older ones
unfoldable pub changes_joined : List Layer → ChangesValue
changes_joined [] = empty
changes_joined (newest ∷ older) = over (from_sorted newest) (changes_joined older)

-- the same, in order of path
abbrev pub rows_joined : List Layer → Layer
rows_joined layers = entries (changes_joined layers)

-- the changes under each of these tokens
abbrev pub layers_under : TokenMap → List ℕ → List Layer
layers_under tokens these = map (λ token. entries (changes_under tokens token)) these

-- each layer stands in order of path
abbrev pub AreAscending : List Layer → Type 0
AreAscending layers = AllByRecursion HasAscendingKeys layers

-- ---- the walk

-- what the newest layer says that names the path
abbrev pub said_by_layers : List Layer → List ℕ → Option Change
said_by_layers [] path = None
said_by_layers (newest ∷ older) path = option_or (find byte_order path newest) (said_by_layers older path)

-- no layer has a change at a path below this one
abbrev pub HasNoneBelow : List ℕ → List Layer → Type 0
HasNoneBelow path layers = AllByRecursion (λ layer. rows_below path layer ≡ []) layers

-- a change at the least path of the layers, of the newest layer that names it
pub record IsFirst (layers : List Layer) (path : List ℕ) (change : Change) : Type 0 where
  pub least : HasNoneBelow path layers
  pub newest : said_by_layers layers path ≡ Some change

-- the change at the lesser path, and of two at one path the newer
abbrev pub earlier_change : Option (Bor (List ℕ) × Bor Change) → Option (Bor (List ℕ) × Bor Change) → Option (Bor (List ℕ) × Bor Change)
earlier_change None older = older
earlier_change (Some newer) None = Some newer
earlier_change (Some newer) (Some older) = if is_lt (byte_order older.0.now newer.0.now) then Some older else Some newer
