-- Rows of a map: pairs of a key and a value, in order.
use Rattle.std.specs.Prelude.{ℕ, List, map, filter}
use Rattle.std.specs.FinMap.{entries}
use Rattle.std.specs.Ordering.{is_lt}
use Rattle.lake_base.specs.Maps.{byte_order, ByteMap}

-- the rows with each key as its bytes
abbrev pub rows_by_bytes : {K X : Type 0} → (K → List ℕ) → List (K × X) → List (List ℕ × X)
rows_by_bytes bytes rows = map (λ row. (bytes row.0, row.1)) rows

-- the entries whose keys are above a key, in order
abbrev pub entries_above : {X : Type 0} → List ℕ → ByteMap X → List (List ℕ × X)
entries_above key m = filter (λ row. is_lt (byte_order key row.0)) (entries m)
