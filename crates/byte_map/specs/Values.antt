-- Maps with other values under their keys.
use Rattle.std.specs.Prelude.{ℕ, List, Option, map, option_map}
use Rattle.std.specs.List.{filter_map}
use Rattle.std.specs.FinMap.{entries, from_sorted}
use Rattle.lake_base.specs.Maps.{ByteMap}

-- the rows with what f makes of each value
abbrev pub map_rows : {X Y : Type 0} → (X → Y) → List (List ℕ × X) → List (List ℕ × Y)
map_rows f rows = map (λ row. (row.0, f row.1)) rows

-- the rows with the values that f gives, without those for which it gives none
abbrev pub some_rows : {X Y : Type 0} → (X → Option Y) → List (List ℕ × X) → List (List ℕ × Y)
some_rows f rows = filter_map (λ row. option_map (λ y. (row.0, y)) (f row.1)) rows

-- the map with what f makes of each value
unfoldable pub map_values : {X Y : Type 0} → (X → Y) → ByteMap X → ByteMap Y
map_values f m = from_sorted (map_rows f (entries m))

-- the map with the values that f gives, without the keys for which it gives none
unfoldable pub some_values : {X Y : Type 0} → (X → Option Y) → ByteMap X → ByteMap Y
some_values f m = from_sorted (some_rows f (entries m))
