-- The metadata of an object or a commit.
use Rattle.std.specs.Prelude.{◌≡◌, ◌==◌, ◌&&◌, nat_lt, nat_le, is_none, if◌then◌else◌, Option, Some, None, Result, Ok, Err, ◌≤◌, ◌<◌, ℕ, List, length, map, All}
use Rattle.std.specs.FinMap.{find}
use Rattle.lake_base.specs.Maps.{byte_order, IsAscending}
use Rattle.lake_values.specs.declared.pairs.PairsFault.{PairsFault}
use Rattle.lake_values.specs.declared.pairs.PairsFault.TheVariants.{Key, Value, Full, NoMemory}

-- a key has 1 to 128 bytes and a value at most 1,024
pub record IsPair (pair : List ℕ × List ℕ) : Type 0 where
  pub key : 0 < length pair.0
  pub short_key : length pair.0 ≤ 128
  pub short_value : length pair.1 ≤ 1024

-- at most 64 pairs, keys strictly ascending as bytes
pub record ArePairs (pairs : List (List ℕ × List ℕ)) : Type 0 where
  pub few : length pairs ≤ 64
  pub each : All IsPair pairs
  pub ascending : IsAscending (map (λ pair. pair.0) pairs)

-- a new key has no room beside 64 pairs
abbrev pub room_fault : List ℕ → List (List ℕ × List ℕ) → Option PairsFault
room_fault key pairs = if is_none (find byte_order key pairs) && nat_le 64 (length pairs) then Some Full else None

-- the first fault of a pair that is to be set: a key without 1 to 128 bytes, a value above 1,024, or no room
abbrev pub pair_fault : List ℕ → List ℕ → List (List ℕ × List ℕ) → Option PairsFault
pair_fault key value pairs =
    if length key == 0 then Some Key
    else if nat_lt 128 (length key) then Some Key
    else if nat_lt 1024 (length value) then Some Value
    else room_fault key pairs

-- What setting a pair answers: the first fault where there is one, and else P holds, unless memory ran out.
abbrev pub Sets : Result Unit PairsFault → Option PairsFault → Type 0 → Type 0
Sets (Ok done) found P = (found ≡ None) × P
Sets (Err NoMemory) found P = found ≡ None
Sets (Err Key) found P = found ≡ Some Key
Sets (Err Value) found P = found ≡ Some Value
Sets (Err Full) found P = found ≡ Some Full
