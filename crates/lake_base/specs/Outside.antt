-- What calls on objects of the outside do, and when they may fail.
use Rattle.std.specs.Prelude.{◌≡◌, ◌<◌, ◌≤◌, ℕ, List, [], length, take, drop, Option, Some, Result, OnErr}

-- the last value of a 64-bit count, at which it stands still
abbrev pub last_count : ℕ
last_count = 18446744073709551615

-- A count rose, unless it stands at its end: that is taken as risen.
abbrev pub Rose : ℕ → ℕ → Type 0
Rose before now = now < last_count → before < now

-- nothing was counted, and the count isn't at its end
pub record Quiet (before now : ℕ) : Type 0 where
  pub same : now ≡ before
  pub counting : now < last_count

-- a count doesn't fall, and it rose where the call failed
pub record HasCause {T E : Type 0} (before now : ℕ) (result : Result T E) : Type 0 where
  pub later : before ≤ now
  pub failed : OnErr result (Rose before now)

-- The first n of the bytes left were read into the front of the room, which had other bytes before and has these
-- after; those behind them are left now. No byte means the end, where there is room.
pub record Reads (bytes : List ℕ) (left : Option (List ℕ)) (before after : List ℕ) (n : ℕ) : Type 0 where
  pub rest : left ≡ Some (drop n bytes)
  pub enough : n ≤ length bytes
  pub front : take n after ≡ take n bytes
  pub end : n ≡ 0 → 0 < length before → bytes ≡ []

-- n bytes of a piece were taken: at least one, where there is one
pub record Takes (piece n : ℕ) : Type 0 where
  pub within : n ≤ piece
  pub some : 0 < piece → 0 < n
