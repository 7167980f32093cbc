-- The head at the front of a list of bytes.
use Rattle.std.specs.Prelude.{ℕ, ◌-◌, ◌==◌, ◌&&◌, ◌||◌, Bool, false, nat_lt, if◌then◌else◌, List, [], ◌∷◌, ◌++◌, length, take, drop, slice_index}
use Rattle.std.specs.Prelude.{Option, Some, None}

-- a line begins at this place: at the front, or behind a line feed
abbrev pub begins_line : List ℕ → ℕ → Bool
begins_line bytes at = (at == 0) || (slice_index bytes (at - 1) == 10)

-- the last line of the bytes is empty: a line feed alone, or a carriage return and a line feed
abbrev pub ends_empty : List ℕ → Bool
ends_empty bytes =
    let n = length bytes in
    nat_lt 0 n && (slice_index bytes (n - 1) == 10)
    && (begins_line bytes (n - 1) || (nat_lt 1 n && (slice_index bytes (n - 2) == 13) && begins_line bytes (n - 2)))

-- a carriage return and a line feed stand at the front
abbrev pub begins_pair : List ℕ → Bool
begins_pair [] = false
begins_pair (a ∷ []) = false
begins_pair (a ∷ b ∷ bytes) = (a == 13) && (b == 10)

-- the bytes behind all such pairs at the front
abbrev pub skip_pairs : List ℕ → List ℕ
skip_pairs [] = []
skip_pairs (a ∷ []) = a ∷ []
skip_pairs (a ∷ b ∷ bytes) = if (a == 13) && (b == 10) then skip_pairs bytes else a ∷ b ∷ bytes

-- the least front that passes a test, from this one on, and what stands behind it
abbrev pub first_front : (List ℕ → Bool) → List ℕ → List ℕ → Option (List ℕ × List ℕ)
first_front test front [] = if test front then Some (front, []) else None
first_front test front (b ∷ rest) = if test front then Some (front, b ∷ rest) else first_front test (front ++ b ∷ []) rest

-- how bytes begin, pairs at the front skipped
pub data Opening : Type 0 where
  -- with a head, up to its first empty line, and these bytes behind it
  headed : List ℕ → List ℕ → Opening
  -- with 16,384 bytes in which no head ends
  too_long : Opening
  -- with a part of a head, which is all
  unended : List ℕ → Opening

-- which of these, from the head that ends within the first 16,384 bytes
abbrev pub opening_at : List ℕ → Option (List ℕ × List ℕ) → Opening
opening_at bytes (Some found) = headed found.0 (found.1 ++ drop 16384 bytes)
opening_at bytes None = if nat_lt (length bytes) 16384 then unended (skip_pairs bytes) else too_long

-- how the bytes begin: the pairs and the head have at most 16,384 bytes together
unfoldable pub opening : List ℕ → Opening
opening bytes = opening_at bytes (first_front ends_empty [] (skip_pairs (take 16384 bytes)))
