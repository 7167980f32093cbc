-- Bytes that are appended to a buffer that has room for them.
use Rattle.std.specs.Prelude.{◌≡◌, ◌+◌, ◌≤◌, ◌++◌, ℕ, List, length, Vec, vec_len, vec_capacity}

-- so many bytes more need no memory
abbrev pub HasRoom : {A : Type 0} → Vec ℕ A → ℕ → Type 0
HasRoom buffer n = vec_len buffer + n ≤ vec_capacity buffer

-- the bytes stand at the end, and no room is lost but theirs
pub record Appends {A : Type 0} (old new : Vec ℕ A) (bytes : List ℕ) : Type 0 where
  pub items : new.items ≡ old.items ++ bytes
  pub len : vec_len new ≡ vec_len old + length bytes
  pub capacity : vec_capacity old ≤ vec_capacity new
