-- Sources and sinks in memory, whose calls fail where they are told to.
use Rattle.std.specs.Prelude.{◌+◌, ◌==◌, ℕ, Bool, List, Result, is_ok, if◌then◌else◌, min}
use Rattle.std.specs.List.{list_any}
use Rattle.lake_base.specs.Outside.{last_count}

-- a 64-bit count after one more: at its end it stands still
abbrev pub next_count : ℕ → ℕ
next_count count = min (count + 1) last_count

-- a count of faults after a call with this answer
abbrev pub faults_after : {T E : Type 0} → Result T E → ℕ → ℕ
faults_after result faults = if is_ok result then faults else next_count faults

-- whether the call after so many is one of those that are to fail, counted from 1
abbrev pub is_to_fail : List ℕ → ℕ → Bool
is_to_fail fails calls = list_any (λ k. k == next_count calls) fails

-- a source in memory: the bytes that are left, the most that one read gives, the reads that are to fail, and what was
-- counted
pub record MemorySourceValue : Type 0 where
  pub left : List ℕ
  pub piece : ℕ
  pub fails : List ℕ
  pub reads : ℕ
  pub faults : ℕ

-- a sink in memory: what was written, the most that one write takes, the writes that are to fail, what was counted, and
-- whether one found no memory
pub record MemorySinkValue : Type 0 where
  pub written : List ℕ
  pub piece : ℕ
  pub fails : List ℕ
  pub writes : ℕ
  pub faults : ℕ
  pub starved : Bool
