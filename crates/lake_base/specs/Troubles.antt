-- What calls count that may fail or run out of memory.
use Rattle.std.specs.Prelude.{ℕ, Result, Ok, Err}
use Rattle.lake_base.specs.Memory.{next_count}
use Rattle.lake_base.specs.declared.outside.Trouble.{Trouble}
use Rattle.lake_base.specs.declared.outside.Trouble.TheVariants.{Failed, NoMemory}

-- a count of faults after a call with this answer: a failure counts one, out of memory none
abbrev pub failures_after : {T : Type 0} → Result T Trouble → ℕ → ℕ
failures_after (Ok x) faults = faults
failures_after (Err Failed) faults = next_count faults
failures_after (Err NoMemory) faults = faults
