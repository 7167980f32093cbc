-- How connections are dealt out to workers.
use Rattle.std.specs.Prelude.{ℕ, ◌+◌, ◌/◌, ◌%◌, nat_lt, Option, Some, None, if◌then◌else◌}

-- how many of all connections the worker of a number serves, of so many workers: each as many as the others, and the first ones one
-- more, where they can't be parted evenly
abbrev pub share_of : (connections : Option ℕ) → (workers number : ℕ) → Option ℕ
share_of None workers number = None
share_of (Some all) workers number = Some (if nat_lt number (all % workers) then all / workers + 1 else all / workers)
