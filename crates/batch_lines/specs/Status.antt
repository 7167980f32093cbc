-- How a run of the program ends.
use Rattle.std.specs.Prelude.{ℕ, Bool, if◌then◌else◌}
use Rattle.batch_lines.specs.declared.status.ExitStatus.{ExitStatus}
use Rattle.batch_lines.specs.declared.status.ExitStatus.TheVariants.{Done, Refused, Usage}
use Rattle.batch_lines.specs.declared.status.ExitStatus.TheVariants.{SourceFailed, SinkFailed, HostFailed, PairsRefused, OutOfMemory}

-- the number by which the system knows a status
abbrev pub status_number : ExitStatus → ℕ
status_number Done = 0
status_number Refused = 1
status_number Usage = 2
status_number SourceFailed = 3
status_number SinkFailed = 4
status_number HostFailed = 5
status_number PairsRefused = 6
status_number OutOfMemory = 7

-- the status of a batch that was read to its end, by whether memory ran out and whether each line was done
abbrev pub status_of : Bool → Bool → ExitStatus
status_of starved done = if starved then OutOfMemory else if done then Done else Refused
