use Rattle.std.proofs.Common.{◌≡◌, ◌++◌, map}
use Rattle.lake_calls.specs.CallReadings.{named_commit}
use Rattle.call_readings.proofs.references.named_commits.Given as goal

abbrev pub invariant-loop-name : goal.invariant-loop-name
invariant-loop-name l = l.commits.items ++ map named_commit l.name-iterator.rest.items ≡ map named_commit l.fn.names
