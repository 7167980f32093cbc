use Rattle.std.proofs.Common.{◌≡◌, ◌++◌, map}
use Rattle.lake_calls.specs.CallReadings.{known_commit}
use Rattle.call_readings.proofs.commits.known_commits.Given as goal

abbrev pub invariant-loop-id : goal.invariant-loop-id
invariant-loop-id l = l.known.items ++ map known_commit l.id-iterator.rest.items ≡ map known_commit l.fn.commits
