use Rattle.std.proofs.Common.{◌≡◌, length}
use Rattle.std.specs.List.{filter}
use Rattle.std.specs.Option.{option_copied}
use Rattle.lake_values.specs.Log.{is_in_log}
use Rattle.commit_graph.proofs.graph.Graph.next_in_log.Given as goal

-- none of those passed is in the log
abbrev pub invariant-loop-id : goal.invariant-loop-id
invariant-loop-id l = filter (is_in_log l.self (option_copied l.after) l.since) l.left ≡ filter (is_in_log l.self (option_copied l.after) l.since) l.fn.left

abbrev pub decreases-loop-id : goal.decreases-loop-id
decreases-loop-id l = length l.left
