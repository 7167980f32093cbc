use Rattle.std.proofs.Common.{◌≡◌, ◌≤◌, ◌++◌, length}
use Rattle.std.specs.List.{filter}
use Rattle.std.specs.Option.{option_copied}
use Rattle.lake_values.specs.Log.{is_in_log, log_after}
use Rattle.commit_graph.proofs.graph.Graph.log.Given as goal

-- the ids so far, and those still to come
abbrev pub invariant-loop-ids : goal.invariant-loop-ids
invariant-loop-ids l = record {
  whole : l.ids.items ++ filter (is_in_log l.self (option_copied l.after) l.since) l.left ≡ log_after l.self l.from (option_copied l.after) l.since;
  room : length l.ids.items ≤ l.amount;
}

abbrev pub decreases-loop-ids : goal.decreases-loop-ids
decreases-loop-ids l = length (filter (is_in_log l.self (option_copied l.after) l.since) l.left)
