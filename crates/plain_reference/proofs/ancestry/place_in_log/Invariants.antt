use Rattle.std.proofs.Common.{◌≡◌, ◌++◌, take, drop}
use Rattle.lake_values.specs.Ancestry.{graph_of, log_order}
use Rattle.plain_reference.specs.OrderSteps.{with_item}
use Rattle.plain_reference.proofs.ancestry.place_in_log.Given as goal

-- the commits so far stand before its place
abbrev pub invariant-loop-at : goal.invariant-loop-at
invariant-loop-at l =
    with_item (log_order (graph_of l.commits)) l.id l.list ≡ take l.at l.list ++ with_item (log_order (graph_of l.commits)) l.id (drop l.at l.list)
