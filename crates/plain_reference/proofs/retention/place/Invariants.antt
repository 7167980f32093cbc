use Rattle.std.proofs.Common.{◌≡◌, ◌++◌, take, drop}
use Rattle.lake_values.specs.Ancestry.{id_order}
use Rattle.plain_reference.specs.OrderSteps.{with_item}
use Rattle.plain_reference.proofs.retention.place.Given as goal

-- the ids so far stand before its place
abbrev pub invariant-loop-at : goal.invariant-loop-at
invariant-loop-at l = with_item id_order l.id l.ids ≡ take l.at l.ids ++ with_item id_order l.id (drop l.at l.ids)
