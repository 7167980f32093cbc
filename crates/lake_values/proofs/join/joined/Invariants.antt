use Rattle.std.proofs.Common.{◌+◌, length}
use Rattle.lake_values.specs.KeyMap.{HasPathKeys}
use Rattle.lake_base.specs.Maps.{HasAscendingKeys}
use Rattle.lake_values.proofs.JoinLemmas.{JoinsRest}
use Rattle.lake_values.proofs.join.joined.Given as goal

-- what is made, before any join of the rests, is a join of the lists
abbrev pub invariant-loop-front : goal.invariant-loop-front
invariant-loop-front g l = record {
  left : HasAscendingKeys l.left_rest;
  right : HasAscendingKeys l.right_rest;
  paths : HasPathKeys l.items.items;
  whole : JoinsRest g.J.Join.value l.left l.right l.left_rest l.right_rest l.items.items;
}

abbrev pub decreases-loop-front : goal.decreases-loop-front
decreases-loop-front g l = length l.left_rest + length l.right_rest
