use Rattle.std.proofs.Common.{◌≡◌, take, map, length}
use Rattle.pair_trees.specs.Spelled.{AreSpellings}
use Rattle.pair_trees.specs.Things.{thing_of}
use Rattle.pair_trees.proofs.spelled.read_things.Given as goal

-- the things so far are those of the pairs so far
abbrev pub invariant-loop-pair : goal.invariant-loop-pair
invariant-loop-pair l = record {
  same : l.things.items ≡ map thing_of (take l.pair-index l.pairs);
  long : length l.things.items ≡ l.pair-index;
  each : AreSpellings l.pairs l.things.items;
}
