use Rattle.pair_trees.specs.Unread.{AreReadBefore}
use Rattle.pair_trees.proofs.trees.first_unread.Given as goal

-- the trees of the commits so far are read
abbrev pub invariant-loop-at : goal.invariant-loop-at
invariant-loop-at l = AreReadBefore l.cut l.pairs l.at
