use Rattle.std.proofs.Common.{◌≡◌}
use Rattle.std.specs.Vec.{vec_len}
use Rattle.keeper.specs.Keepers.{entries_of, pairs_over}
use Rattle.keeper.proofs.sure.settle_pairs.Given as goal

-- the pairs to come, over those in place, are all
abbrev pub invariant-loop-pair : goal.invariant-loop-pair
invariant-loop-pair l = pairs_over (entries_of l.given.items) l.pairs ≡ pairs_over (entries_of l.fn.given.items) l.fn.pairs

abbrev pub decreases-loop-pair : goal.decreases-loop-pair
decreases-loop-pair l = vec_len l.given
