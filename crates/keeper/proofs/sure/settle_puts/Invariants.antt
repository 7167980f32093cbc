use Rattle.std.proofs.Common.{reverse, ◌≡◌}
use Rattle.std.specs.Vec.{vec_len}
use Rattle.keeper.specs.Keepers.{pairs_after}
use Rattle.keeper.proofs.sure.settle_puts.Given as goal

-- the puts to come, after those in place, are all
abbrev pub invariant-loop-put : goal.invariant-loop-put
invariant-loop-put l = pairs_after (reverse l.waiting.items) l.pairs ≡ pairs_after (reverse l.fn.waiting.items) l.fn.pairs

abbrev pub decreases-loop-put : goal.decreases-loop-put
decreases-loop-put l = vec_len l.waiting
