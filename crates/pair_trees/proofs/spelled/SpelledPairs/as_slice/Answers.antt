use Rattle.pair_trees.proofs.SpelledLemmas.{branch_first, things_apart}
use Rattle.pair_trees.proofs.spelled.SpelledPairs.as_slice.Goals as goal

pub returns-clause-apart : goal.returns-clause-apart
returns-clause-apart c = rw (← c.self.view_is) (things_apart c.self.inside.pairs.now c.self.inside.things.items c.self.invariant)

pub returns-clause-limits : goal.returns-clause-limits
returns-clause-limits c = rw (← c.self.view_is) (λ n s here. (c.self.invariant.each n s here).limits)

pub returns-clause-order : goal.returns-clause-order
returns-clause-order c = rw (← c.self.view_is) (branch_first c.self.inside.pairs.now c.self.inside.things.items c.self.invariant)
