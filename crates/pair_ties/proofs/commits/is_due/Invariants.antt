use Rattle.std.proofs.Common.{◌+◌}
use Rattle.pair_trees.specs.Things.{commits_in}
use Rattle.pair_ties.proofs.DueLemmas.{IsDueSoFar}
use Rattle.pair_ties.proofs.commits.is_due.Given as goal

-- the parents so far are there, and the next generation after the greatest of theirs is due after them
abbrev pub invariant-loop-parent : goal.invariant-loop-parent
invariant-loop-parent l = IsDueSoFar (commits_in l.repo l.pairs) l.parents l.parent-index (l.most + 1)
