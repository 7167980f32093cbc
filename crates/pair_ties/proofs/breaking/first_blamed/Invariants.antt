use Rattle.pair_ties.specs.BrokenPairs.{AreBlamelessBefore}
use Rattle.pair_ties.proofs.breaking.first_blamed.Given as goal

-- the pairs so far aren't to blame
abbrev pub invariant-loop-at : goal.invariant-loop-at
invariant-loop-at l = AreBlamelessBefore l.tables.cut l.raw l.pairs l.at
