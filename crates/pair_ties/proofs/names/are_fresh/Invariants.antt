use Rattle.std.proofs.Common.{take}
use Rattle.std.specs.List.{AllByRecursion}
use Rattle.pair_ties.specs.Tested.{IsFreshToken}
use Rattle.pair_ties.proofs.names.are_fresh.Given as goal

-- the tokens so far are fresh
abbrev pub invariant-loop-token : goal.invariant-loop-token
invariant-loop-token l = AllByRecursion (IsFreshToken l.pairs l.tables l.at) (take l.token-index l.sealed)
