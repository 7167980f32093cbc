use Rattle.std.proofs.Common.{take}
use Rattle.std.specs.List.{AllByRecursion}
use Rattle.pair_ties.specs.Tested.{IsSound}
use Rattle.pair_ties.proofs.files.are_given.Given as goal

-- the rows so far are sound
abbrev pub invariant-loop-row : goal.invariant-loop-row
invariant-loop-row l = AllByRecursion (λ row. IsSound l.pairs l.live row.1.place) (take l.row-index l.rows)
