use Rattle.std.proofs.Common.{◌≡◌, ◌++◌}
use Rattle.keeper.specs.Keepers.{entries_of}
use Rattle.keeper.proofs.pairs.pairs_in.Given as goal

-- the pairs so far, and the rows to come, are all
abbrev pub invariant-loop-key : goal.invariant-loop-key
invariant-loop-key l = entries_of l.pairs.items ++ l.key-iterator ≡ l.rows.entries
