use Rattle.std.proofs.Common.{take}
use Rattle.pair_trees.specs.Tables.{TellsTokens}
use Rattle.pair_trees.proofs.tables.tokens_of.Given as goal

-- the table tells of the things so far
abbrev pub invariant-loop-at : goal.invariant-loop-at
invariant-loop-at l = TellsTokens l.table (take l.at l.things)
