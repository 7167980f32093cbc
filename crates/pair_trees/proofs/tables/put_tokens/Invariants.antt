use Rattle.std.proofs.Common.{take}
use Rattle.pair_trees.specs.Tables.{PutsTokens}
use Rattle.pair_trees.proofs.tables.put_tokens.Given as goal

-- the tokens so far were put
abbrev pub invariant-loop-token : goal.invariant-loop-token
invariant-loop-token l = PutsTokens l.fn.table l.table (take l.token-index l.tokens) l.at
