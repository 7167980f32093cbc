use Rattle.std.proofs.Common.{◌≡◌, drop}
use Rattle.branch_record.specs.Looking.{first_change}
use Rattle.branch_record.proofs.looking.said_by.Given as goal

-- those so far say nothing
abbrev pub invariant-loop-token : goal.invariant-loop-token
invariant-loop-token l = first_change l.tokens.changes (drop l.token-index l.named) l.path ≡ first_change l.tokens.changes l.named l.path
