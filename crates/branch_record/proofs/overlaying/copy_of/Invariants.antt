use Rattle.std.proofs.Common.{◌≡◌, ◌++◌, length}
use Rattle.std.specs.FinMap.{entries}
use Rattle.branch_record.specs.Tokens.{changes_under}
use Rattle.branch_record.proofs.overlaying.copy_of.Given as goal

-- the changes so far are copied
abbrev pub invariant-loop-path : goal.invariant-loop-path
invariant-loop-path l = l.rows.items ++ l.cursor ≡ entries (changes_under l.tokens.changes l.token)

abbrev pub decreases-loop-path : goal.decreases-loop-path
decreases-loop-path l = length l.cursor
