use Rattle.std.proofs.Common.{◌≡◌, take}
use Rattle.lake_values.specs.Reset.{changes_after_reset}
use Rattle.branch_record.specs.Tokens.{with_each}
use Rattle.branch_record.proofs.changing.reset_all.Given as goal

-- the changes under those so far are reset
abbrev pub invariant-loop-token : goal.invariant-loop-token
invariant-loop-token l = l.tokens.changes ≡ with_each (take l.token-index l.named) (changes_after_reset l.what) l.initial.tokens.changes
