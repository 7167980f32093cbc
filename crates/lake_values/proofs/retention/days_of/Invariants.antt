use Rattle.std.proofs.Common.{◌≡◌, false}
use Rattle.std.specs.List.{AllWithin}
use Rattle.std.specs.Str.{bytes_eq}
use Rattle.lake_values.proofs.retention.days_of.Given as goal

-- no rule so far names the branch
abbrev pub invariant-loop-rule : goal.invariant-loop-rule
invariant-loop-rule l = AllWithin (λ rule. bytes_eq rule.branch l.branch ≡ false) l.rule-items 0 l.rule-index
