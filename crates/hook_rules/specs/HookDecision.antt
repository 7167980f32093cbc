-- What hooks decide.
use Rattle.std.specs.Prelude.{ℕ, Option, Some, None}
use Rattle.hook_rules.specs.declared.decision.Decision.{Decision}
use Rattle.hook_rules.specs.declared.decision.Decision.TheVariants.{Allow, Deny}

-- denied by the rule of this number, and else allowed
abbrev pub decision_of : Option ℕ → Decision
decision_of None = Allow
decision_of (Some rule) = Deny rule
