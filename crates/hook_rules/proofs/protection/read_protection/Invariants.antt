use Rattle.setting_forms.proofs.FormsLemmas.{AreRead}
use Rattle.hook_rules.specs.HookForms.{pattern_of}
use Rattle.hook_rules.proofs.protection.read_protection.Given as goal

-- the patterns so far are what was read of their values
abbrev pub invariant-loop-rule : goal.invariant-loop-rule
invariant-loop-rule l = AreRead pattern_of l.list l.rule l.patterns.items
