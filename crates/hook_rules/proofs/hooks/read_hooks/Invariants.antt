use Rattle.setting_forms.proofs.FormsLemmas.{AreRead}
use Rattle.hook_rules.specs.HookForms.{hook_of}
use Rattle.hook_rules.proofs.hooks.read_hooks.Given as goal

-- the rules so far are what was read of their values
abbrev pub invariant-loop-rule : goal.invariant-loop-rule
invariant-loop-rule l = AreRead hook_of l.list l.rule l.rules.items
