use Rattle.std.proofs.Common.{◌≡◌, map, take}
use Rattle.serde_json.specs.View.{view}
use Rattle.hook_rules.specs.HookForms.{hook_data}
use Rattle.hook_rules.proofs.hooks.write_hooks.Given as goal

-- the values so far are what is kept of their rules
abbrev pub invariant-loop-rule : goal.invariant-loop-rule
invariant-loop-rule l = map view l.list.items ≡ map hook_data (take l.rule-index l.rules)
