use Rattle.std.proofs.Common.{◌≡◌, map, take}
use Rattle.serde_json.specs.View.{view}
use Rattle.hook_rules.specs.HookForms.{pattern_data}
use Rattle.hook_rules.proofs.protection.write_protection.Given as goal

-- the values so far are what is kept of their patterns
abbrev pub invariant-loop-pattern : goal.invariant-loop-pattern
invariant-loop-pattern l = map view l.list.items ≡ map pattern_data (take l.pattern-index l.patterns)
