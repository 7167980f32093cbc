use Rattle.std.proofs.Common.{◌≡◌, ◌∙◌, arith}
use Rattle.serde_json.specs.View.{view}
use Rattle.serde_json.specs.declared.value.Value.{Array}
use Rattle.hook_rules.specs.HookForms.{pattern_data, protection_data}
use Rattle.hook_rules.proofs.WritingLemmas.{shown, protection_written, protection_read}
use Rattle.hook_rules.proofs.protection.write_protection.Goals as goal

pub returns-clause-text : goal.returns-clause-text
returns-clause-text c =
    let is : view (Array c.loop-pattern.list) ≡ protection_data c.args.protection.now =
    shown pattern_data c.loop-pattern.list c.as_slice-patterns.result.now c.args.protection.now c.loop-pattern.pattern-index c.loop-pattern.invariant
    (omega arith) (c.as_slice-patterns.ensures ∙ c.protection.view_is) in
    protection_written (Array c.loop-pattern.list) c.in_ok-to_vec.field-0.items c.in_ok-to_vec.ensures.text c.in_ok-to_vec.ensures.reads_back
    c.args.protection.now is

pub returns-clause-reads_back : goal.returns-clause-reads_back
returns-clause-reads_back c =
    let is : view (Array c.loop-pattern.list) ≡ protection_data c.args.protection.now =
    shown pattern_data c.loop-pattern.list c.as_slice-patterns.result.now c.args.protection.now c.loop-pattern.pattern-index c.loop-pattern.invariant
    (omega arith) (c.as_slice-patterns.ensures ∙ c.protection.view_is) in
    protection_read (Array c.loop-pattern.list) c.in_ok-to_vec.field-0.items c.in_ok-to_vec.ensures.text c.in_ok-to_vec.ensures.reads_back c.args.protection.now
    is (rw (← c.protection.view_is) c.protection.invariant)
