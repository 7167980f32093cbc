use Rattle.std.proofs.Common.{◌≡◌, ◌∙◌, arith}
use Rattle.serde_json.specs.View.{view}
use Rattle.serde_json.specs.declared.value.Value.{Array}
use Rattle.hook_rules.specs.HookForms.{hook_data, hooks_data}
use Rattle.hook_rules.proofs.WritingLemmas.{shown, hooks_written, hooks_read}
use Rattle.hook_rules.proofs.hooks.write_hooks.Goals as goal

pub returns-clause-text : goal.returns-clause-text
returns-clause-text c =
    let is : view (Array c.loop-rule.list) ≡ hooks_data c.args.rules.now =
    shown hook_data c.loop-rule.list c.as_slice-rules.result.now c.args.rules.now c.loop-rule.rule-index c.loop-rule.invariant (omega arith)
    (c.as_slice-rules.ensures ∙ c.rules.view_is) in
    hooks_written (Array c.loop-rule.list) c.in_ok-to_vec.field-0.items c.in_ok-to_vec.ensures.text c.in_ok-to_vec.ensures.reads_back c.args.rules.now is

pub returns-clause-reads_back : goal.returns-clause-reads_back
returns-clause-reads_back c =
    let is : view (Array c.loop-rule.list) ≡ hooks_data c.args.rules.now =
    shown hook_data c.loop-rule.list c.as_slice-rules.result.now c.args.rules.now c.loop-rule.rule-index c.loop-rule.invariant (omega arith)
    (c.as_slice-rules.ensures ∙ c.rules.view_is) in
    hooks_read (Array c.loop-rule.list) c.in_ok-to_vec.field-0.items c.in_ok-to_vec.ensures.text c.in_ok-to_vec.ensures.reads_back c.args.rules.now is
    (rw (← c.rules.view_is) c.rules.invariant)
