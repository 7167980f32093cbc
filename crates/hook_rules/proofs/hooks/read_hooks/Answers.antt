use Rattle.std.proofs.Common.{◌≡◌, [], drop, arith}
use Rattle.std.proofs.lemmas.List.{drop_all}
use Rattle.serde_json.specs.View.{view, items_view}
use Rattle.setting_forms.proofs.FormsLemmas.{all_read}
use Rattle.hook_rules.specs.HookForms.{hook_of}
use Rattle.hook_rules.proofs.ReadingLemmas.{AreHooks-read}
use Rattle.hook_rules.proofs.hooks.read_hooks.Goals as goal

pub invariant_of-result : goal.invariant_of-result
invariant_of-result c =
    let ended : drop c.loop-rule.rule c.in_ok-list.list.now ≡ [] = drop_all c.loop-rule.rule c.in_ok-list.list.now (omega arith) in
    rw c.of.ensures (AreHooks-read (view c.args.value.now) (items_view c.in_ok-list.list.now) c.loop-rule.rules.items c.in_ok-list.ensures.members
    (all_read hook_of c.in_ok-list.list.now c.loop-rule.rule c.loop-rule.rules.items c.loop-rule.invariant ended))
