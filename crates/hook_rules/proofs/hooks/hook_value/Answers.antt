use Rattle.serde_json.proofs.Views.{view-Object}
use Rattle.hook_rules.proofs.WritingLemmas.{hook_fields}
use Rattle.hook_rules.proofs.hooks.hook_value.Goals as goal

pub returns : goal.returns
returns c =
    rw (
      view-Object c.put-3.new.map,
      c.in_ok-put-3.ensures.ok,
      c.in_ok-put-2.ensures.ok,
      c.in_ok-put.ensures.ok,
      c.new-object.ensures.empty,
      c.in_ok-try_from_str-2.ensures,
      c.in_ok-field_value.ensures,
      c.in_ok-try_from_str.ensures,
      c.name.ensures,
      c.field.ensures,
      c.as_str.ensures.bytes,
      c.type_of-hook.ensures,
    )
    (hook_fields c.args.rule.now.branch c.args.rule.now.deny)
