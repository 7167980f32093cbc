use Rattle.std.proofs.Common.{ℕ, List, ap}
use Rattle.std.specs.List.{list_all}
use Rattle.serde_json.specs.View.{view}
use Rattle.lakectl_shown.specs.declared.form.Content.{Content}
use Rattle.lakectl_shown.specs.ShownForms.{has_key}
use Rattle.lakectl_shown.proofs.FormLemmas.{key_there, key_missing, keys_done}
use Rattle.lakectl_shown.proofs.json.is_of.Goals as goal

pub loop-key-init : goal.loop-key-init
loop-key-init c = ap (λ (keys : List (List ℕ × Content)). list_all (has_key (view c.args.value.now)) keys) c.keys-key-items.ensures

pub loop-key-preserved : goal.loop-key-preserved
loop-key-preserved c =
    key_there (view c.args.value.now) c.keys-key-items.result.now c.loop-key.key-index _ _ _ c.loop-key-test.true c.has_key.ensures c.if-not-has_key.false
    c.loop-key.invariant

pub returns-then-not-has_key : goal.returns-then-not-has_key
returns-then-not-has_key c =
    key_missing (view c.args.value.now) c.keys-key-items.result.now c.loop-key.key-index _ _ _ c.loop-key-test.true c.has_key.ensures c.if-not-has_key.true
    c.loop-key.invariant

pub returns : goal.returns
returns c = keys_done (view c.args.value.now) c.keys-key-items.result.now c.loop-key.key-index _ c.loop-key-test.false c.loop-key.invariant
