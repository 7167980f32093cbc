use Rattle.std.proofs.Common.{ap}
use Rattle.lake_calls.specs.declared.call.Call.TheVariants as any
use Rattle.call_heads.proofs.AnswerLemmas.{of_reading}
use Rattle.lake_api.proofs.ChangeLemmas.{of_change, same_call}
use Rattle.lake_api.proofs.OtherCalls.{of_settings, settings_none}
use Rattle.lake_api.proofs.calls.answer_setting.Goals as goal

pub returns-in-GetProtection-clause-served : goal.returns-in-GetProtection-clause-served
returns-in-GetProtection-clause-served g c =
    let client = c.args.client.now in
    let blocks = client.blocks.now in
    same_call c.args.seat.now c.get_protection.new.seat client.call client.now (g.B.Blocks.faults blocks) (g.B.Blocks.misses blocks)
    (g.B.Blocks.missed blocks) (g.B.Blocks.held blocks) c.get_protection.result _ _ (ap any.Settings c.in-GetProtection.is)
    (of_reading c.args.seat.now c.get_protection.new.seat client.call _ client.now _ _ _ _ c.get_protection.result
    c.get_protection.ensures (of_settings _))

pub returns-in-SetProtection-clause-served : goal.returns-in-SetProtection-clause-served
returns-in-SetProtection-clause-served g c =
    let client = c.args.client.now in
    let blocks = client.blocks.now in
    same_call c.args.seat.now c.set_protection.new.seat client.call client.now (g.B.Blocks.faults blocks) (g.B.Blocks.misses blocks)
    (g.B.Blocks.missed blocks) (g.B.Blocks.held blocks) c.set_protection.result _ _ (ap any.Settings c.in-SetProtection.is)
    (of_change c.args.seat.now c.set_protection.new.seat client.call _ client.now _ _ _ _ c.set_protection.result
    (c.set_protection.ensures client.now) (of_settings _) (settings_none _))

pub returns-in-GetHooks-clause-served : goal.returns-in-GetHooks-clause-served
returns-in-GetHooks-clause-served g c =
    let client = c.args.client.now in
    let blocks = client.blocks.now in
    same_call c.args.seat.now c.get_hooks.new.seat client.call client.now (g.B.Blocks.faults blocks) (g.B.Blocks.misses blocks)
    (g.B.Blocks.missed blocks) (g.B.Blocks.held blocks) c.get_hooks.result _ _ (ap any.Settings c.in-GetHooks.is)
    (of_reading c.args.seat.now c.get_hooks.new.seat client.call _ client.now _ _ _ _ c.get_hooks.result
    c.get_hooks.ensures (of_settings _))

pub returns-in-SetHooks-clause-served : goal.returns-in-SetHooks-clause-served
returns-in-SetHooks-clause-served g c =
    let client = c.args.client.now in
    let blocks = client.blocks.now in
    same_call c.args.seat.now c.set_hooks.new.seat client.call client.now (g.B.Blocks.faults blocks) (g.B.Blocks.misses blocks)
    (g.B.Blocks.missed blocks) (g.B.Blocks.held blocks) c.set_hooks.result _ _ (ap any.Settings c.in-SetHooks.is)
    (of_change c.args.seat.now c.set_hooks.new.seat client.call _ client.now _ _ _ _ c.set_hooks.result
    (c.set_hooks.ensures client.now) (of_settings _) (settings_none _))
