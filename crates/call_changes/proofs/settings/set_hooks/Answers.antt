use Rattle.std.proofs.Common.{[], refl}
use Rattle.core_puts.specs.KeeperViews.{KeeperView}
use Rattle.lake_calls.specs.CallRefusals.{names_in}
use Rattle.lake_calls.specs.declared.call.Call.TheVariants.{Settings}
use Rattle.lake_calls.specs.declared.call.SettingCall.TheVariants as setting
use Rattle.call_readings.proofs.OutcomeLemmas.{names_of_name}
use Rattle.call_changes.proofs.SettingLemmas.{set_hooks_answered}
use Rattle.call_changes.proofs.StarvedLemmas.{starved_change}
use Rattle.call_changes.proofs.settings.set_hooks.Goals as goal

pub returns-in-Err : goal.returns-in-Err
returns-in-Err g c moment =
    starved_change c.args.seat.now c.out_of_memory.new.seat c.args.number (Settings (setting.SetHooks c.args.repo.now c.args.hooks.now)) moment
    c.out_of_memory.result (c.out_of_memory.ensures.served (Settings (setting.SetHooks c.args.repo.now c.args.hooks.now))) c.out_of_memory.ensures.reply

pub returns : goal.returns
returns g c moment =
    let view : KeeperView _ = record { kept = g.K.Keeper.kept; faults = g.K.Keeper.faults; calls = g.K.Keeper.calls; successes = g.K.Keeper.successes } in
    let repo = c.args.repo.now in
    set_hooks_answered view c.args.seat.now c.set_note-set.new.seat c.args.number moment repo c.args.hooks.now c.in-Ok.hooks c.in-Ok.ensures.equal
    c.set_note-set.result c.set_note-set.ensures c.hooks_set-outcome.result c.hooks_set-outcome.ensures c.answer.result
    (c.answer.ensures.reply (names_in repo []) (names_of_name c.of_repository-names.result repo [] [] c.of_repository-names.ensures refl))
    c.answer.ensures.position c.answer.ensures.edge
