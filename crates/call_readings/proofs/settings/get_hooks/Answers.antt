use Rattle.core_puts.specs.KeeperViews.{KeeperView}
use Rattle.std.proofs.Common.{[], refl}
use Rattle.core_readings.specs.Answers.{note_answer}
use Rattle.lake_values.specs.declared.settings.NoteName.TheVariants as name
use Rattle.lake_model.specs.Readings.{note_reply}
use Rattle.lake_model.specs.Refusals.{Gives}
use Rattle.lake_calls.specs.CallReadings.{hooks_reading}
use Rattle.lake_calls.specs.CallRefusals.{names_in}
use Rattle.lake_calls.specs.declared.call.Call.TheVariants.{Settings}
use Rattle.lake_calls.specs.declared.call.SettingCall.TheVariants as setting
use Rattle.call_readings.proofs.InstanceLemmas.{gives_hooks, reads_hooks}
use Rattle.call_readings.proofs.OutcomeLemmas.{names_of_name}
use Rattle.call_readings.proofs.ReadingLemmas.{answered}
use Rattle.call_readings.proofs.settings.get_hooks.Goals as goal

pub returns : goal.returns
returns g c =
    let view : KeeperView _ = record { kept = g.K.Keeper.kept; faults = g.K.Keeper.faults; calls = g.K.Keeper.calls; successes = g.K.Keeper.successes } in
    let repo = c.args.repo.now in
    answered view c.args.seat.now c.note-found.new.seat (λ s given. Gives (note_answer c.note-found.result) (note_reply s given repo name.Hooks))
    c.note-found.ensures (Settings (setting.GetHooks repo)) (hooks_reading repo) (reads_hooks repo) c.hooks_found-outcome.result c.answer.result
    (λ s given sound told. gives_hooks repo s given (note_answer c.note-found.result) c.hooks_found-outcome.result told c.hooks_found-outcome.ensures)
    (c.answer.ensures.reply (names_in repo []) (names_of_name c.of_repository-names.result repo [] [] c.of_repository-names.ensures refl))
    c.answer.ensures.position c.answer.ensures.edge
