use Rattle.core_puts.specs.KeeperViews.{KeeperView}
use Rattle.core_readings.specs.Answers.{note_answer}
use Rattle.lake_values.specs.declared.settings.NoteName.TheVariants as name
use Rattle.lake_model.specs.Readings.{note_reply}
use Rattle.lake_model.specs.Refusals.{Gives}
use Rattle.call_readings.proofs.ReadingLemmas.{starved_so}
use Rattle.call_readings.proofs.starved.out_of_memory.Goals as goal

pub returns-clause-served : goal.returns-clause-served
returns-clause-served g c call =
    let view : KeeperView _ = record { kept = g.K.Keeper.kept; faults = g.K.Keeper.faults; calls = g.K.Keeper.calls; successes = g.K.Keeper.successes } in
    starved_so view c.args.seat.now c.note-seen.new.seat
    (λ s given. Gives (note_answer c.note-seen.result) (note_reply s given c.args.repo.now name.Retention)) c.note-seen.ensures call c.placed.result
    c.placed.ensures
