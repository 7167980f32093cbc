use Rattle.lake_model.specs.Refusals.{Gives}
use Rattle.lake_model.specs.Readings.{note_reply}
use Rattle.core_readings.specs.Answers.{note_answer}
use Rattle.lake_core.proofs.StepLemmas.{holds_now}
use Rattle.lake_core.proofs.lake.Lake.note.Goals as goal

pub returns : goal.returns
returns g c =
    holds_now (λ s given. Gives (note_answer c.note.result) (note_reply s given c.args.repo.now c.args.name)) c.self.view_is c.self.invariant.stands.replayed
    (c.note.ensures _ c.self.invariant.stands.versions)
