use Rattle.lake_model.specs.Refusals.{Gives}
use Rattle.lake_model.specs.Readings.{names_reply}
use Rattle.core_readings.specs.Answers.{list_answer}
use Rattle.lake_core.proofs.StepLemmas.{holds_now}
use Rattle.lake_core.proofs.lake.Lake.names.Goals as goal

pub returns : goal.returns
returns g c = holds_now (λ s given. Gives (list_answer c.names.result) (names_reply s c.args.repo.now c.args.tags c.args.after.now c.args.amount))
    c.self.view_is c.self.invariant.stands.replayed c.names.ensures
