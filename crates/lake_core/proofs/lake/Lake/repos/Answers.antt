use Rattle.lake_model.specs.Refusals.{Gives}
use Rattle.lake_model.specs.Readings.{repositories_reply}
use Rattle.core_readings.specs.Answers.{list_answer}
use Rattle.lake_core.proofs.StepLemmas.{holds_now}
use Rattle.lake_core.proofs.lake.Lake.repos.Goals as goal

pub returns : goal.returns
returns g c = holds_now (λ s given. Gives (list_answer c.repositories.result) (repositories_reply s c.args.after.now c.args.amount)) c.self.view_is
    c.self.invariant.stands.replayed c.repositories.ensures
