use Rattle.lake_model.specs.Refusals.{Gives}
use Rattle.lake_model.specs.Readings.{page_reply}
use Rattle.core_readings.specs.Answers.{page_answer}
use Rattle.lake_core.proofs.StepLemmas.{holds_now}
use Rattle.lake_core.proofs.lake.Lake.page.Goals as goal

pub page-requires : goal.page-requires
page-requires g c = c.law_of_present.ensures _ _ _ c.self.invariant.stands

pub returns : goal.returns
returns g c = holds_now (λ s given. Gives (page_answer c.page.result) (page_reply s c.args.repo.now c.args.e.now c.args.query.now)) c.self.view_is
    c.self.invariant.stands.replayed c.page.ensures
