use Rattle.std.specs.Prelude.{option_copied}
use Rattle.lake_model.specs.Refusals.{Gives}
use Rattle.lake_model.specs.Readings.{log_reply}
use Rattle.core_readings.specs.Answers.{log_answer}
use Rattle.lake_core.proofs.StepLemmas.{holds_now}
use Rattle.lake_core.proofs.lake.Lake.log.Goals as goal

pub log-requires : goal.log-requires
log-requires g c = c.law_of_present.ensures _ _ _ c.self.invariant.stands

pub returns : goal.returns
returns g c = holds_now (λ s given. Gives (log_answer c.log.result)
    (log_reply s c.args.repo.now c.args.e.now (option_copied c.args.after) c.args.since c.args.amount)) c.self.view_is c.self.invariant.stands.replayed
    c.log.ensures
