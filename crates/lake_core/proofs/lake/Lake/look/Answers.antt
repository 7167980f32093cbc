use Rattle.lake_model.specs.Refusals.{Gives}
use Rattle.lake_model.specs.Readings.{look_reply}
use Rattle.lake_core.proofs.StepLemmas.{holds_now}
use Rattle.lake_core.proofs.lake.Lake.look.Goals as goal

pub look-requires : goal.look-requires
look-requires g c = c.law_of_present.ensures _ _ _ c.self.invariant.stands

pub returns : goal.returns
returns g c =
    holds_now (λ s given. Gives c.look.result (look_reply s c.args.repo.now c.args.e.now c.args.path.now)) c.self.view_is c.self.invariant.stands.replayed
    c.look.ensures
