use Rattle.lake_model.specs.Refusals.{Gives}
use Rattle.lake_model.specs.Readings.{resolve_reply}
use Rattle.lake_core.proofs.StepLemmas.{holds_now}
use Rattle.lake_core.proofs.lake.Lake.resolve.Goals as goal

pub resolve-requires : goal.resolve-requires
resolve-requires g c = c.law_of_present.ensures _ _ _ c.self.invariant.stands

pub returns : goal.returns
returns g c =
    holds_now (λ s given. Gives c.resolve.result (resolve_reply s c.args.repo.now c.args.e.now)) c.self.view_is c.self.invariant.stands.replayed
    c.resolve.ensures
