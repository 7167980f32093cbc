use Rattle.std.proofs.Common.{◌≡◌}
use Rattle.lake_model.specs.Readings.{find_reply}
use Rattle.lake_core.proofs.StepLemmas.{holds_now}
use Rattle.lake_core.proofs.lake.Lake.find.Goals as goal

pub returns : goal.returns
returns g c =
    holds_now (λ s given. c.find.result ≡ find_reply s c.args.repo.now c.args.tags c.args.name.now) c.self.view_is c.self.invariant.stands.replayed
    c.find.ensures
