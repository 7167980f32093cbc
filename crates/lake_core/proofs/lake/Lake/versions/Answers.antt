use Rattle.std.proofs.Common.{◌≡◌}
use Rattle.lake_model.specs.Readings.{versions_reply}
use Rattle.lake_core.proofs.StepLemmas.{holds_now}
use Rattle.lake_core.proofs.lake.Lake.versions.Goals as goal

pub returns : goal.returns
returns g c =
    holds_now (λ s given. c.versions.result ≡ versions_reply s given c.args.repo.now c.args.branch.now) c.self.view_is c.self.invariant.stands.replayed
    (c.versions.ensures _ c.self.invariant.stands.versions)
