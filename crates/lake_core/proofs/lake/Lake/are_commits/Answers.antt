use Rattle.std.proofs.Common.{◌↔◌, IsTrue}
use Rattle.core_readings.specs.Preparations.{HasSides}
use Rattle.lake_core.proofs.StepLemmas.{holds_now}
use Rattle.lake_core.proofs.lake.Lake.are_commits.Goals as goal

pub returns : goal.returns
returns g c =
    holds_now (λ s given. IsTrue c.are_commits.result ↔ HasSides s c.args.repo.now c.args.sides.now) c.self.view_is c.self.invariant.stands.replayed
    c.are_commits.ensures
