use Rattle.std.proofs.Common.{refl}
use Rattle.core_state.specs.LakeStates.{lake_value}
use Rattle.core_readings.proofs.PreparingLemmas.{of_none, of_there}
use Rattle.core_readings.proofs.sides.are_commits.Goals as goal

pub returns-in-Some : goal.returns-in-Some
returns-in-Some c =
    let there = of_there (lake_value c.args.lake.now) c.args.repo.now c.args.sides.now c.in-Some.repository.now c.in-Some.ensures in
    (λ yes. there.0 (c.has_commits.ensures.0 yes), λ have. c.has_commits.ensures.1 (there.1 have))

pub returns-in-None : goal.returns-in-None
returns-in-None c =
    (λ _. of_none (lake_value c.args.lake.now) c.args.repo.now c.args.sides.now c.in-None.ensures, λ _. refl)
