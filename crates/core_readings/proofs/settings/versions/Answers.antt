use Rattle.std.proofs.Common.{Ok, ◌∙◌}
use Rattle.core_state.specs.LakeStates.{lake_value}
use Rattle.core_readings.proofs.ReplyLemmas.{in_none}
use Rattle.core_readings.proofs.VersionLemmas.{versions_found, versions_missing}
use Rattle.core_readings.proofs.settings.versions.Goals as goal

pub returns-in_default : goal.returns-in_default
returns-in_default c given has = in_none (lake_value c.args.lake.now) c.args.repo.now _ c.in_default.ensures

pub returns-in_Some-found : goal.returns-in_Some-found
unfolding lake_value
returns-in_Some-found c given has =
    (λ i. Ok (record { at = c.args.lake.now.entries; version = c.version.ensures i; settings = c.in-Some.repository.now.settings }))
    ∙ versions_found (lake_value c.args.lake.now) given has c.args.repo.now c.in-Some.repository.now c.in-Some.ensures
    c.args.branch.now c.in_Some-found.found.now c.in_Some-found.ensures

pub returns-in_None-found : goal.returns-in_None-found
returns-in_None-found c given has =
    versions_missing (lake_value c.args.lake.now) given has c.args.repo.now c.in-Some.repository.now c.in-Some.ensures c.args.branch.now c.in_None-found.ensures
