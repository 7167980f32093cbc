-- By what a new head of a branch is guarded.
use Rattle.std.specs.Prelude.{ℕ, Bool, List, if◌then◌else◌}
use Rattle.lake_model.specs.State.{State}
use Rattle.lake_model.specs.Refusals.{Causes, causes_of_change, with_branch, with_current_version}
use Rattle.lake_model.specs.Steps.{is_current, write_causes}
use Rattle.lake_model.specs.Versions.{VersionsGiven, branch_version, settings_version}

-- the branch is there, where protection counts unprotected, and both versions are those now
abbrev pub guard_causes : Bool → State → VersionsGiven → List ℕ → List ℕ → ℕ → ℕ → Causes
guard_causes protects state given repo branch version settings =
    with_current_version (is_current given repo branch version settings) (branch_version given repo branch) (settings_version given repo)
    (if protects then write_causes state repo branch else with_branch state repo branch (causes_of_change state))
