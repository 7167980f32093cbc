use Rattle.lake_model.specs.Versions.{branch_version, settings_version}
use Rattle.lake_laws.specs.VersionGivers.{branch_and_settings, gives_branch, gives_branch_or_settings, gives_settings, raises_references}
use Rattle.lake_laws.proofs.GiverLemmas.{both_left, branch_left, given_between, references_left, settings_left}
use Rattle.lake_laws.proofs.version_entries.law_of_version_entries.Goals as goal

pub returns-clause-branch : goal.returns-clause-branch
returns-clause-branch c given seen history more repo branch =
    given_between (λ versions. branch_version versions repo branch) (gives_branch repo branch) (branch_left repo branch) given seen history more

pub returns-clause-settings : goal.returns-clause-settings
returns-clause-settings c given seen history more repo =
    given_between (λ versions. settings_version versions repo) (gives_settings repo) (settings_left repo) given seen history more

pub returns-clause-branch_or_settings : goal.returns-clause-branch_or_settings
returns-clause-branch_or_settings c given seen history more repo branch =
    given_between (branch_and_settings repo branch) (gives_branch_or_settings repo branch) (both_left repo branch) given seen history more

pub returns-clause-references : goal.returns-clause-references
returns-clause-references c given seen history more =
    given_between (λ versions. versions.references) raises_references references_left given seen history more
