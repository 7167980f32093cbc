use Rattle.lake_model.specs.Versions.{branch_version}
use Rattle.lake_laws.specs.VersionGivers.{branch_and_settings, gives_branch, gives_branch_or_settings, raises_references}
use Rattle.lake_laws.proofs.GiverLemmas.{both_left, branch_left, references_left, tries_given_by_others}
use Rattle.lake_laws.proofs.version_entries.law_of_tries_among_others.Goals as goal

pub returns-clause-branch : goal.returns-clause-branch
returns-clause-branch c given tries seat repo branch =
    tries_given_by_others (λ versions. branch_version versions repo branch) (gives_branch repo branch) (branch_left repo branch) given tries seat

pub returns-clause-branch_or_settings : goal.returns-clause-branch_or_settings
returns-clause-branch_or_settings c given tries seat repo branch =
    tries_given_by_others (branch_and_settings repo branch) (gives_branch_or_settings repo branch) (both_left repo branch) given tries seat

pub returns-clause-references : goal.returns-clause-references
returns-clause-references c given tries seat =
    tries_given_by_others (λ versions. versions.references) raises_references references_left given tries seat
