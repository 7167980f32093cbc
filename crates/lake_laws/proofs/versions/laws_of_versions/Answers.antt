use Rattle.lake_laws.proofs.BranchLemmas.{branch_same}
use Rattle.lake_laws.proofs.SettingsLemmas.{notes_same}
use Rattle.lake_laws.proofs.ReferencesLemmas.{references_same}
use Rattle.lake_laws.proofs.versions.laws_of_versions.Goals as goal

pub returns-clause-branch : goal.returns-clause-branch
returns-clause-branch c = branch_same

pub returns-clause-settings : goal.returns-clause-settings
returns-clause-settings c = notes_same

pub returns-clause-references : goal.returns-clause-references
returns-clause-references c = references_same
