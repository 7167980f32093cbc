use Rattle.lake_laws.proofs.VersionLemmas.{AreBelowNext-fresh, AreBelowNext-after}
use Rattle.lake_laws.proofs.versions.law_of_next_versions.Goals as goal

pub returns-clause-fresh : goal.returns-clause-fresh
returns-clause-fresh c = AreBelowNext-fresh

pub returns-clause-after : goal.returns-clause-after
returns-clause-after c = AreBelowNext-after
