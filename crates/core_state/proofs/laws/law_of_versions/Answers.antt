use Rattle.core_state.proofs.VersionLemmas.{has_versions}
use Rattle.core_state.proofs.laws.law_of_versions.Goals as goal

pub returns : goal.returns
returns c = has_versions
