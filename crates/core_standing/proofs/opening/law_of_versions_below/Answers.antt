use Rattle.core_standing.proofs.OpeningLemmas.{versions_below}
use Rattle.core_standing.proofs.opening.law_of_versions_below.Goals as goal

pub returns : goal.returns
returns c = versions_below
