use Rattle.core_standing.proofs.PresentLemmas.{present_entries}
use Rattle.core_standing.proofs.present.law_of_entries.Goals as goal

pub returns : goal.returns
returns c = present_entries
