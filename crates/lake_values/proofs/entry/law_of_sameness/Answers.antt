use Rattle.lake_values.proofs.SamenessLemmas.{same_entry_decides}
use Rattle.lake_values.proofs.entry.law_of_sameness.Goals as goal

pub returns : goal.returns
returns c = same_entry_decides
