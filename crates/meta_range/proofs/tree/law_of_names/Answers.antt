use Rattle.meta_range.proofs.LawLemmas.{first_is, same_files}
use Rattle.meta_range.proofs.tree.law_of_names.Goals as goal

pub returns : goal.returns
returns c = record { first = first_is; same = same_files }
