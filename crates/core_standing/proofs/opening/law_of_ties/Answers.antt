use Rattle.core_standing.proofs.OpeningLemmas.{tied_counts, tied_tokens, tied_versions}
use Rattle.core_standing.proofs.opening.law_of_ties.Goals as goal

pub returns : goal.returns
returns c l fresh tied = (tied_versions l tied, tied_tokens l tied, tied_counts l fresh tied)
