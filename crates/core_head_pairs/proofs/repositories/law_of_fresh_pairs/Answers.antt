use Rattle.core_head_pairs.proofs.FreshLemmas.{fresh_apart, fresh_follows}
use Rattle.core_head_pairs.proofs.repositories.law_of_fresh_pairs.Goals as goal

pub returns-clause-pairs : goal.returns-clause-pairs
returns-clause-pairs c cut = fresh_follows cut

pub returns-clause-tokens : goal.returns-clause-tokens
returns-clause-tokens c cut = fresh_apart cut
