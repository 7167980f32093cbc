use Rattle.core_head_pairs.proofs.AdmissibleLemmas.{repository_follows}
use Rattle.core_head_pairs.proofs.repositories.law_of_kept_repositories.Goals as goal

pub returns : goal.returns
returns c pairs l repo branch date stand few index sound none admissible valid named dated =
    repository_follows l repo branch date none pairs stand few index sound admissible valid named dated
