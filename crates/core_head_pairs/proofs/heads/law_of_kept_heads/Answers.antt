use Rattle.core_head_pairs.proofs.AdmissibleLemmas.{head_follows}
use Rattle.core_head_pairs.proofs.heads.law_of_kept_heads.Goals as goal

pub returns : goal.returns
returns c pairs l kept repo name r draft new stand apart few index sound places in_lake there admissible is content fits =
    head_follows l repo r draft new index sound in_lake admissible is pairs kept name stand apart few places content fits there
