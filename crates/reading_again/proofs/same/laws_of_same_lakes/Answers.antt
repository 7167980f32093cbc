use Rattle.reading_again.proofs.SameLakeLemmas.{state_same, token_same, versions_same}
use Rattle.reading_again.proofs.same.laws_of_same_lakes.Goals as goal

pub returns-clause-state : goal.returns-clause-state
returns-clause-state c cut pairs l read ascend stand order can is texts = state_same cut pairs l read ascend stand order can is texts

pub returns-clause-versions : goal.returns-clause-versions
returns-clause-versions c cut pairs l read ascend stand order can is texts = versions_same cut pairs l read ascend stand order can is texts

pub returns-clause-token : goal.returns-clause-token
returns-clause-token c cut pairs l read ascend stand order can is texts = token_same cut pairs l read ascend stand order can is texts
