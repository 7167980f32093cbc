use Rattle.core_changes.proofs.FoundingLemmas.{founded_seen}
use Rattle.core_puts.proofs.FoundingLemmas.{fresh_below, fresh_has, fresh_index, fresh_seen}
use Rattle.core_puts.proofs.first_laws.laws_of_founding.Goals as goal

pub returns-clause-repository : goal.returns-clause-repository
returns-clause-repository c = founded_seen

pub returns-clause-state : goal.returns-clause-state
returns-clause-state c = fresh_seen

pub returns-clause-versions : goal.returns-clause-versions
returns-clause-versions c = fresh_has

pub returns-clause-tokens : goal.returns-clause-tokens
returns-clause-tokens c = fresh_below

pub returns-clause-index : goal.returns-clause-index
returns-clause-index c cut = fresh_index cut c.laws_of_indexes.ensures.repository_create
