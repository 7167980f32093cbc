use Rattle.lake_laws.proofs.GiverLemmas.{count_append, count_others, versions_append}
use Rattle.lake_laws.proofs.version_entries.law_of_counted_entries.Goals as goal

pub returns-clause-versions : goal.returns-clause-versions
returns-clause-versions c = versions_append

pub returns-clause-sum : goal.returns-clause-sum
returns-clause-sum c = count_append

pub returns-clause-others : goal.returns-clause-others
returns-clause-others c = count_others
