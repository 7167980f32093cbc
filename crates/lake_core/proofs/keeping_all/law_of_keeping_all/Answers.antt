use Rattle.lake_core.proofs.KeepingAllLemmas.{fresh_whole, history_whole, no_retention, steps_keep}
use Rattle.lake_core.proofs.keeping_all.law_of_keeping_all.Goals as goal

pub returns-clause-fresh : goal.returns-clause-fresh
returns-clause-fresh c = fresh_whole

pub returns-clause-stays : goal.returns-clause-stays
returns-clause-stays c = history_whole

pub returns-clause-steps : goal.returns-clause-steps
returns-clause-steps c = steps_keep

pub returns-clause-note : goal.returns-clause-note
returns-clause-note c = no_retention
