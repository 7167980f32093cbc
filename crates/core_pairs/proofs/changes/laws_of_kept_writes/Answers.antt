use Rattle.lake_values.specs.declared.entry.Change.TheVariants.{Put}
use Rattle.core_pairs.proofs.ChangeLemmas.{follow_reset, follow_seal, follow_stage, follow_staged}
use Rattle.core_pairs.proofs.changes.laws_of_kept_writes.Goals as goal

pub returns-clause-stage : goal.returns-clause-stage
returns-clause-stage c pairs l repo name path change stand apart there valid within = follow_stage pairs l repo name path change stand apart valid within there

pub returns-clause-copy : goal.returns-clause-copy
returns-clause-copy c pairs l repo name path entry stand apart there valid within =
    follow_staged pairs l repo name path (Put entry) stand apart valid within there

pub returns-clause-reset : goal.returns-clause-reset
returns-clause-reset c pairs l repo name what stand apart few there = follow_reset pairs l repo name what stand apart few there

pub returns-clause-seal : goal.returns-clause-seal
returns-clause-seal c pairs l repo name stand few sealed = follow_seal pairs l repo name stand few sealed
