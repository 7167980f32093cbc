use Rattle.std.proofs.Common.{refl}
use Rattle.core_changes.specs.LakeChanges.{after_fault, after_ticket_drop}
use Rattle.core_pairs.specs.LakePairs.{at_rest}
use Rattle.core_pairs.proofs.ChangeLemmas.{follow_none, follow_ticket}
use Rattle.core_pairs.proofs.changes.laws_of_kept_tickets.Goals as goal

pub returns-clause-take : goal.returns-clause-take
returns-clause-take c pairs l seat stand few = follow_ticket pairs l seat stand few

pub returns-clause-drop : goal.returns-clause-drop
returns-clause-drop c pairs l number stand =
    follow_none pairs l (after_ticket_drop number l) (record { repositories = refl; gone = refl; numbers = refl; versions = refl; tokens = refl }) stand

pub returns-clause-fault : goal.returns-clause-fault
returns-clause-fault c pairs l stand =
    follow_none pairs l (after_fault l) (record { repositories = refl; gone = refl; numbers = refl; versions = refl; tokens = refl }) stand

pub returns-clause-rest : goal.returns-clause-rest
returns-clause-rest c pairs l stand =
    follow_none pairs l (at_rest l) (record { repositories = refl; gone = refl; numbers = refl; versions = refl; tokens = refl }) stand

pub returns-clause-awake : goal.returns-clause-awake
returns-clause-awake c pairs l stand =
    follow_none pairs (at_rest l) l (record { repositories = refl; gone = refl; numbers = refl; versions = refl; tokens = refl }) stand
