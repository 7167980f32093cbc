use Rattle.std.proofs.Common.{[], ap, Err, refl}
use Rattle.commit_flow.specs.CommitFlows.{Sealed, Unsealed}
use Rattle.commit_flow.proofs.heads.new_head.Goals as goal

pub attempts-requires-clause-sides : goal.attempts-requires-clause-sides
attempts-requires-clause-sides g c found finds =
    c.requires.sides c.in-Ok.ensures.origin c.seal_for.new.seat found c.in-Ok.ensures.goes finds

pub returns-in-Ok : goal.returns-in-Ok
returns-in-Ok g c = (c.attempts.ensures.versions, Sealed _ c.seal_for.new.seat c.in-Ok.ensures c.attempts.ensures refl)

pub returns-in-Err : goal.returns-in-Err
returns-in-Err g c = ([], Unsealed c.in-Err.fault c.in-Err.ensures refl refl (ap Err c.of_step.ensures))
