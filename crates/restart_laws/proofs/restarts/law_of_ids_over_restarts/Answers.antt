use Rattle.core_state.specs.LakeStates.{lake_value, state_of}
use Rattle.lake_core.specs.Lakes.{state}
use Rattle.restart_laws.proofs.IdLemmas.{ids_after, number_after}
use Rattle.restart_laws.proofs.restarts.law_of_ids_over_restarts.Goals as goal

pub returns-clause-commits : goal.returns-clause-commits
returns-clause-commits g c left view cut lake keeper again holds is parts tried_parts =
    ids_after c.law_of_identity.ensures.commits _ _ _ _ (c.law_of_restarts.ensures.tried left view cut lake keeper again holds is parts tried_parts)

pub returns-clause-garbage : goal.returns-clause-garbage
returns-clause-garbage g c left view cut lake keeper again holds is parts none =
    number_after (state lake) (state_of (lake_value again.opened)) (c.law_of_restarts.ensures.same left view cut lake keeper again holds is parts none)
