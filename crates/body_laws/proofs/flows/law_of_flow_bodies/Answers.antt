use Rattle.body_laws.proofs.FlowBodyLemmas.{flow_fits, fits_unchanged}
use Rattle.body_laws.proofs.flows.law_of_flow_bodies.Goals as goal

pub returns-clause-behind : goal.returns-clause-behind
returns-clause-behind c = flow_fits

pub returns-clause-unchanged : goal.returns-clause-unchanged
returns-clause-unchanged c = fits_unchanged
