use Rattle.body_laws.proofs.StagedLemmas.{staged_held}
use Rattle.body_laws.proofs.kept.law_of_staged_bodies.Goals as goal

pub returns : goal.returns
returns c = staged_held
