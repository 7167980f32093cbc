use Rattle.batch_laws.proofs.MomentPairs.{one_moment}
use Rattle.batch_laws.proofs.lines.law_of_one_moment.Goals as goal

pub returns : goal.returns
returns c = one_moment
