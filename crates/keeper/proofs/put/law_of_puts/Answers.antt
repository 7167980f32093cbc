use Rattle.keeper.proofs.PutLemmas.{get_after}
use Rattle.keeper.proofs.put.law_of_puts.Goals as goal

pub returns : goal.returns
returns c = get_after
