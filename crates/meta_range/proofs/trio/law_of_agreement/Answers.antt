use Rattle.meta_range.proofs.TrioLemmas.{agree_or_clash}
use Rattle.meta_range.proofs.trio.law_of_agreement.Goals as goal

pub returns : goal.returns
returns c = agree_or_clash
