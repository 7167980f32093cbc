use Rattle.lake_core.proofs.PairLemmas.{kept_at_rest, kept_or_tried}
use Rattle.lake_core.proofs.pairs.law_of_kept_pairs.Goals as goal

pub returns-clause-follow : goal.returns-clause-follow
returns-clause-follow g c view lake holds none = kept_at_rest _ _ _ _ (view.kept lake.keeper) none holds.pairs

pub returns-clause-tried : goal.returns-clause-tried
returns-clause-tried g c view lake holds = kept_or_tried _ _ _ _ (view.kept lake.keeper) holds.pairs

pub returns-clause-all : goal.returns-clause-all
returns-clause-all g c view lake holds = holds.pairs
