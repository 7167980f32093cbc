use Rattle.lake_values.proofs.MergingLemmas.{get_merged}
use Rattle.plain_reference.proofs.merge.law_of_merging.Goals as goal

pub returns : goal.returns
returns c = get_merged
