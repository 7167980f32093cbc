use Rattle.std.proofs.Common.{ap}
use Rattle.core_state.specs.LakeStates.{lake_value}
use Rattle.lake_core.proofs.FaultLemmas.{kept_opened}
use Rattle.lake_core.proofs.OpeningLemmas.{stands_without}
use Rattle.lake_core.proofs.PairLemmas.{pairs_opened}
use Rattle.lake_core.proofs.lake.Lake.reopened.Goals as goal

pub invariant_of-result : goal.invariant_of-result
invariant_of-result g c = record {
  stands = stands_without _ _ _ c.requires.stands (ap lake_value c.of.ensures) c.new.ensures.items;
  keeper = kept_opened _ _ _ _ c.of-2.ensures c.new.ensures.items;
  pairs = pairs_opened _ _ _ _ _ c.requires.pairs;
}
