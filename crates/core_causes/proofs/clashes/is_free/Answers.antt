use Rattle.core_state.specs.LakeStates.{lake_value}
use Rattle.core_causes.proofs.ProvenanceLemmas.{trio_known}
use Rattle.core_causes.proofs.clashes.is_free.Goals as goal

pub has_range-requires-clause-known : goal.has_range-requires-clause-known
has_range-requires-clause-known c = trio_known (lake_value c.args.lake.now) c.args.provenance.now c.requires.found
