use Rattle.core_state.specs.LakeStates.{lake_value}
use Rattle.core_changes.proofs.SealLemmas.{next_unused}
use Rattle.core_changes.proofs.lake.seal.Goals as goal

pub change_at-requires-clause-possible : goal.change_at-requires-clause-possible
unfolding lake_value
change_at-requires-clause-possible c r here b there =
    next_unused c.args.lake.now.next_token b (c.requires.tokens c.args.repo.now r c.args.branch.now b here there)
